-- A load: a world, the texts of credentials, and who presents them when.
use Rattle.std.specs.Prelude.{◌≡◌, ℕ, false, [], ◌∷◌, vec_len}
use Rattle.munge_types.specs.declared.identity.Identity.{Identity}
use Rattle.munge_types.specs.declared.settings.Settings.{Settings}
use Rattle.decode_rules.specs.Terms.{IsMadeOf, WorldFiles}
use Rattle.load_maker.specs.Credentials.{AreCredentials, moment}
use Rattle.load_maker.specs.Words.{key_of, seed_of}
use Rattle.load_maker.specs.declared.making.Load.{Load}

-- the settings are the usual ones
pub record IsUsual (settings : Settings) : Type 0 where
  pub default_ttl : settings.default_ttl ≡ 300
  pub max_ttl : settings.max_ttl ≡ 3600
  pub skew : settings.skew ≡ 300
  pub addr : settings.addr ≡ 0 ∷ 0 ∷ 0 ∷ 0 ∷ []

-- the files of a number's world: the key is drawn from its seed, and there are no groups
abbrev pub files_of : (number : ℕ) → WorldFiles
files_of number = record { key = key_of (seed_of number); passwd = []; group = [] }

-- who presents each credential
abbrev pub presenter : Identity
presenter = record { uid = 1000; gid = 100; control = false }

-- The load of n credentials that this number stands for. Each is presented at the moment at which
-- it was sealed. At the last moment those with the shorter time to live have expired.
pub record IsLoad (n number : ℕ) (load : Load) : Type 0 where
  pub world : IsMadeOf load.world (files_of number)
  pub settings : IsUsual load.world.settings
  pub who : load.who ≡ presenter
  pub at : load.moment ≡ moment
  pub last : load.last ≡ 1000200
  pub count : vec_len load.texts ≡ n
  pub texts : AreCredentials (seed_of number) load.world.settings load.texts.items
