-- What an option file says.
use Rattle.std.specs.Prelude.{ℕ, List, [], min, map, codes}
use Rattle.std.specs.declared.option.Option.{Option}
use Rattle.toml.specs.Data.{Members}
use Rattle.option_file.specs.Refusals.{table_in}
use Rattle.option_file.specs.Rules.{max_ttl_of}
use Rattle.option_file.specs.Sockets.{line_of}
use Rattle.option_file.specs.Values.{at_key, text_if, text_or, whole_or, address_or_none, list_or_none}
use Rattle.option_file.specs.declared.key.Key.TheVariants as key
use Rattle.option_file.specs.declared.sockets.SocketLine.{SocketLine}

-- times are in seconds
pub record Configuration : Type 0 where
  pub key : List ℕ
  pub seed : List ℕ
  pub passwd : Option (List ℕ)
  pub group : Option (List ℕ)
  pub max_ttl : ℕ
  pub default_ttl : ℕ
  pub skew : ℕ
  pub interval : ℕ
  pub addr : List ℕ
  pub workers : ℕ
  pub queue : ℕ
  pub sockets : List SocketLine

-- what a file's table says, with what stands for each key that is not there
abbrev pub configuration_in : Members → Configuration
configuration_in members = record {
  key = text_or [] (at_key key.KeyFile members);
  seed = text_or (codes "/dev/urandom") (at_key key.Seed members);
  passwd = text_if (at_key key.Passwd members);
  group = text_if (at_key key.Group members);
  max_ttl = max_ttl_of members;
  default_ttl = whole_or (min 300 (max_ttl_of members)) (at_key key.DefaultTtl members);
  skew = whole_or 300 (at_key key.Skew members);
  interval = whole_or 60 (at_key key.PurgeInterval members);
  addr = address_or_none (at_key key.Address members);
  workers = whole_or 4 (at_key key.Workers members);
  queue = whole_or 64 (at_key key.Queue members);
  sockets = map line_of (list_or_none (at_key key.Socket members));
}

-- what a file says that is not refused
abbrev pub configuration_of : List ℕ → Configuration
configuration_of bytes = configuration_in (table_in bytes)
