-- What a session comes to, from what the program called.
use Rattle.std.proofs.Common.{◌≡◌, ℕ, List, [], Option, subst}
use Rattle.munge_types.specs.StandsFor.{Remembered}
use Rattle.munge_types.specs.declared.identity.Identity.{Identity}
use Rattle.munge_types.specs.declared.settings.Settings.{Settings}
use Rattle.session_core.specs.SessionRan.{SessionRan}
use Rattle.session_core.specs.Things.{Outside, things_of}
use Rattle.session_core.specs.declared.end.SessionEnd.{SessionEnd}
use Rattle.load_maker.specs.Load.{IsUsual}
use Rattle.munged_run.specs.CommandLine.{AskedSession, caller_of}
use Rattle.munged_files.specs.Ending.{Ending}
use Rattle.munged_run.specs.AfterSession.{after_session}
use Rattle.munged_files.specs.KeyFile.{HoldsKey}
use Rattle.munged_run.specs.Program.{Answered, nothing_remembered}
use Rattle.munged_files.specs.SeedFile.{IsSeedOf}

-- a new replay state remembers nothing
pub new_is : (state : Remembered) → state.floor ≡ 0 → state.pairs ≡ []
    → state ≡ nothing_remembered
new_is state floor pairs = λ i. record { floor = floor i; pairs = pairs i }

-- the session of these parts ran
pub session_answered : (files : Option (List (List ℕ × List ℕ))) (asked : AskedSession)
    (before after : Outside) (how : Ending) (key : List ℕ) (seed : Option (List ℕ))
    (settings : Settings) (who : Identity) (end : SessionEnd) (old new : Remembered)
    → HoldsKey files asked.key_file key → IsSeedOf files asked.seed_file seed → IsUsual settings
    → who ≡ caller_of asked → old.floor ≡ 0 → old.pairs ≡ []
    → SessionRan (record {
      terms = record {
        files = record { key = key; passwd = []; group = [] };
        settings = settings;
        who = who;
      };
      seed = seed;
      base = [];
    }) end (things_of before old) (things_of after new)
    → how ≡ after_session end.how → Answered files asked before after how
session_answered files asked before after how key seed settings who end old new holds seeded usual who_is floor pairs ran how_is =
    record {
      key = key;
      holds = holds;
      seed = seed;
      seeded = seeded;
      settings = settings;
      usual = usual;
      end = end;
      replay = new;
      ran = subst (λ w. SessionRan (record {
        terms = record {
          files = record { key = key; passwd = []; group = [] };
          settings = settings;
          who = w;
        };
        seed = seed;
        base = [];
      }) end (things_of before nothing_remembered) (things_of after new)) who_is
          (subst (λ s. SessionRan (record {
            terms = record {
              files = record { key = key; passwd = []; group = [] };
              settings = settings;
              who = who;
            };
            seed = seed;
            base = [];
          }) end (things_of before s) (things_of after new)) (new_is old floor pairs) ran);
      how_is = how_is;
    }
