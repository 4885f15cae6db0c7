-- What a session goes by.
use Rattle.std.specs.Prelude.{ℕ, List, Option}
use Rattle.munge_types.specs.declared.history.Event.{Event}
use Rattle.munge_types.specs.declared.identity.Identity.{Identity}
use Rattle.decode_rules.specs.Terms.{Terms, WorldFiles, terms_of}
use Rattle.decode_rules.specs.declared.world.World.{World}

-- the files, the settings and the caller; the seed, if there is one; and the history that the
-- replay state stood for when the session began
pub record Session : Type 0 where
  pub terms : Terms
  pub seed : Option (List ℕ)
  pub base : List Event

-- the session of a caller in a world that is made of these files
abbrev pub session_of : World → Identity → WorldFiles → Option (List ℕ) → List Event → Session
session_of world who files seed base =
    record { terms = terms_of world who files; seed = seed; base = base }
