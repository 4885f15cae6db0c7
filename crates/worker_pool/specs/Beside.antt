-- What threads do beside each other, each with a piece of its own.
use Rattle.std.specs.Prelude.{ℕ, List}
use Rattle.std.specs.Fork.{AcceptsEach, ChangesEach}
use denote.Param.Members.{Shared}
use denote.Ref.{MutBor}

module _ {F T : Type 0}
    (calls : Shared F (ℕ × (MutBor T × Unit {0})) (Unit {0} × (MutBor T × Unit {0})))
    (work : F) where
  -- the work may begin with each of these pieces
  pub record MayBegin (pieces : List T) : Type 0 where
    pub each : AcceptsEach calls work pieces

  -- the work was done with each of them
  pub record EachDone (before after : List T) : Type 0 where
    pub each : ChangesEach calls work before after
