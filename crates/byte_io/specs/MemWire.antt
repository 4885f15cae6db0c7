-- A wire in memory.
use Rattle.std.specs.Prelude.{◌≡◌, ℕ, List, [], ◌∷◌, ◌++◌, Some, Result, Contains, IsErr, OnOk, OnErr}
use Rattle.byte_io.specs.Counts.{raised}
use Rattle.byte_io.specs.MemSink.{SinkState}
use Rattle.byte_io.specs.MemSource.{SourceState}
use Rattle.byte_io.specs.TakesFirst.{TakesFirst}

-- what a wire in memory is to its callers: what is read of the connection, and what was written to
-- all; the replies to come, and the paths dialled; the numbers of the dials that fail, counted from
-- 1; the dials made, and those that failed
pub record WireState : Type 0 where
  pub source : SourceState
  pub sink : SinkState
  pub replies : List (List ℕ)
  pub dialled : List (List ℕ)
  pub fails : List ℕ
  pub dials : ℕ
  pub faults : ℕ

-- a dial fails where its number says so, and one that fails changes counts alone; one that does not
-- appends its path, and the first reply to come is taken out and becomes the bytes left
abbrev pub DialsReply : {T E : Type 0} → WireState → WireState → Result T E → List ℕ → Type 0
DialsReply old new result path =
    (Contains old.fails (raised old.dials) → IsErr result)
    × OnErr result (new ≡ record old { dials = raised old.dials; faults = raised old.faults })
    × OnOk result (new ≡ record old {
      source = record old.source { left = new.source.left };
      replies = new.replies;
      dialled = old.dialled ++ path ∷ [];
      dials = raised old.dials;
    })
    × OnOk result (TakesFirst (Some old.replies) (Some new.replies) (Some new.source.left))
