-- A source in memory.
use Rattle.std.specs.Prelude.{◌≡◌, ℕ, ◌==◌, ◌&&◌, ◌↔◌, List, length, min, take, drop, nat_lt, if◌then◌else◌, Result, Contains, IsErr, IfOk, OnErr}
use Rattle.byte_io.specs.Counts.{raised}

-- what a source in memory is to its callers: the bytes left; the most that one read gives, or 0 for
-- no bound; the numbers of the reads that fail, counted from 1; the reads made, the reads that
-- failed, and those that found the end
pub record SourceState : Type 0 where
  pub left : List ℕ
  pub piece : ℕ
  pub fails : List ℕ
  pub reads : ℕ
  pub faults : ℕ
  pub ends : ℕ

-- the most that one read gives into so much room
abbrev pub bound_of : ℕ → ℕ → ℕ
bound_of piece room = if piece == 0 then room else min room piece

-- the source after a read of n bytes into so much room
abbrev pub after_read : SourceState → ℕ → ℕ → SourceState
after_read s n room = record s {
  left = drop n s.left;
  reads = raised s.reads;
  ends = if (n == 0) && (nat_lt 0 room) then raised s.ends else s.ends;
}

-- the source after a read that failed
abbrev pub after_failed_read : SourceState → SourceState
after_failed_read s = record s { reads = raised s.reads; faults = raised s.faults }

-- a read fails where its number says so, and else gives the front of the bytes left
abbrev pub ReadsFront : {E : Type 0} → SourceState → SourceState → Result ℕ E → List ℕ → Type 0
ReadsFront old new result into =
    (IsErr result ↔ Contains old.fails (raised old.reads))
    × OnErr result (new ≡ after_failed_read old)
    × IfOk result (λ n. new ≡ after_read old n (length into))
    × IfOk result (λ n. n ≡ min (bound_of old.piece (length into)) (length old.left))
    × IfOk result (λ n. take n into ≡ take n old.left)
