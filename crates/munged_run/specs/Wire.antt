-- What contracts see of a wire, and of one dial on it.
use Rattle.std.specs.Prelude.{◌≡◌, ℕ, ◌⊎◌, List, Option}
use Rattle.std.specs.Io.KnownBytes.{Appends, Consumes, IsAtEnd}
use Rattle.byte_io.specs.Counts.{Rose}
use Rattle.byte_io.specs.Dials.{Dials}
use Rattle.byte_io.specs.TakesFirst.{TakesFirst}

-- the paths of the dials that succeeded, the replies still to come, the bytes left of the reply to
-- the last dial, and the bytes taken on all connections, where these are told; how many reads found
-- the end; and how many dials, reads and writes failed
pub record WireSeen : Type 0 where
  pub dialled : Option (List (List ℕ))
  pub replies : Option (List (List ℕ))
  pub left : Option (List ℕ)
  pub taken : Option (List ℕ)
  pub ends : ℕ
  pub dial_faults : ℕ
  pub read_faults : ℕ
  pub write_faults : ℕ

-- what is seen of it by these members of its trait
abbrev pub seen_by : {W : Type 0} → (dialled replies : W → Option (List (List ℕ)))
    → (left taken : W → Option (List ℕ))
    → (ends dial_faults read_faults write_faults : W → ℕ) → W → WireSeen
seen_by dialled replies left taken ends dial_faults read_faults write_faults wire =
    record {
      dialled = dialled wire;
      replies = replies wire;
      left = left wire;
      taken = taken wire;
      ends = ends wire;
      dial_faults = dial_faults wire;
      read_faults = read_faults wire;
      write_faults = write_faults wire;
    }

-- a dial, a read or a write failed
abbrev pub WireFailed : (before after : WireSeen) → Type 0
WireFailed before after =
    Rose before.dial_faults after.dial_faults
    ⊎ (Rose before.read_faults after.read_faults ⊎ Rose before.write_faults after.write_faults)

-- none did
pub record WireSound (before after : WireSeen) : Type 0 where
  pub dials : after.dial_faults ≡ before.dial_faults
  pub reads : after.read_faults ≡ before.read_faults
  pub writes : after.write_faults ≡ before.write_faults

-- no dial succeeded, and nothing was written or read
pub record Undialled (before after : WireSeen) : Type 0 where
  pub dialled : after.dialled ≡ before.dialled
  pub replies : after.replies ≡ before.replies
  pub left : after.left ≡ before.left
  pub taken : after.taken ≡ before.taken
  pub ends : after.ends ≡ before.ends

-- one dial succeeded, to this path; then these bytes were written, and these were read of the reply
pub record Dialled (path : List ℕ) (before after : WireSeen) (written read : List ℕ)
    : Type 0 where
  pub dials : Dials before.dialled after.dialled path
  pub opened : Option (List ℕ)
  pub reply : TakesFirst before.replies after.replies opened
  pub writes : Appends before.taken after.taken written
  pub reads : Consumes opened after.left read

-- the reply came to its end: a read found it, and nothing is left where that is told
pub record ReplyEnded (before after : WireSeen) : Type 0 where
  pub found : Rose before.ends after.ends
  pub nothing_left : IsAtEnd after.left
