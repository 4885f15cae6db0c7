-- Which faults a call that served a connection met.
use Rattle.std.specs.Prelude.{◌≡◌, ℕ}
use Rattle.byte_io.specs.Counts.{Rose}
use Rattle.session_core.specs.declared.served.ServeEnd.{ServeEnd}
use Rattle.session_core.specs.declared.served.ServeEnd.TheVariants as how

-- how often reads and writes of a connection failed
pub record LinkFaults : Type 0 where
  pub reads : ℕ
  pub writes : ℕ

abbrev pub link_faults_of : (reads writes : ℕ) → LinkFaults
link_faults_of reads writes = record { reads = reads; writes = writes }

-- neither count moved
abbrev pub AreUnmoved : (before after : LinkFaults) → Type 0
AreUnmoved before after = (after.reads ≡ before.reads) × (after.writes ≡ before.writes)

-- a fault of the connection is told where its count rose; the other count did not move, and neither
-- did where no such fault is told
abbrev pub LinkCausedBy : (before after : LinkFaults) → ServeEnd → Type 0
LinkCausedBy before after how.ReadFault =
    Rose before.reads after.reads × (after.writes ≡ before.writes)
LinkCausedBy before after how.WriteFault =
    (after.reads ≡ before.reads) × Rose before.writes after.writes
LinkCausedBy before after how.ClockFault = AreUnmoved before after
LinkCausedBy before after how.Done = AreUnmoved before after
LinkCausedBy before after how.Stopped = AreUnmoved before after
LinkCausedBy before after how.Quiet = AreUnmoved before after
LinkCausedBy before after how.Malformed = AreUnmoved before after
LinkCausedBy before after how.NoMemory = AreUnmoved before after
LinkCausedBy before after (how.Worn ticket) = AreUnmoved before after

-- a fault of the clock is told where the count of its faults rose, and the count stands else
abbrev pub ClockCausedBy : (before after : ℕ) → ServeEnd → Type 0
ClockCausedBy before after how.ClockFault = Rose before after
ClockCausedBy before after how.ReadFault = after ≡ before
ClockCausedBy before after how.WriteFault = after ≡ before
ClockCausedBy before after how.Done = after ≡ before
ClockCausedBy before after how.Stopped = after ≡ before
ClockCausedBy before after how.Quiet = after ≡ before
ClockCausedBy before after how.Malformed = after ≡ before
ClockCausedBy before after how.NoMemory = after ≡ before
ClockCausedBy before after (how.Worn ticket) = after ≡ before

-- how often reads and writes of a connection failed, and calls of the clock that it was served with
pub record Faults : Type 0 where
  pub reads : ℕ
  pub writes : ℕ
  pub clock : ℕ

abbrev pub faults_of : (reads writes clock : ℕ) → Faults
faults_of reads writes clock = record { reads = reads; writes = writes; clock = clock }

-- those of the connection alone
abbrev pub link_faults : Faults → LinkFaults
link_faults faults = link_faults_of faults.reads faults.writes

-- a fault is told where its count rose; no other count moved, and none where no fault is told
abbrev pub CausedBy : (before after : Faults) → ServeEnd → Type 0
CausedBy before after end =
    LinkCausedBy (link_faults before) (link_faults after) end
    × ClockCausedBy before.clock after.clock end
