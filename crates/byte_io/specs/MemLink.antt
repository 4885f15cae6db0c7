-- A connection in memory.
use Rattle.std.specs.Prelude.{ℕ}
use Rattle.byte_io.specs.MemSink.{SinkState}
use Rattle.byte_io.specs.MemSource.{SourceState}

-- what a connection in memory is to its callers: what is read of it, what is written to it, and how
-- often the service was asked to stop
pub record LinkState : Type 0 where
  pub source : SourceState
  pub sink : SinkState
  pub rings : ℕ
