use Rattle.byte_io.proofs.memory.wire.MemWireSource.read.Goals as goal

pub returns-clause-source : goal.returns-clause-source
returns-clause-source c = rw (← c.self.view_is) (
  c.read.ensures.planned,
  c.read.ensures.err,
  c.read.ensures.ok,
  c.read.ensures.count,
  c.read.ensures.front,
)
