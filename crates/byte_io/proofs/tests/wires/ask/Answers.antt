use Rattle.std.proofs.Common.{◌∙◌}
use Rattle.byte_io.proofs.tests.wires.ask.Goals as goal

pub returns-clause-path : goal.returns-clause-path
returns-clause-path g c =
    let laws = g.met.H.Wire in
    let after = laws.reads_leave_dialled _ _ c.read_full.ensures.beside
    ∙ laws.writes_leave_dialled _ _ c.write_all.ensures.beside in
    rw after c.in_ok-dial.ensures.path

pub returns-clause-doors : goal.returns-clause-doors
returns-clause-doors g c =
    let laws = g.met.H.Hall in
    laws.reads_leave_doors _ _ c.read_full.ensures.beside
    ∙ laws.writes_leave_doors _ _ c.write_all.ensures.beside
    ∙ laws.dials_leave_doors _ _ c.dial.ensures.beside
