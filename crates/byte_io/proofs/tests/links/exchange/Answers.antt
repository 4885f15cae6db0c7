use Rattle.std.proofs.Common.{◌∙◌}
use Rattle.byte_io.proofs.tests.links.exchange.Goals as goal

-- the laws of `Link` hold on every thread, and are asked for on this one
pub returns-clause-rings : goal.returns-clause-rings
returns-clause-rings g c =
    let laws = g.met.L.Link g.world.𝓛 g.world.𝓜 g.world.𝓡 ((λ s x. x), (λ x. x), (λ x. x), λ x. x) in
    laws.writes_leave_rings _ _ c.write_all-written.ensures.beside
    ∙ laws.reads_leave_rings _ _ c.read_full-read.ensures.beside
