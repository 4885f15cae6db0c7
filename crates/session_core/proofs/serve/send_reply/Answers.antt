use Rattle.std.proofs.Common.{take}
use Rattle.session_core.proofs.EndLemmas.{proper_prefix}
use Rattle.session_core.proofs.serve.send_reply.Goals as goal

-- the laws of `Link` hold on every thread, and are asked for on this one
pub returns-in-Failed-clause-sends : goal.returns-in-Failed-clause-sends
returns-in-Failed-clause-sends g c =
    let laws = g.met.L.Link g.world.𝓛 g.world.𝓜 g.world.𝓡 ((λ s x. x), (λ x. x), (λ x. x), λ x. x) in
    record {
      written = take c.in-Failed.field-0 c.args.reply.now;
      appended = rw c.bytes.ensures.same at c.in-Failed.ensures.appended;
      front = proper_prefix c.in-Failed.field-0 c.args.reply.now (rw c.bytes.ensures.same at c.in-Failed.ensures.below);
      quiet = laws.writes_leave_rings _ _ c.in-Failed.ensures.beside;
    }
