use Rattle.std.proofs.Common.{refl}
use Rattle.session_core.proofs.reached.reach_seal.Goals as goal

pub returns-in-Ok-seal_reply-clause-comes : goal.returns-in-Ok-seal_reply-clause-comes
returns-in-Ok-seal_reply-clause-comes g c = λ files number is. (
  refl,
  record {
    moment = c.in-Ok.moment;
    drawn = c.draw-drawn.result.place;
    notes_are = refl;
    reply_is = rw (c.of.ensures, c.draw-drawn.ensures.place, ← c.draw-drawn.ensures.salt, ← c.draw-drawn.ensures.vector)
        (c.in-Ok-seal_reply.ensures files is);
  },
)
