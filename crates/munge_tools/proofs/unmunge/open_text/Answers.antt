use Rattle.std.proofs.Common.{arith, refl}
use Rattle.munge_tools.specs.Unmunge.{answered, no_text, unheard}
use Rattle.munge_tools.proofs.unmunge.open_text.Goals as goal

pub returns-in-Err-clause-came : goal.returns-in-Err-clause-came
returns-in-Err-clause-came g c = no_text c.in-Err.ensures.none refl refl

pub returns-in-Ok-ask_to_open-clause-came : goal.returns-in-Ok-ask_to_open-clause-came
returns-in-Ok-ask_to_open-clause-came g c =
    answered c.in-Ok.text.items (record { whole = c.in-Ok.ensures.whole; within = omega (arith, c.in-Ok.ensures.within, c.in-Ok.text.ok.0) })
    c.in-Ok-ask_to_open.said c.in-Ok-ask_to_open.ensures.fits (rw c.of.ensures at c.in-Ok-ask_to_open.ensures.heard) c.show.ensures.shown

pub returns-in-Err-ask_to_open-clause-came : goal.returns-in-Err-ask_to_open-clause-came
returns-in-Err-ask_to_open-clause-came g c =
    unheard c.in-Ok.text.items (record { whole = c.in-Ok.ensures.whole; within = omega (arith, c.in-Ok.ensures.within, c.in-Ok.text.ok.0) })
    c.in-Err-ask_to_open.why (rw c.of.ensures at c.in-Err-ask_to_open.ensures.unheard) refl c.of-in-Err-ask_to_open.ensures
