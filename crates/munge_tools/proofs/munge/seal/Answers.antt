use Rattle.std.proofs.Common.{refl}
use Rattle.munge_tools.specs.Munge.{answered, no_payload, unheard}
use Rattle.munge_tools.proofs.munge.seal.Goals as goal

pub returns-in-Err-clause-came : goal.returns-in-Err-clause-came
returns-in-Err-clause-came g c = no_payload c.in-Err.ensures.none refl refl

pub returns-in-Ok-ask_to_seal-clause-came : goal.returns-in-Ok-ask_to_seal-clause-came
returns-in-Ok-ask_to_seal-clause-came g c =
    answered c.in-Ok.payload (record { is_payload = c.in-Ok.ensures.payload; within = c.in-Ok.ensures.within })
    c.in-Ok-ask_to_seal.said c.in-Ok-ask_to_seal.ensures.fits c.in-Ok-ask_to_seal.ensures.heard c.answer.ensures.answered

pub returns-in-Err-ask_to_seal-clause-came : goal.returns-in-Err-ask_to_seal-clause-came
returns-in-Err-ask_to_seal-clause-came g c =
    unheard c.in-Ok.payload (record { is_payload = c.in-Ok.ensures.payload; within = c.in-Ok.ensures.within })
    c.in-Err-ask_to_seal.why c.in-Err-ask_to_seal.ensures.unheard refl c.of.ensures
