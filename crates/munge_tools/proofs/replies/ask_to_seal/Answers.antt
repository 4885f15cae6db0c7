use Rattle.munge_tools.specs.Fitting.{FitsEncode}
use Rattle.munge_tools.proofs.ExchangeLemmas.{not_heard_of_any, unfit_whole}
use Rattle.munge_tools.proofs.replies.ask_to_seal.Goals as goal

pub returns-in-Ok-clause-unheard : goal.returns-in-Ok-clause-unheard
returns-in-Ok-clause-unheard g c =
    unfit_whole (record { one = c.frame_has_one_message.ensures; whole = c.no_frame_goes_on_to_another.ensures }) FitsEncode _ _ _ _ c.in-Ok.message
    c.in-None.ensures.none c.in-Ok.ensures.heard

pub returns-clause-unheard : goal.returns-clause-unheard
returns-clause-unheard g c = not_heard_of_any FitsEncode _ _ _ _ c.in-Err.why c.in-Err.ensures.unheard
