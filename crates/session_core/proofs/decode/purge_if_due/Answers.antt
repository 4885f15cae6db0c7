use Rattle.std.proofs.Common.{refl}
use Rattle.session_core.proofs.KeptLemmas.{live_after_purge}
use Rattle.session_core.proofs.decode.purge_if_due.Goals as goal

pub returns-clause-live : goal.returns-clause-live
returns-clause-live g c = live_after_purge _ _ c.args.moment c.purge.ensures.stands (c.purge.ensures.only_live (c.purge.ensures.whole refl))
