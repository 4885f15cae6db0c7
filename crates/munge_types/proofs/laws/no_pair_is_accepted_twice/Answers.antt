use Rattle.munge_types.proofs.HistoryLemmas.{accepted-distinct, accepted_once}
use Rattle.munge_types.proofs.laws.no_pair_is_accepted_twice.Goals as goal

pub returns-clause-once : goal.returns-clause-once
returns-clause-once c = accepted-distinct

pub returns-clause-spent : goal.returns-clause-spent
returns-clause-spent c = accepted_once
