use Rattle.cred_open.proofs.Once.{refused_once}
use Rattle.cred_open.proofs.laws.refusal_is_one.Goals as goal

pub returns-clause-rule : goal.returns-clause-rule
returns-clause-rule c =
    λ key text rule rule' status status' first second. (refused_once c.text_spells_one_body.ensures key text first second).rule

pub returns-clause-status : goal.returns-clause-status
returns-clause-status c =
    λ key text rule rule' status status' first second. (refused_once c.text_spells_one_body.ensures key text first second).status
