use Rattle.cred_open.proofs.Once.{refused_not_opened}
use Rattle.cred_open.proofs.laws.refused_is_not_opened.Goals as goal

pub returns : goal.returns
returns c =
    λ key text rule status credential refuses opens.
    refused_not_opened c.text_spells_one_body.ensures c.body_has_one_inner_part.ensures.inner key text credential refuses opens
