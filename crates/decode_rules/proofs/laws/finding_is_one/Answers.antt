use Rattle.decode_rules.proofs.Findings.{finding_one}
use Rattle.decode_rules.proofs.laws.finding_is_one.Goals as goal

pub returns : goal.returns
returns c = λ terms moment text first second.
    finding_one terms moment text first second
    (record {
      rule_one = c.refusal_is_one.ensures.rule terms.files.key text;
      status_one = c.refusal_is_one.ensures.status terms.files.key text;
      not_both = c.refused_is_not_opened.ensures terms.files.key text;
      credential_one = c.credential_is_one.ensures terms.files.key text;
    })
