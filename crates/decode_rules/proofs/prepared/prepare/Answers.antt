use Rattle.std.proofs.Common.{None}
use Rattle.decode_rules.proofs.PreparedTexts.{prepared_of_judged}
use Rattle.decode_rules.specs.Finding.{unopened}
use Rattle.decode_rules.proofs.prepared.prepare.Goals as goal

pub returns-in_ok-prepared-in-Ok : goal.returns-in_ok-prepared-in-Ok
returns-in_ok-prepared-in-Ok c = λ files is.
    prepared_of_judged _ _ _ _ c.in_ok-prepared-in-Ok.prepared (c.in-Ok.ensures.opened files.key is.subkeys) (rw c.lent.ensures at (c.in_ok-prepared-in-Ok.ensures files is))

pub returns-in_ok-reply-in-Err-Failed : goal.returns-in_ok-reply-in-Err-Failed
returns-in_ok-reply-in-Err-Failed c = λ files is.
    let broken = c.in-Err-Failed.broken in
    let refused = rw c.in-Err-Failed.field-0-is at (c.in-Err-Failed.ensures.refused files.key is.subkeys) in
    record {
      rule = broken.rule;
      status = broken.status;
      credential = None;
      finds = unopened refused;
      reply_is = rw c.in-Err-Failed.field-0-is at c.in_ok-reply-in-Err-Failed.ensures;
    }
