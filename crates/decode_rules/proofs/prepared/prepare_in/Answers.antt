use Rattle.std.proofs.Common.{None}
use Rattle.decode_rules.proofs.PreparedTexts.{prepared_of_judged}
use Rattle.decode_rules.specs.Finding.{unopened}
use Rattle.decode_rules.proofs.prepared.prepare_in.Goals as goal

pub returns-in_ok-prepared-in-Ok : goal.returns-in_ok-prepared-in-Ok
returns-in_ok-prepared-in-Ok c = λ files is.
    prepared_of_judged _ _ _ _ c.in_ok-prepared-in-Ok.prepared (c.in-Ok.ensures.opened files.key is.subkeys) (c.in_ok-prepared-in-Ok.ensures files is)

pub returns-in_ok-reply-in-Err : goal.returns-in_ok-reply-in-Err
returns-in_ok-reply-in-Err c = λ files is.
    record {
      rule = c.in-Err.broken.rule;
      status = c.in-Err.broken.status;
      credential = None;
      finds = unopened (c.in-Err.ensures.refused files.key is.subkeys);
      reply_is = c.in_ok-reply-in-Err.ensures;
    }
