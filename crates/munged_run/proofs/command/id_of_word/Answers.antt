use Rattle.std.proofs.Common.{sym}
use Rattle.munged_run.proofs.NumberLemmas.{id_of-unread}
use Rattle.munged_run.proofs.command.id_of_word.Goals as goal

pub returns-in_default : goal.returns-in_default
returns-in_default c = sym (id_of-unread c.args.word.now c.in_default.ensures.value.0 (sym c.if-not-is_number.ensures))
