use Rattle.option_file.proofs.FirstUnknownLemmas.{told-first}
use Rattle.option_file.proofs.laws.unknown_key_is_the_first.Goals as goal

pub returns : goal.returns
returns c = told-first
