use Rattle.option_file.proofs.FirstUnknownLemmas.{untold-known}
use Rattle.option_file.proofs.laws.no_key_is_unknown.Goals as goal

pub returns : goal.returns
returns c = untold-known
