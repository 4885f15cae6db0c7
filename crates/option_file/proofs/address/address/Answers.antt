use Rattle.std.proofs.Common.{◌∙◌}
use Rattle.option_file.proofs.AddressLemmas.{address-by-cuts}
use Rattle.option_file.proofs.address.address.Goals as goal

pub returns : goal.returns
returns c = c.by_cuts.ensures ∙ address-by-cuts c.args.text.now
