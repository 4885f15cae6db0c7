use Rattle.group_map.proofs.NameLemmas.{inserted}
use Rattle.group_map.proofs.names.Names.insert.Goals as goal

pub returns : goal.returns
returns c = λ sought. rw (← c.self.view_is) (inserted c.args.name sought c.self.inside.set.keys c.insert.new.self.keys (c.in_ok-insert.ensures.updates.0 sought))
