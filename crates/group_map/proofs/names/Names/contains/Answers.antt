use Rattle.group_map.proofs.NameLemmas.{list_any-ordered}
use Rattle.group_map.proofs.names.Names.contains.Goals as goal

pub returns : goal.returns
returns c = rw (c.contains.ensures, ← c.self.view_is) (list_any-ordered c.args.name.now c.self.inside.set.keys)
