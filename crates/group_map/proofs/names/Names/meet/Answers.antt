use Rattle.group_map.proofs.NameLemmas.{meet-symm}
use Rattle.group_map.proofs.names.Names.meet.Goals as goal

pub returns-else-len : goal.returns-else-len
returns-else-len c = rw c.some_in-else-len.ensures (meet-symm c.args.others.now c.args.self.now)
