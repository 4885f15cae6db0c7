use Rattle.std.proofs.Common.{subst}
use Rattle.group_map.specs.GroupMap.{IsOfFiles}
use Rattle.group_map.proofs.map.GroupMap.is_of_files.Goals as goal

pub returns : goal.returns
returns c = subst IsOfFiles c.self.view_is c.self.invariant
