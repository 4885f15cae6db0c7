use Rattle.std.proofs.lemmas.List.Elements.{All-drop}
use Rattle.byte_io.specs.MemDoor.{HasNoFault}
use Rattle.byte_io.proofs.memory.door.MemDoorDoor.accept.Goals as goal

-- those that are left were among those that had no fault
pub invariant_of-self-2 : goal.invariant_of-self-2
invariant_of-self-2 c =
    rw c.pop_front.ensures.rest (All-drop HasNoFault 1 c.self.inside.coming.items c.self.invariant)
