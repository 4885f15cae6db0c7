use Rattle.std.proofs.Common.{take, arith}
use Rattle.std.proofs.lemmas.Grind.{common_steps}
use Rattle.cred_armor.proofs.Begun.{armored_whole, bytes_whole}
use Rattle.cred_armor.proofs.armor_out.ArmorOut.finish.Goals as goal

pub returns-clause-armored : goal.returns-clause-armored
returns-clause-armored c =
    rw (← c.self.view_is)
    (armored_whole c.self.inside.out.bytes (take c.self.inside.count c.self.inside.waiting) _ c.put_group.new.out.bytes c.put.new.self.bytes
    c.self.inside.start c.self.inside.count c.self.inside.left c.self.inside.out.spare c.self.invariant c.put_group.ensures.bytes
    c.put_group.ensures.appended (rw c.as_bytes.ensures.value at c.put.ensures.appended) (grind (arith, common_steps)))

pub returns-clause-bytes : goal.returns-clause-bytes
returns-clause-bytes c =
    rw (← c.self.view_is)
    (bytes_whole _ (take c.self.inside.count c.self.inside.waiting) _ c.self.invariant.bytes_of c.put_group.ensures.bytes (grind (arith, common_steps)))
