use Rattle.std.proofs.Common.{◌≡◌, ℕ, ◌+◌, ◌-◌, ◌%◌, ◌≤◌, ◌++◌, length, take, sym, ap, ◌∙◌, subst, arith, length-append}
use Rattle.cred_armor.specs.Armoring.{Armoring, spelled_from}
use Rattle.cred_armor.proofs.Begun.{IsBytes-append, begun_more, spelled_more, group_then_groups, split_twice, taken_more, whole_group}
use Rattle.cred_armor.proofs.armor_out.ArmorOut.spell.Goals as goal

pub invariant_of-self : goal.invariant_of-self
invariant_of-self c =
    let room : length c.args.part.now ≤ c.self.inside.left =
    subst (λ (armor : Armoring). length c.args.part.now ≤ armor.spare) (sym c.self.view_is) c.requires.room in
    let three : length c.append.new.group ≡ 3 = omega arith in
    let whole : length c.append.new.group % 3 ≡ 0 = omega arith in
    let both : length (c.append.new.group ++ c.split_at-2.result.0.now) % 3 ≡ 0 =
    omega (arith, length-append c.append.new.group c.split_at-2.result.0.now, c.split_at-2.ensures.front_len) in
    begun_more c.self.inside.out.bytes (c.append.new.group ++ c.split_at-2.result.0.now) c.put_base64.new.out.bytes c.self.inside.start
    c.self.inside.count c.self.inside.left c.self.inside.out.spare c.self.invariant
    (IsBytes-append c.append.new.group c.split_at-2.result.0.now c.put_group.ensures.bytes c.put_base64.ensures.bytes)
    (group_then_groups c.self.inside.out.bytes c.put_group.new.out.bytes c.put_base64.new.out.bytes c.append.new.group c.split_at-2.result.0.now whole
    c.put_group.ensures.appended c.put_base64.ensures.appended)
    (length c.split_at-2.result.1.now) (c.self.inside.left - length c.args.part.now) c.put_base64.new.out.spare both
    (omega (arith, c.split_at-2.ensures.back_len))
    (omega (arith, c.self.invariant.room, c.self.invariant.few, c.put_group.ensures.lowered, c.put_base64.ensures.lowered, c.split_at-2.ensures.back_len, c.split_at-2.ensures.front_len, c.split_at.ensures.back_len, c.split_at.ensures.front_len, room))

pub returns-clause-taken : goal.returns-clause-taken
returns-clause-taken c =
    let three : length c.append.new.group ≡ 3 = omega arith in
    let whole : length c.append.new.group % 3 ≡ 0 = omega arith in
    let behind : length c.split_at-2.result.1.now ≡ 0 + length c.split_at-2.result.1.now = omega arith in
    rw (← c.self.view_is)
    (taken_more (spelled_from c.self.inside.start c.self.inside.out.bytes) (take c.self.inside.count c.self.inside.waiting) c.split_at.result.0.now
    c.split_at-2.result.0.now c.split_at-2.result.1.now c.args.part.now c.append.new.group (spelled_from c.self.inside.start c.put_base64.new.out.bytes)
    (take (length c.split_at-2.result.1.now) c.append-2.new.group)
    (split_twice c.args.part.now c.split_at.result.0.now c.split_at.result.1.now c.split_at-2.result.0.now c.split_at-2.result.1.now _ _
    c.split_at.ensures.front c.split_at.ensures.back c.split_at-2.ensures.front c.split_at-2.ensures.back)
    (whole_group c.append.new.group _ _ c.append.ensures (omega (arith, c.split_at.ensures.front_len)))
    (spelled_more c.self.inside.out.bytes (c.append.new.group ++ c.split_at-2.result.0.now) c.put_base64.new.out.bytes c.self.inside.start
    c.self.inside.count c.self.inside.left c.self.inside.out.spare c.self.invariant
    (IsBytes-append c.append.new.group c.split_at-2.result.0.now c.put_group.ensures.bytes c.put_base64.ensures.bytes)
    (group_then_groups c.self.inside.out.bytes c.put_group.new.out.bytes c.put_base64.new.out.bytes c.append.new.group c.split_at-2.result.0.now whole
    c.put_group.ensures.appended c.put_base64.ensures.appended))
    (ap (λ (n : ℕ). take n c.append-2.new.group) behind ∙ c.append-2.ensures))
