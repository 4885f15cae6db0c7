use Rattle.group_map.proofs.map.GroupMap.read.Goals as goal

pub invariant_of-result : goal.invariant_of-result
invariant_of-result c =
    ∣ (
      c.args.passwd.now,
      (c.args.group.now, record { users_are = c.in_ok-users.ensures.holds; lists_are = c.in_ok-lists.ensures.holds }),
    ) ∣₁
