use Rattle.std.proofs.Common.{◌≡◌, ℕ, ◌||◌, List, length, map}
use Rattle.group_map.specs.GroupLine.{listed_names}
use Rattle.group_map.specs.GroupMap.{has, stands_beside}
use Rattle.group_map.proofs.reading.add_listed.Given as goal

-- What the table has and what the rest adds is what it had and what the whole list adds.
abbrev pub invariant-users : goal.invariant-users
invariant-users l =
    (number : ℕ) (name : List ℕ)
    → (has number name l.table || stands_beside number name (map (λ user. (l.gid, user)) (listed_names l.rest)))
    ≡ (has number name l.initial.table || stands_beside number name (map (λ user. (l.gid, user)) (listed_names l.initial.rest)))

abbrev pub decreases-users : goal.decreases-users
decreases-users l = length l.rest
