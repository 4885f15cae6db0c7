use Rattle.std.proofs.Common.{◌+◌, ◌<◌, Some, sym, ap, ◌∙◌, inr, length, arith}
use Rattle.byte_io.specs.MemHall.{doors_of}
use Rattle.byte_io.proofs.HallLemmas.{place_below, first_at, none_from}
use Rattle.byte_io.proofs.memory.hall.MemHallHall.open_door.Goals as goal

pub remove-named-requires : goal.remove-named-requires
remove-named-requires c =
    let doors = c.self.inside.doors in
    let found = rw c.as_slice.ensures.value at (sym c.find_door.ensures ∙ c.in-Some.is) in
    let below : c.in-Some.place < 0 + length doors.items =
    place_below c.args.path.now 0 c.in-Some.place doors.items found in omega (arith, doors.ok.0)

pub returns-in-Some-clause-opened : goal.returns-in-Some-clause-opened
returns-in-Some-clause-opened c =
    let doors = c.self.inside.doors.items in
    let named = c.remove-named.result in
    let found = rw c.as_slice.ensures.value at (sym c.find_door.ensures ∙ c.in-Some.is) in
    let first = first_at c.args.path.now c.in-Some.place named doors found in
    rw (← c.self.view_is) (
      first.0 ∙ ap (λ named. Some named.door) (sym c.remove-named.ensures.value),
      ap Some (ap doors_of c.remove-named.ensures.items ∙ sym first.1),
    )

pub returns-in-Some-clause-absent : goal.returns-in-Some-clause-absent
returns-in-Some-clause-absent c = λ none.
    absurd (cc (sym none ∙ (returns-in-Some-clause-opened c).0))

pub returns-in-Some-clause-no_fault : goal.returns-in-Some-clause-no_fault
returns-in-Some-clause-no_fault c =
    let doors = c.self.inside.doors in
    let named = c.remove-named.result in
    let found = rw c.as_slice.ensures.value at (sym c.find_door.ensures ∙ c.in-Some.is) in
    let below : c.in-Some.place < length doors.items =
    omega (arith, place_below c.args.path.now 0 c.in-Some.place doors.items found) in
    rw c.remove-named.ensures.value (c.self.invariant c.in-Some.place named below)

pub returns-in-None-clause-only : goal.returns-in-None-clause-only
returns-in-None-clause-only c =
    let doors = c.self.inside.doors.items in
    let absent = rw c.as_slice.ensures.value at (sym c.find_door.ensures ∙ c.in-None.is) in
    λ _. inr (rw (← c.self.view_is) (none_from c.args.path.now 0 doors absent))
