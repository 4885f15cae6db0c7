-- What a history of the replay state comes to: its floor, the pairs that it accepted, and what it
-- says of a pair. All of it looks through every event since the first.
use Rattle.std.specs.Prelude.{ℕ, max, nat_lt, if◌then◌else◌, List, [], ◌∷◌, ◌++◌, reverse}
use Rattle.std.specs.List.{list_any}
use Rattle.munge_types.specs.Pair.{pair_eq}
use Rattle.munge_types.specs.declared.pair.Pair.{Pair}
use Rattle.munge_types.specs.declared.history.Event.{Event}
use Rattle.munge_types.specs.declared.history.Event.TheVariants.{Admit, Purge, Idle}
use Rattle.munge_types.specs.declared.history.Verdict.{Verdict}
use Rattle.munge_types.specs.declared.history.Verdict.TheVariants.{Accepted, Expired, Replayed}

-- the greatest moment of the purges among the events, and 0 where there is none
abbrev pub floor_among : List Event → ℕ
floor_among [] = 0
floor_among (Admit pass pair moment ∷ events) = floor_among events
floor_among (Purge pass moment ∷ events) = max moment (floor_among events)
floor_among (Idle pass ∷ events) = floor_among events

-- what is said of a pair at a moment, where this is the floor and these pairs were accepted before
abbrev pub verdict_among : ℕ → List Pair → Pair → ℕ → Verdict
verdict_among floor accepted pair moment =
    if nat_lt pair.expiry (max moment floor) then Expired
    else if list_any (pair_eq pair) accepted then Replayed
    else Accepted

-- the pairs, and then the pair where it is accepted
abbrev pub with_accepted : Verdict → List Pair → Pair → List Pair
with_accepted Accepted pairs pair = pairs ++ pair ∷ []
with_accepted Expired pairs pair = pairs
with_accepted Replayed pairs pair = pairs

-- the pairs that were accepted, for the events with the latest first
abbrev pub accepted_back : List Event → List Pair
accepted_back [] = []
accepted_back (Admit pass pair moment ∷ earlier) =
    let said = verdict_among (floor_among earlier) (accepted_back earlier) pair moment in
    with_accepted said (accepted_back earlier) pair
accepted_back (Purge pass moment ∷ earlier) = accepted_back earlier
accepted_back (Idle pass ∷ earlier) = accepted_back earlier

-- the floor of a history
abbrev pub floor : List Event → ℕ
floor history = floor_among (reverse history)

-- the pairs that a history accepted, in order
abbrev pub accepted : List Event → List Pair
accepted history = accepted_back (reverse history)

-- what is said of a pair at a moment after a history
abbrev pub verdict : List Event → Pair → ℕ → Verdict
verdict history pair moment = verdict_among (floor history) (accepted history) pair moment
