-- A worked history, which the checker computes: one credential that is good until second 1300.
use Rattle.std.specs.Prelude.{◌≡◌, ℕ, List, [], ◌∷◌, ◌++◌, refl}
use Rattle.munge_types.specs.History.{verdict}
use Rattle.munge_types.specs.Live.{live}
use Rattle.munge_types.specs.declared.pair.Pair.{Pair}
use Rattle.munge_types.specs.declared.history.Event.{Event}
use Rattle.munge_types.specs.declared.history.Event.TheVariants.{Admit, Purge}
use Rattle.munge_types.specs.declared.history.Verdict.TheVariants.{Accepted, Expired, Replayed}

-- a pair with a MAC of one byte
abbrev pub pair_until : (expiry : ℕ) → Pair
pair_until expiry = record { expiry = expiry; mac = 7 ∷ [] }

-- its first look-up, at second 1000
abbrev pub looked_up : List Event
looked_up = Admit 0 (pair_until 1300) 1000 ∷ []

-- and a purge at second 1301
abbrev pub purged_at_1301 : List Event
purged_at_1301 = looked_up ++ Purge 0 1301 ∷ []

-- it is accepted until its last second
pub first_look : verdict [] (pair_until 1300) 1300 ≡ Accepted
first_look = refl

-- and no later
pub past_its_expiry : verdict [] (pair_until 1300) 1301 ≡ Expired
past_its_expiry = refl

-- a second look finds it replayed
pub second_look : verdict looked_up (pair_until 1300) 1000 ≡ Replayed
second_look = refl

-- another expiry makes another pair
pub another_pair : verdict looked_up (pair_until 1299) 1000 ≡ Accepted
another_pair = refl

-- once a purge has raised the floor above it, it stays expired, though the clock steps back
pub below_the_floor : verdict purged_at_1301 (pair_until 1300) 1000 ≡ Expired
below_the_floor = refl

-- before that purge one pair is live, and after it none
pub live_before : live looked_up ≡ 1
live_before = refl

pub live_after : live purged_at_1301 ≡ 0
live_after = refl
