-- How many look-ups a history has, and what was said of them.
use Rattle.std.specs.Prelude.{◌≡◌, ℕ, Bool, true, false, nat_eq, List, length, take}
use Rattle.std.specs.List.{count_by, range_with_len, slice_get}
use Rattle.std.specs.declared.option.Option.{Option}
use Rattle.std.specs.declared.option.Option.TheVariants.{None, Some}
use Rattle.munge_types.specs.History.{verdict}
use Rattle.munge_types.specs.declared.history.Event.{Event}
use Rattle.munge_types.specs.declared.history.Event.TheVariants.{Admit, Purge, Idle}
use Rattle.munge_types.specs.declared.history.Verdict.{Verdict}
use Rattle.munge_types.specs.declared.history.Verdict.TheVariants.{Accepted, Expired, Replayed}
use Rattle.decode_rules.specs.VerdictRules.{verdict_rule}
use Rattle.worker_pool.specs.declared.tally.Tally.{Tally}

-- the event is a look-up
abbrev pub is_look_up : Event → Bool
is_look_up (Admit pass pair moment) = true
is_look_up (Purge pass moment) = false
is_look_up (Idle pass) = false

-- the event is a look-up, and after this history its verdict is that one, by the rule of each
abbrev pub is_said : Verdict → (before : List Event) → Option Event → Bool
is_said said before None = false
is_said said before (Some (Admit pass pair moment)) =
    nat_eq (verdict_rule (verdict before pair moment)) (verdict_rule said)
is_said said before (Some (Purge pass moment)) = false
is_said said before (Some (Idle pass)) = false

-- at how many places of the history that verdict was given
abbrev pub times_said : Verdict → (history : List Event) → ℕ
times_said said history =
    count_by (λ place. is_said said (take place history) (slice_get history place))
    (range_with_len 0 (length history))

-- the tally is the history's: its look-ups, and those of each verdict
pub record IsTallyOf (history : List Event) (tally : Tally) : Type 0 where
  pub presented : tally.presented ≡ count_by is_look_up history
  pub accepted : tally.accepted ≡ times_said Accepted history
  pub replayed : tally.replayed ≡ times_said Replayed history
  pub expired : tally.expired ≡ times_said Expired history

-- what is told of a job says that its entry is a look-up
abbrev pub tells_look_up : (place rule : Option ℕ) → Bool
tells_look_up None rule = false
tells_look_up (Some place) None = false
tells_look_up (Some place) (Some rule) = true

-- what is told of a job says that its entry is a look-up with this verdict
abbrev pub tells : Verdict → (place rule : Option ℕ) → Bool
tells said None rule = false
tells said (Some place) None = false
tells said (Some place) (Some rule) = nat_eq rule (verdict_rule said)
