-- What holds of one pass that is used by one thread, and how counts are kept.
use Rattle.std.specs.Prelude.{◌≡◌, ℕ, ◌+◌, ◌-◌, ◌^◌, ◌≤◌, Bool, true, false, List, [], ◌∷◌, min}
use Rattle.std.specs.List.{All}
use Rattle.std.specs.declared.option.Option.{Option}
use Rattle.std.specs.declared.option.Option.TheVariants.{None, Some}
use Rattle.munge_types.specs.declared.history.Event.{Event}
use Rattle.munge_types.specs.declared.history.Event.TheVariants.{Admit, Idle, Purge}
use Rattle.replay_gate.specs.Makers.{maker}
use Rattle.replay_gate.specs.PassState.{GateId, PassState}
use Rattle.replay_gate.specs.Worn.{worn_at}

-- a pass of this gate that has its own number alone, and counts for one
pub record IsSingle (gate : GateId) (pass : PassState) : Type 0 where
  pub of_gate : pass.gate ≡ gate
  pub alone : pass.numbers ≡ pass.number ∷ []
  pub share : pass.share ≡ 1

-- the entry is a purge
abbrev pub is_purge : Event → Bool
is_purge (Admit pass pair moment) = false
is_purge (Purge pass moment) = true
is_purge (Idle pass) = false

-- the number's entries are purges
abbrev pub ArePurges : (number : ℕ) → List Event → Type 0
ArePurges number history = All (λ event. maker event ≡ number → is_purge event ≡ true) history

-- none of the number's entries is a purge
abbrev pub AreNoPurges : (number : ℕ) → List Event → Type 0
AreNoPurges number history = All (λ event. maker event ≡ number → is_purge event ≡ false) history

-- a ticket that was found worn is so, and within the bound
abbrev pub IsWornWithin : (bound : ℕ) → (worn : Option ℕ) → Type 0
IsWornWithin bound None = Unit {0}
IsWornWithin bound (Some ticket) = (worn_at ≤ ticket) × (ticket ≤ bound)

-- a count as it is kept in 64 bits: at the largest of these numbers it stands still
abbrev pub capped : (count : ℕ) → ℕ
capped count = min count (2 ^ 64 - 1)

-- a count that is kept so rose by this number at least, or stands at its largest
abbrev pub RoseBy : (by before now : ℕ) → Type 0
RoseBy by before now = capped (before + by) ≤ now
