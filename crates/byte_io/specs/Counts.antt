-- The counts of an object of the outside: how often it failed, and how often it came to its end.
use Rattle.std.specs.Prelude.{ℕ, ◌+◌, ◌-◌, ◌^◌, ◌≤◌, min}

-- the count, one higher; it is kept in 64 bits, so at the largest of these numbers it stands still
abbrev pub raised : ℕ → ℕ
raised count = min (count + 1) (2 ^ 64 - 1)

-- the count went up, by one or more, or stands at its largest number
abbrev pub Rose : ℕ → ℕ → Type 0
Rose before now = raised before ≤ now
