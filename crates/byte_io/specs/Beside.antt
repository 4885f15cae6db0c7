-- What a call leaves as it is.
use Rattle.std.specs.Prelude.{◌≡◌}

-- a call that leaves what stands beside leaves this part too
abbrev pub Leaves : {S B P : Type 0} → (S → B) → (S → P) → Type 0
Leaves {S} beside part = (x y : S) → beside x ≡ beside y → part x ≡ part y
