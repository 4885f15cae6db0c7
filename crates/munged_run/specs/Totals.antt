-- The line of totals.
use Rattle.std.specs.Prelude.{ℕ, codes, List, ◌++◌}
use Rattle.std.specs.Fmt.{decimal}
use Rattle.worker_pool.specs.declared.tally.Tally.{Tally}

-- a number in decimal between two words
abbrev pub counted : (name : List ℕ) → (count : ℕ) → (end : List ℕ) → List ℕ
counted name count end = name ++ (decimal count ++ end)

-- the totals of a tally, and how many pairs are kept
abbrev pub totals_line : Tally → (kept : ℕ) → List ℕ
totals_line tally kept =
    counted (codes "presented ") tally.presented (codes " ")
    ++ (counted (codes "accepted ") tally.accepted (codes " ")
    ++ (counted (codes "replayed ") tally.replayed (codes " ")
    ++ (counted (codes "expired ") tally.expired (codes " ")
    ++ counted (codes "kept ") kept (codes "\n"))))
