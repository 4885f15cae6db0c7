-- The line of totals of remunge.
use Rattle.std.specs.Prelude.{ℕ, codes, List, ◌++◌}
use Rattle.std.specs.Fmt.{decimal}
use Rattle.munge_tools.specs.declared.totals.Totals.{Totals}

-- a name, a number and what stands behind it
abbrev pub counted : (name : List ℕ) → (count : ℕ) → (end : List ℕ) → List ℕ
counted name count end = name ++ (decimal count ++ end)

-- how many credentials were made and opened, and how many requests were refused
unfoldable pub totals_line : Totals → List ℕ
totals_line totals =
    counted (codes "encoded ") totals.encoded (codes " decoded ")
    ++ (counted (codes "") totals.decoded (codes " failed ")
    ++ counted (codes "") totals.failed (codes "\n"))
