-- The first line of a file that may not stand in it.
use Rattle.std.specs.Prelude.{ℕ, Bool, not, List, Option}
use Rattle.std.specs.List.{position_from}
use Rattle.group_map.specs.Lines.{lines_of}

-- The number of the first line that the test refuses, where the first line of all is line 1. Lines
-- that are passed over count too.
abbrev pub first_bad : (List ℕ → Bool) → List ℕ → Option ℕ
first_bad is_right text = position_from (λ line. not (is_right line)) 1 (lines_of text)
