-- The lines of a passwd or group file (passwd(5), group(5)), and what marks cut a text into.
use Rattle.std.specs.Prelude.{ℕ, nat_eq, Bool, true, not, List, [], ◌∷◌, filter}
use Rattle.std.specs.List.{slice_split}

-- the byte that ends a line
abbrev pub line_feed : ℕ
line_feed = 10

-- `:`
abbrev pub colon : ℕ
colon = 58

-- `,`
abbrev pub comma : ℕ
comma = 44

-- `#`
abbrev pub number_sign : ℕ
number_sign = 35

-- what stands before, between and behind the marks in a text: one piece more than marks
abbrev pub pieces_of : ℕ → List ℕ → List (List ℕ)
pieces_of mark text = slice_split (λ byte. nat_eq byte mark) text

-- without the last piece, where that one is empty
abbrev pub closed : List (List ℕ) → List (List ℕ)
closed [] = []
closed ([] ∷ []) = []
closed (piece ∷ pieces) = piece ∷ closed pieces

-- Each line ends by a line feed, which the last one may lack. An empty text has no lines.
unfoldable pub lines_of : List ℕ → List (List ℕ)
lines_of text = closed (pieces_of line_feed text)

-- an empty line, or a comment
abbrev pub is_passed_over : List ℕ → Bool
is_passed_over [] = true
is_passed_over (byte ∷ bytes) = nat_eq byte number_sign

-- the lines that are not passed over
abbrev pub entry_lines : List (List ℕ) → List (List ℕ)
entry_lines lines = filter (λ line. not (is_passed_over line)) lines
