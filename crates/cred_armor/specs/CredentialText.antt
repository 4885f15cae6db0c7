-- A credential as text.
use Rattle.std.specs.Prelude.{◌≡◌, ℕ, nat_eq, nat_le, Bool, ◌&&◌, ◌||◌, true, List, [], ◌∷◌, ◌++◌}
use Rattle.std.specs.List.{list_all}
use Rattle.base64.specs.GeneralPurpose.{IsBytes, encode_of}
use Rattle.base64.specs.Engines.{standard}

-- tab, line feed, vertical tab, form feed, carriage return and space
abbrev pub is_space : ℕ → Bool
is_space byte = (nat_le 9 byte && nat_le byte 13) || nat_eq byte 32

abbrev pub AreSpaces : List ℕ → Type 0
AreSpaces bytes = list_all is_space bytes ≡ true

-- `MUNGE:`
abbrev pub opening_mark : List ℕ
opening_mark = 77 ∷ 85 ∷ 78 ∷ 71 ∷ 69 ∷ 58 ∷ []

-- `:`
abbrev pub closing_mark : List ℕ
closing_mark = 58 ∷ []

-- The text is this one between the marks, with spaces round it.
pub record Frames (text inside : List ℕ) : Type 0 where
  pub before : List ℕ
  pub after : List ℕ
  pub spaces_before : AreSpaces before
  pub spaces_after : AreSpaces after
  pub framed : text ≡ before ++ (opening_mark ++ (inside ++ (closing_mark ++ after)))

-- Some text stands between the marks.
abbrev pub IsFramed : List ℕ → Type 0
IsFramed text = (inside : List ℕ) × Frames text inside

-- The text is the armour of the body: its base64 between the marks. The base64 is RFC 4648's, in
-- its one canonical spelling (its sections 3.5 and 4).
pub record Spells (text body : List ℕ) : Type 0 where
  pub bytes : IsBytes body
  pub armored : Frames text (encode_of standard body)

-- the armour of the body, with no spaces round it
abbrev pub armor_of : List ℕ → List ℕ
armor_of body = opening_mark ++ (encode_of standard body ++ closing_mark)
