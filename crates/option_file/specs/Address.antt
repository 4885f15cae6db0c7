-- An IPv4 address, as four decimal numbers between dots.
use Rattle.std.specs.Prelude.{ℕ, Bool, ◌+◌, ◌-◌, ◌*◌, ◌&&◌, nat_eq, nat_le, if◌then◌else◌, List, [], ◌∷◌, Option, Some, None, option_and_then}
use Rattle.std.specs.List.{slice_split}
use Rattle.std.specs.Char.{is_ascii_digit}

-- the byte of this value, if there is one
abbrev pub byte_of : ℕ → Option ℕ
byte_of n = (if nat_le n 255 then Some n else None)

-- the byte that three characters spell, if they are digits
abbrev pub number_of : (hundreds tens ones : ℕ) → Option ℕ
number_of hundreds tens ones =
    (if is_ascii_digit hundreds && is_ascii_digit tens && is_ascii_digit ones
    then byte_of ((hundreds - 48) * 100 + (tens - 48) * 10 + (ones - 48)) else None)

-- the byte that one to three digits spell; zeros may lead
abbrev pub octet_of : List ℕ → Option ℕ
octet_of (ones ∷ []) = number_of 48 48 ones
octet_of (tens ∷ ones ∷ []) = number_of 48 tens ones
octet_of (hundreds ∷ tens ∷ ones ∷ []) = number_of hundreds tens ones
octet_of _ = None

abbrev pub is_dot : ℕ → Bool
is_dot character = nat_eq character 46

-- the four bytes of an address, if each of its numbers spells one
abbrev pub four_of : (first second third fourth : Option ℕ) → Option (List ℕ)
four_of first second third fourth =
    option_and_then (λ a. option_and_then (λ b. option_and_then (λ c. option_and_then (λ d.
    Some (a ∷ b ∷ c ∷ d ∷ [])) fourth) third) second) first

-- the address of four parts, and of no other number of parts
abbrev pub address_in : List (List ℕ) → Option (List ℕ)
address_in (first ∷ second ∷ third ∷ fourth ∷ []) =
    four_of (octet_of first) (octet_of second) (octet_of third) (octet_of fourth)
address_in _ = None

-- the address that a text spells: four numbers, with a dot between each two
abbrev pub address_of : List ℕ → Option (List ℕ)
address_of text = address_in (slice_split is_dot text)
