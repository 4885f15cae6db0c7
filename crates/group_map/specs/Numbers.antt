-- The numbers of users and groups, as passwd and group files write them.
use Rattle.std.specs.Prelude.{ℕ, ◌+◌, ◌-◌, ◌*◌, ◌^◌, nat_le, Bool, ◌&&◌, if◌then◌else◌, List, [], ◌∷◌, length, None, Some, Option}
use Rattle.std.specs.Char.{is_ascii_digit}
use Rattle.std.specs.List.{list_all}

-- the value of decimal digits: each counts for itself times ten for each digit behind it
abbrev pub value_of : List ℕ → ℕ
value_of [] = 0
value_of (digit ∷ digits) = (digit - 48) * 10 ^ length digits + value_of digits

-- one to ten ASCII digits, of which the first may be zeros, with a value that 32 bits hold
abbrev pub is_id : List ℕ → Bool
is_id digits =
    (nat_le 1 (length digits) && nat_le (length digits) 10)
    && (list_all is_ascii_digit digits && nat_le (value_of digits) 4294967295)

-- the UID or GID that the digits write, if they write one
unfoldable pub id_of : List ℕ → Option ℕ
id_of digits = if is_id digits then Some (value_of digits) else None
