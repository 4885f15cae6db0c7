-- An address by three cuts at the first dot. Private to this crate.
use Rattle.std.specs.Prelude.{ℕ, List, length, nat_lt, if◌then◌else◌, Option, Some, None, option_and_then}
use Rattle.std.specs.List.{position_or_len, before_first, after_first}
use Rattle.option_file.specs.Address.{four_of, is_dot, octet_of}

-- what stands before the first dot, and what behind it, if there is one
abbrev pub cut_of : List ℕ → Option (List ℕ × List ℕ)
cut_of text =
    (if nat_lt (position_or_len is_dot text) (length text)
    then Some (before_first is_dot text, after_first is_dot text) else None)

-- the address whose first two numbers these are, and whose others the text spells
abbrev pub behind_two : (first second text : List ℕ) → Option (List ℕ)
behind_two first second text =
    option_and_then (λ (parts : List ℕ × List ℕ).
    four_of (octet_of first) (octet_of second) (octet_of parts.0) (octet_of parts.1)) (cut_of text)

-- the address whose first number this is, and whose others the text spells
abbrev pub behind_one : (first text : List ℕ) → Option (List ℕ)
behind_one first text =
    option_and_then (λ (parts : List ℕ × List ℕ). behind_two first parts.0 parts.1) (cut_of text)

abbrev pub address_by_cuts : List ℕ → Option (List ℕ)
address_by_cuts text =
    option_and_then (λ (parts : List ℕ × List ℕ). behind_one parts.0 parts.1) (cut_of text)
