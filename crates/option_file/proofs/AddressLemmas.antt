-- Three cuts at the first dot find the address of the parts between dots.
use Rattle.std.proofs.Common.{◌≡◌, ℕ, ◌<◌, Bool, true, false, nat_lt, List, [], ◌∷◌, length, Option, Some, None, refl, sym, ◌∙◌, inl, inr, ◌⊎◌, arith}
use Rattle.std.proofs.lemmas.Bool.{cases_Bool, eqb-true, ltb-true, ltb-false}
use Rattle.std.proofs.lemmas.List.Splits.{length-slice_split, slice_split_first, slice_split_none}
use Rattle.std.proofs.lemmas.List.Sums.{fails_before_first}
use Rattle.std.specs.Char.{is_ascii_digit}
use Rattle.std.specs.List.{after_first, before_first, position_or_len, slice_split}
use Rattle.option_file.specs.Address.{address_in, address_of, four_of, is_dot, number_of, octet_of}
use Rattle.option_file.specs.AddressCuts.{address_by_cuts, behind_one, behind_two, cut_of}

-- the text has a dot
abbrev has_dot : List ℕ → Bool
has_dot text = nat_lt (position_or_len is_dot text) (length text)

cut-dotted : (text : List ℕ) → has_dot text ≡ true
    → (cut_of text ≡ Some (before_first is_dot text, after_first is_dot text)) × (slice_split is_dot text ≡ before_first is_dot text ∷ slice_split is_dot (after_first is_dot text))
cut-dotted text dotted =
    (rw dotted refl, slice_split_first is_dot text 0 (ltb-true (position_or_len is_dot text) (length text) dotted))

cut-plain : (text : List ℕ) → has_dot text ≡ false → (cut_of text ≡ None) × (slice_split is_dot text ≡ text ∷ [])
cut-plain text plain =
    let whole = ltb-false (position_or_len is_dot text) (length text) plain in
    (rw plain refl, slice_split_none is_dot text (λ k d below. fails_before_first is_dot text k d (omega arith)))

-- no character is both a digit and a dot
digit-no_dot : (character : ℕ) → is_ascii_digit character ≡ true → is_dot character ≡ false
digit-no_dot character digit =
    elim (cases_Bool (is_dot character)) [
      | inl dot ↦ let no : ◌≡◌ {A = Bool} false true = rw (eqb-true character 46 dot) at digit in absurd (cc)
      | inr other ↦ other
    ]

-- what spells a byte is digits
number-digits : (a b c n : ℕ) → number_of a b c ≡ Some n → (is_ascii_digit a ≡ true) × (is_ascii_digit b ≡ true) × (is_ascii_digit c ≡ true)
number-digits a b c n spelled =
    elim (cases_Bool (is_ascii_digit a)) [
      | inl first ↦ elim (cases_Bool (is_ascii_digit b)) [
        | inl second ↦ elim (cases_Bool (is_ascii_digit c)) [
          | inl third ↦ (first, second, third)
          | inr third ↦ let no : ◌≡◌ {A = Option ℕ} None (Some n) = rw (first, second, third) at spelled in absurd (cc)
        ]
        | inr second ↦ let no : ◌≡◌ {A = Option ℕ} None (Some n) = rw (first, second) at spelled in absurd (cc)
      ]
      | inr first ↦ let no : ◌≡◌ {A = Option ℕ} None (Some n) = rw first at spelled in absurd (cc)
    ]

octet-plain : (text : List ℕ) (n : ℕ) → octet_of text ≡ Some n → has_dot text ≡ false
octet-plain [] n spelled = let no : ◌≡◌ {A = Option ℕ} None (Some n) = spelled in absurd (cc)
octet-plain (a ∷ []) n spelled =
    let digits = number-digits 48 48 a n spelled in rw (digit-no_dot a digits.2) refl
octet-plain (a ∷ b ∷ []) n spelled =
    let digits = number-digits 48 a b n spelled in rw (digit-no_dot a digits.1, digit-no_dot b digits.2) refl
octet-plain (a ∷ b ∷ c ∷ []) n spelled =
    let digits = number-digits a b c n spelled in rw (digit-no_dot a digits.0, digit-no_dot b digits.1, digit-no_dot c digits.2) refl
octet-plain (a ∷ b ∷ c ∷ d ∷ more) n spelled = let no : ◌≡◌ {A = Option ℕ} None (Some n) = spelled in absurd (cc)

cases_Option : (found : Option ℕ) → (found ≡ None) ⊎ ((n : ℕ) × (found ≡ Some n))
cases_Option None = inl refl
cases_Option (Some n) = inr (n, refl)

octet-dotted : (text : List ℕ) → has_dot text ≡ true → octet_of text ≡ None
octet-dotted text dotted =
    elim (cases_Option (octet_of text)) [
      | inl none ↦ none
      | inr spelled ↦ let no : ◌≡◌ {A = Bool} true false = sym dotted ∙ octet-plain text spelled.0 spelled.1 in absurd (cc)
    ]

four-none : (first second third : Option ℕ) → four_of first second third None ≡ None
four-none None second third = refl
four-none (Some a) None third = refl
four-none (Some a) (Some b) None = refl
four-none (Some a) (Some b) (Some c) = refl

-- a list of five parts and more is no address
five-none : (a b c d : List ℕ) (parts : List (List ℕ)) → 0 < length parts → address_in (a ∷ b ∷ c ∷ d ∷ parts) ≡ None
five-none a b c d [] some = absurd (omega arith)
five-none a b c d (e ∷ parts) some = refl

by-last : (first second third fourth : List ℕ)
    → four_of (octet_of first) (octet_of second) (octet_of third) (octet_of fourth) ≡ address_in (first ∷ second ∷ third ∷ slice_split is_dot fourth)
by-last first second third fourth =
    elim (cases_Bool (has_dot fourth)) [
      | inl dotted ↦
          rw ((cut-dotted fourth dotted).1, octet-dotted fourth dotted)
          (four-none (octet_of first) (octet_of second) (octet_of third)
          ∙ sym (five-none first second third (before_first is_dot fourth) (slice_split is_dot (after_first is_dot fourth)) (omega (arith, length-slice_split is_dot (after_first is_dot fourth)))))
      | inr plain ↦ rw (cut-plain fourth plain).1 refl
    ]

by-third : (first second text : List ℕ) → behind_two first second text ≡ address_in (first ∷ second ∷ slice_split is_dot text)
by-third first second text =
    elim (cases_Bool (has_dot text)) [
      | inl dotted ↦ rw ((cut-dotted text dotted).0, (cut-dotted text dotted).1) (by-last first second (before_first is_dot text) (after_first is_dot text))
      | inr plain ↦ rw ((cut-plain text plain).0, (cut-plain text plain).1) refl
    ]

by-second : (first text : List ℕ) → behind_one first text ≡ address_in (first ∷ slice_split is_dot text)
by-second first text =
    elim (cases_Bool (has_dot text)) [
      | inl dotted ↦ rw ((cut-dotted text dotted).0, (cut-dotted text dotted).1) (by-third first (before_first is_dot text) (after_first is_dot text))
      | inr plain ↦ rw ((cut-plain text plain).0, (cut-plain text plain).1) refl
    ]

pub address-by-cuts : (text : List ℕ) → address_by_cuts text ≡ address_of text
address-by-cuts text =
    elim (cases_Bool (has_dot text)) [
      | inl dotted ↦ rw ((cut-dotted text dotted).0, (cut-dotted text dotted).1) (by-second (before_first is_dot text) (after_first is_dot text))
      | inr plain ↦ rw ((cut-plain text plain).0, (cut-plain text plain).1) refl
    ]
