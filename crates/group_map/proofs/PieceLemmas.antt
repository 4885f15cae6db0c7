-- Texts cut at the first of their marks.
use Rattle.std.proofs.Common.{◌≡◌, ℕ, ◌+◌, ◌<◌, ◌≤◌, nat_eq, nat_lt, Bool, true, false, ◌||◌, cond, List, [], ◌∷◌, ◌++◌, length, take, drop, Option, None, Some, ap, refl, sym, ◌∙◌, arith, inl, inr, true≢false}
use Rattle.std.proofs.lemmas.Bool.{cases_Bool, eq-eqb, ltb-true, ltb-false, ne_eqb}
use Rattle.std.proofs.lemmas.List.Splits.{slice_split_first, slice_split-cons_no, slice_split-cons_yes}
use Rattle.std.specs.List.{list_any, slice_split, onto_first, position, position_or_len}
use Rattle.group_map.specs.Lines.{closed, lines_of, pieces_of}

some_is : (test : Bool) (at place : ℕ) → cond test (Some at) None ≡ Some place → (test ≡ true) × (at ≡ place)
some_is true at place is = (refl, cc is)
some_is false at place is = absurd (cc is)

none_is : (test : Bool) (at : ℕ) → cond {A = Option ℕ} test (Some at) None ≡ None → test ≡ false
none_is true at is = absurd (cc is)
none_is false at is = refl

-- the text is cut at this first mark
pub cut-some : (mark : ℕ) (text : List ℕ) (at : ℕ) → position (λ byte. nat_eq byte mark) text ≡ Some at
    → pieces_of mark text ≡ take at text ∷ pieces_of mark (drop (at + 1) text)
cut-some mark text at is =
    let found = some_is (nat_lt (position_or_len (λ byte. nat_eq byte mark) text) (length text)) (position_or_len (λ byte. nat_eq byte mark) text) at is in
    rw (← found.1) (slice_split_first (λ byte. nat_eq byte mark) text 0 (ltb-true _ _ found.0))

-- a text whose first mark would stand behind it is one piece
whole : (test : ℕ → Bool) (text : List ℕ) → length text ≤ position_or_len test text → slice_split test text ≡ text ∷ []
whole test [] behind = refl
whole test (byte ∷ bytes) behind =
    elim (cases_Bool (test byte)) [
      | inl is ↦ absurd (omega (arith, rw is at behind))
      | inr apart ↦
          slice_split-cons_no test byte bytes apart
          ∙ ap (onto_first byte) (whole test bytes (omega (arith, rw apart at behind)))
    ]

-- the text has no such mark
pub cut-none : (mark : ℕ) (text : List ℕ) → position (λ byte. nat_eq byte mark) text ≡ None → pieces_of mark text ≡ text ∷ []
cut-none mark text is =
    whole (λ byte. nat_eq byte mark) text
    (ltb-false _ _ (none_is (nat_lt (position_or_len (λ byte. nat_eq byte mark) text) (length text)) (position_or_len (λ byte. nat_eq byte mark) text) is))

-- there is a first piece
some_piece : (test : ℕ → Bool) (text : List ℕ) → (first : List ℕ) × (others : List (List ℕ)) × (slice_split test text ≡ first ∷ others)
some_piece test [] = ([], [], refl)
some_piece test (byte ∷ bytes) =
    let rest = some_piece test bytes in
    elim (cases_Bool (test byte)) [
      | inl is ↦ ([], slice_split test bytes, slice_split-cons_yes test byte bytes is)
      | inr apart ↦ (byte ∷ rest.0, rest.1, slice_split-cons_no test byte bytes apart ∙ ap (onto_first byte) rest.2)
    ]

-- the same of the pieces of a mark
pub more_pieces : (mark : ℕ) (text : List ℕ) → (first : List ℕ) × (others : List (List ℕ)) × (pieces_of mark text ≡ first ∷ others)
more_pieces mark text = some_piece (λ byte. nat_eq byte mark) text

closed-more : (front first : List ℕ) (others : List (List ℕ)) → closed (front ∷ first ∷ others) ≡ front ∷ closed (first ∷ others)
closed-more [] first others = refl
closed-more (byte ∷ bytes) first others = refl

-- an empty text has no lines
pub lines-none : (text : List ℕ) → length text ≡ 0 → lines_of text ≡ []
unfolding lines_of
lines-none [] none = refl
lines-none (byte ∷ bytes) none = absurd (omega arith)

-- a text with a line feed is a line and the lines of the rest
pub lines-cut : (text front behind : List ℕ) → pieces_of 10 text ≡ front ∷ pieces_of 10 behind → lines_of text ≡ front ∷ lines_of behind
unfolding lines_of
lines-cut text front behind cut =
    let some = some_piece (λ byte. nat_eq byte 10) behind in
    ap closed cut ∙ ap (λ pieces. closed (front ∷ pieces)) some.2 ∙ closed-more front some.0 some.1
    ∙ ap (λ pieces. front ∷ closed pieces) (sym some.2)

-- a text without one is one line
pub lines-whole : (text : List ℕ) → 0 < length text → pieces_of 10 text ≡ text ∷ [] → lines_of text ≡ text ∷ lines_of []
unfolding lines_of
lines-whole [] some whole = absurd (omega arith)
lines-whole (byte ∷ bytes) some whole = ap closed whole

-- ---- a line that has no mark

-- neither of two tests passes
neither : (a b : Bool) → a || b ≡ false → (a ≡ false) × (b ≡ false)
neither true b is = absurd (true≢false is)
neither false b is = (refl, is)

-- the first byte is no mark, and the others are none
no_mark : (mark byte : ℕ) (bytes : List ℕ) → list_any (nat_eq mark) (byte ∷ bytes) ≡ false
    → (nat_eq byte mark ≡ false) × (list_any (nat_eq mark) bytes ≡ false)
no_mark mark byte bytes none =
    let parts = neither (nat_eq mark byte) (list_any (nat_eq mark) bytes) none in
    (ne_eqb byte mark (λ same. true≢false (sym (eq-eqb mark byte (sym same)) ∙ parts.0)), parts.1)

pieces-whole : (mark : ℕ) (line : List ℕ) → list_any (nat_eq mark) line ≡ false → pieces_of mark line ≡ line ∷ []
pieces-whole mark [] none = refl
pieces-whole mark (byte ∷ bytes) none =
    let parts = no_mark mark byte bytes none in
    slice_split-cons_no (λ b. nat_eq b mark) byte bytes parts.0 ∙ ap (onto_first byte) (pieces-whole mark bytes parts.1)

pieces-first : (mark : ℕ) (line behind : List ℕ) → list_any (nat_eq mark) line ≡ false
    → pieces_of mark (line ++ mark ∷ behind) ≡ line ∷ pieces_of mark behind
pieces-first mark [] behind none = slice_split-cons_yes (λ b. nat_eq b mark) mark behind (eq-eqb mark mark refl)
pieces-first mark (byte ∷ bytes) behind none =
    let parts = no_mark mark byte bytes none in
    slice_split-cons_no (λ b. nat_eq b mark) byte (bytes ++ mark ∷ behind) parts.0
    ∙ ap (onto_first byte) (pieces-first mark bytes behind parts.1)

-- what has no line feed is a line
pub lines-last : (line : List ℕ) → list_any (nat_eq 10) line ≡ false → 0 < length line → lines_of line ≡ line ∷ []
lines-last line none some =
    lines-whole line some (pieces-whole 10 line none) ∙ ap (λ rest. line ∷ rest) (lines-none [] refl)

-- so is what stands before a line feed
pub lines-first : (line behind : List ℕ) → list_any (nat_eq 10) line ≡ false → lines_of (line ++ 10 ∷ behind) ≡ line ∷ lines_of behind
lines-first line behind none = lines-cut (line ++ 10 ∷ behind) line behind (pieces-first 10 line behind none)
