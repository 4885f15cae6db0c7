-- The marks of a credential text, found by trimming the spaces off.
use Rattle.std.proofs.Common.{◌≡◌, ℕ, ◌+◌, ◌-◌, ◌≤◌, ◌<◌, Bool, true, false, ◌&&◌, List, [], ◌∷◌, ◌++◌, length, take, get_or, refl, sym, ap, ◌∙◌, arith, inl, inr, ◌≢◌, Option, None, Some, Bor, MatchOption, IfSome, IfNone}
use Rattle.std.proofs.lemmas.List.{append_assoc, append_cancel_left, append_cancel_right, take_more}
use Rattle.std.proofs.Math.Seq.{take-length}
use Rattle.std.proofs.lemmas.List.Folds.{list_all-append}
use Rattle.std.proofs.lemmas.Bool.{and_parts, and_from, and_right, cases_Bool}
use Rattle.std.specs.List.{list_all}
use Rattle.cred_armor.specs.CredentialText.{is_space, AreSpaces, opening_mark, closing_mark, Frames}
use Rattle.cred_armor.specs.Trimming.{trim_front, trim_back}

and-true : (b : Bool) → (b && true) ≡ b
and-true true = refl
and-true false = refl

trim_back-spaces : (after : List ℕ) → AreSpaces after → trim_back after ≡ []
trim_back-spaces [] spaces = refl
trim_back-spaces (byte ∷ bytes) spaces = rw spaces refl

-- spaces behind a text are trimmed off
pub trim_back-append : (text after : List ℕ) → AreSpaces after → trim_back (text ++ after) ≡ trim_back text
trim_back-append [] after spaces = trim_back-spaces after spaces
trim_back-append (byte ∷ bytes) after spaces =
    rw (list_all-append is_space bytes after, spaces, and-true, trim_back-append bytes after spaces) refl

mark_stays : (bytes : List ℕ) (last : ℕ) → is_space last ≡ false → list_all is_space (bytes ++ last ∷ []) ≡ false
mark_stays bytes last mark = rw (list_all-append is_space bytes (last ∷ []), mark) (and_right _ _ refl)

-- a text that ends with no space stays
pub trim_back-mark : (text : List ℕ) (last : ℕ) → is_space last ≡ false → trim_back (text ++ last ∷ []) ≡ text ++ last ∷ []
trim_back-mark [] last mark = rw mark refl
trim_back-mark (byte ∷ bytes) last mark = rw (mark_stays bytes last mark, and_right (is_space byte) false refl, trim_back-mark bytes last mark) refl

last_apart : (text : List ℕ) → 1 ≤ length text → text ≡ take (length text - 1) text ++ get_or text (length text - 1) 0 ∷ []
last_apart text some =
    let within : length text - 1 < length text = omega arith in
    let whole : length text - 1 + 1 ≡ length text = omega arith in
    sym (take-length text) ∙ (ap (λ n. take n text) (sym whole) ∙ take_more text (length text - 1) 0 within)

-- one space less at the end
pub trim_back_step : (text : List ℕ) → 1 ≤ length text → is_space (get_or text (length text - 1) 0) ≡ true
    → trim_back (take (length text - 1) text) ≡ trim_back text
trim_back_step text some space =
    let last : AreSpaces (get_or text (length text - 1) 0 ∷ []) = and_from _ _ space refl in
    sym (trim_back-append (take (length text - 1) text) (get_or text (length text - 1) 0 ∷ []) last)
    ∙ ap trim_back (sym (last_apart text some))

-- no space at the end
pub trim_back_end : (text : List ℕ) → 1 ≤ length text → is_space (get_or text (length text - 1) 0) ≡ false
    → trim_back text ≡ text
trim_back_end text some mark =
    ap trim_back (last_apart text some)
    ∙ (trim_back-mark (take (length text - 1) text) (get_or text (length text - 1) 0) mark ∙ sym (last_apart text some))

-- spaces in front of a text are trimmed off
pub trim_front-append : (before text : List ℕ) → AreSpaces before → trim_front (before ++ text) ≡ trim_front text
trim_front-append [] text spaces = refl
trim_front-append (byte ∷ bytes) text spaces =
    let parts : (is_space byte ≡ true) × AreSpaces bytes = and_parts (is_space byte) (list_all is_space bytes) spaces in
    rw (parts.0, trim_front-append bytes text parts.1) refl

-- a text as spaces and what is left of it
record SplitsFront (text : List ℕ) : Type 0 where
  pub before : List ℕ
  pub spaces : AreSpaces before
  pub whole : text ≡ before ++ trim_front text

record SplitsBack (text : List ℕ) : Type 0 where
  pub after : List ℕ
  pub spaces : AreSpaces after
  pub whole : text ≡ trim_back text ++ after

splits_front : (text : List ℕ) → SplitsFront text
splits_front [] = record { before = []; spaces = refl; whole = refl }
splits_front (byte ∷ bytes) =
    elim (cases_Bool (is_space byte)) [
      | inl space ↦
          let rest = splits_front bytes in
          record {
            before = byte ∷ rest.before;
            spaces = and_from _ _ space rest.spaces;
            whole = rw space (ap (λ (l : List ℕ). byte ∷ l) rest.whole);
          }
      | inr mark ↦ record { before = []; spaces = refl; whole = rw mark refl }
    ]

splits_back : (text : List ℕ) → SplitsBack text
splits_back [] = record { after = []; spaces = refl; whole = refl }
splits_back (byte ∷ bytes) =
    elim (cases_Bool (list_all is_space (byte ∷ bytes))) [
      | inl spaces ↦ record { after = byte ∷ bytes; spaces = spaces; whole = rw spaces refl }
      | inr mark ↦
          let rest = splits_back bytes in
          record {
            after = rest.after;
            spaces = rest.spaces;
            whole = rw mark (ap (λ (l : List ℕ). byte ∷ l) rest.whole);
          }
    ]

-- a framed text is trimmed to its marks and what stands between them
pub frames_trimmed : (text inside : List ℕ) → Frames text inside
    → trim_back (trim_front text) ≡ opening_mark ++ (inside ++ closing_mark)
frames_trimmed text inside frames =
    let behind : List ℕ = opening_mark ++ (inside ++ (closing_mark ++ frames.after)) in
    let front : trim_front text ≡ behind =
    ap trim_front frames.framed ∙ trim_front-append frames.before behind frames.spaces_before in
    let regrouped : behind ≡ ((opening_mark ++ inside) ++ 58 ∷ []) ++ frames.after = simp append_assoc in
    ap trim_back (front ∙ regrouped)
    ∙ (trim_back-append ((opening_mark ++ inside) ++ 58 ∷ []) frames.after frames.spaces_after
    ∙ (trim_back-mark (opening_mark ++ inside) 58 refl ∙ append_assoc opening_mark inside closing_mark))

-- a text that is trimmed to the marks and what stands between them is framed
pub trimmed_frames : (text inside : List ℕ) → trim_back (trim_front text) ≡ opening_mark ++ (inside ++ closing_mark)
    → Frames text inside
trimmed_frames text inside trimmed =
    let front = splits_front text in
    let back = splits_back (trim_front text) in
    record {
      before = front.before;
      after = back.after;
      spaces_before = front.spaces;
      spaces_after = back.spaces;
      framed = front.whole ∙ ap (λ (l : List ℕ). front.before ++ l) (back.whole ∙ (ap (λ (l : List ℕ). l ++ back.after) trimmed ∙ simp append_assoc));
    }

-- what stripping the closing mark says of the text
pub framed_found : (text trimmed behind : List ℕ) (inside : Option (Bor (List ℕ)))
    → trimmed ≡ trim_back (trim_front text) → trimmed ≡ opening_mark ++ behind
    → MatchOption inside ((front : List ℕ) → behind ≢ front ++ closing_mark) (λ x. behind ≡ x.now ++ closing_mark)
    → IfSome inside (λ x. Frames text x.now)
framed_found text trimmed behind None is opened closed = tt
framed_found text trimmed behind (Some x) is opened closed =
    trimmed_frames text x.now (sym is ∙ (opened ∙ ap (λ (l : List ℕ). opening_mark ++ l) closed))

pub framed_none : (text trimmed behind : List ℕ) (inside : Option (Bor (List ℕ)))
    → trimmed ≡ trim_back (trim_front text) → trimmed ≡ opening_mark ++ behind
    → MatchOption inside ((front : List ℕ) → behind ≢ front ++ closing_mark) (λ x. behind ≡ x.now ++ closing_mark)
    → IfNone inside ((y : List ℕ) → Frames text y → ⊥)
framed_none text trimmed behind None is opened closed =
    λ y frames.
    let same : opening_mark ++ behind ≡ opening_mark ++ (y ++ closing_mark) = sym opened ∙ (is ∙ frames_trimmed text y frames) in
    closed y (append_cancel_left opening_mark _ _ same)
framed_none text trimmed behind (Some x) is opened closed = tt

-- a text has one inside
pub frames_unique : (text a b : List ℕ) → Frames text a → Frames text b → a ≡ b
frames_unique text a b first second =
    let same : opening_mark ++ (a ++ closing_mark) ≡ opening_mark ++ (b ++ closing_mark) =
    sym (frames_trimmed text a first) ∙ frames_trimmed text b second in
    append_cancel_right a b closing_mark (append_cancel_left opening_mark _ _ same)
