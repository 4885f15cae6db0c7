-- A message in parts, chained part by part.
use Rattle.std.proofs.Common.{◌≡◌, ℕ, ◌+◌, ◌%◌, ◌<◌, ◌-◌, List, [], ◌++◌, length, take, drop, replicate, refl, sym, ap, ap₂, ◌∙◌, arith}
use Rattle.std.proofs.lemmas.List.{append_assoc, length-append, length-drop, length-take-le, take-append-drop, take_all, drop_all, drop_at}
use Rattle.std.proofs.Math.Seq.{take-append-add, drop-append-add}
use Rattle.cbc_mode.specs.Cbc.{cbc}
use Rattle.cbc_mode.specs.Chaining.{Chaining, Chains}
use Rattle.cbc_mode.specs.Padding.{pad_size, padded}
use Rattle.cbc_mode.specs.WholeBlocks.{whole_size, whole_blocks, beyond}
use Rattle.cbc_mode.proofs.Chains.{cbc_none}

pub length-whole_blocks : (bytes : List ℕ) → length (whole_blocks bytes) ≡ whole_size (length bytes)
unfolding whole_blocks
length-whole_blocks bytes = length-take-le (whole_size (length bytes)) bytes (omega arith)

pub whole-whole_blocks : (bytes : List ℕ) → length (whole_blocks bytes) % 16 ≡ 0
whole-whole_blocks bytes = omega (arith, length-whole_blocks bytes)

-- ---- behind whole blocks

module _ (front rest : List ℕ) (whole : length front % 16 ≡ 0) where
  size_behind : whole_size (length (front ++ rest)) ≡ length front + whole_size (length rest)
  size_behind = omega (arith, length-append front rest)

  pub whole_behind : whole_blocks (front ++ rest) ≡ front ++ whole_blocks rest
  unfolding whole_blocks
  whole_behind =
      ap (λ (n : ℕ). take n (front ++ rest)) size_behind ∙ take-append-add front rest (whole_size (length rest))

  pub left_behind : drop (whole_size (length (front ++ rest))) (front ++ rest) ≡ drop (whole_size (length rest)) rest
  left_behind =
      ap (λ (n : ℕ). drop n (front ++ rest)) size_behind ∙ drop-append-add front rest (whole_size (length rest))

-- whole blocks are all of themselves, and leave nothing
module _ (bytes : List ℕ) (whole : length bytes % 16 ≡ 0) where
  pub whole_is_all : whole_blocks bytes ≡ bytes
  unfolding whole_blocks
  whole_is_all = take_all (whole_size (length bytes)) bytes (omega arith)

  pub none_left : drop (whole_size (length bytes)) bytes ≡ []
  none_left = drop_all (whole_size (length bytes)) bytes (omega arith)

-- fewer than 16 bytes have no whole block
module _ (bytes : List ℕ) (few : length bytes < 16) where
  none_whole : whole_size (length bytes) ≡ 0
  none_whole = omega arith

  pub no_block : whole_blocks bytes ≡ []
  unfolding whole_blocks
  no_block = ap (λ (n : ℕ). take n bytes) none_whole

  pub all_left : drop (whole_size (length bytes)) bytes ≡ bytes
  all_left = ap (λ (n : ℕ). drop n bytes) none_whole

-- ---- where a message begins, and what waits alone

pub chains_none : (state : Chaining) (key iv : List ℕ) → state.key ≡ key → state.before ≡ iv → state.waiting ≡ [] → Chains state key iv []
unfolding whole_blocks
chains_none state key iv same from none = record {
  same_key = same;
  waits = none;
  goes_on = λ rest. ap (λ before. cbc key before rest) (sym from) ∙ ap (λ xs. xs ++ cbc key state.before rest) (sym (cbc_none key iv));
}

-- what waits is a message that has come to its end
pub chains_waiting : (old new : Chaining) (waiting : List ℕ) → new.key ≡ old.key → new.before ≡ old.before → new.waiting ≡ waiting → length waiting < 16
    → Chains new old.key old.before waiting
chains_waiting old new waiting same_key same_before is few = record {
  same_key = same_key;
  waits = is ∙ sym (all_left waiting few);
  goes_on = λ rest.
      ap (λ xs. cbc old.key old.before (xs ++ rest)) (no_block waiting few)
      ∙ ap (λ before. cbc old.key before rest) (sym same_before)
      ∙ ap (λ xs. xs ++ cbc old.key new.before rest) (sym (ap (cbc old.key old.before) (no_block waiting few) ∙ cbc_none old.key old.before));
}

-- whole blocks that are all encrypted are a message that has come to its end
pub chains_whole : (old new : Chaining) (blocks : List ℕ) → new.key ≡ old.key → new.waiting ≡ [] → length blocks % 16 ≡ 0
    → ((rest : List ℕ) → cbc old.key old.before (blocks ++ rest) ≡ cbc old.key old.before blocks ++ cbc old.key new.before rest)
    → Chains new old.key old.before blocks
chains_whole old new blocks same_key none whole goes_on = record {
  same_key = same_key;
  waits = none ∙ sym (none_left blocks whole);
  goes_on = λ rest.
      ap (λ xs. cbc old.key old.before (xs ++ rest)) (whole_is_all blocks whole)
      ∙ goes_on rest
      ∙ ap (λ xs. cbc old.key old.before xs ++ cbc old.key new.before rest) (sym (whole_is_all blocks whole));
}

-- ---- a part more

module _ (old : Chaining) (key iv plain : List ℕ) (chains : Chains old key iv plain) where
  in_two : plain ≡ whole_blocks plain ++ old.waiting
  unfolding whole_blocks
  in_two =
      sym (take-append-drop (whole_size (length plain)) plain)
      ∙ ap (λ xs. take (whole_size (length plain)) plain ++ xs) (sym chains.waits)

  pub length-waiting : length old.waiting ≡ length plain % 16
  length-waiting = ap length chains.waits ∙ length-drop (whole_size (length plain)) plain ∙ omega arith

  -- what comes behind the whole blocks is chained to what is kept
  chained_behind : (rest : List ℕ) → cbc key iv (whole_blocks plain ++ rest) ≡ cbc key iv (whole_blocks plain) ++ cbc old.key old.before rest
  chained_behind rest =
      chains.goes_on rest ∙ ap (λ k. cbc key iv (whole_blocks plain) ++ cbc k old.before rest) (sym chains.same_key)

  -- and stands beyond them
  beyond_is : (rest whole : List ℕ) → whole ≡ whole_blocks plain ++ rest → beyond (cbc key iv (whole_blocks plain)) (cbc key iv whole) ≡ cbc old.key old.before rest
  beyond_is rest whole is =
      ap (λ xs. beyond (cbc key iv (whole_blocks plain)) (cbc key iv xs)) is
      ∙ ap (λ xs. drop (length (cbc key iv (whole_blocks plain))) xs) (chained_behind rest)
      ∙ drop_at (cbc key iv (whole_blocks plain)) (cbc old.key old.before rest) (length (cbc key iv (whole_blocks plain))) refl

  module _ (part : List ℕ) where
    parts : plain ++ part ≡ whole_blocks plain ++ (old.waiting ++ part)
    parts = ap (λ xs. xs ++ part) in_two ∙ append_assoc (whole_blocks plain) old.waiting part

    blocks_more : whole_blocks (plain ++ part) ≡ whole_blocks plain ++ whole_blocks (old.waiting ++ part)
    blocks_more = ap whole_blocks parts ∙ whole_behind (whole_blocks plain) (old.waiting ++ part) (whole-whole_blocks plain)

    pub beyond_more : beyond (cbc key iv (whole_blocks plain)) (cbc key iv (whole_blocks (plain ++ part))) ≡ cbc old.key old.before (whole_blocks (old.waiting ++ part))
    beyond_more = beyond_is (whole_blocks (old.waiting ++ part)) (whole_blocks (plain ++ part)) blocks_more

    pub chained_more : cbc key iv (whole_blocks (plain ++ part)) ≡ cbc key iv (whole_blocks plain) ++ cbc old.key old.before (whole_blocks (old.waiting ++ part))
    chained_more = ap (cbc key iv) blocks_more ∙ chained_behind (whole_blocks (old.waiting ++ part))

    pub chains_more : (new : Chaining) → Chains new old.key old.before (old.waiting ++ part) → Chains new key iv (plain ++ part)
    chains_more new after = record {
      same_key = after.same_key ∙ chains.same_key;
      waits =
          after.waits
          ∙ sym (ap (λ xs. drop (whole_size (length xs)) xs) parts ∙ left_behind (whole_blocks plain) (old.waiting ++ part) (whole-whole_blocks plain));
      goes_on = λ rest.
          ap (λ xs. cbc key iv (xs ++ rest)) blocks_more
          ∙ ap (cbc key iv) (append_assoc (whole_blocks plain) (whole_blocks (old.waiting ++ part)) rest)
          ∙ chained_behind (whole_blocks (old.waiting ++ part) ++ rest)
          ∙ ap (λ xs. cbc key iv (whole_blocks plain) ++ xs) (after.goes_on rest)
          ∙ sym (append_assoc (cbc key iv (whole_blocks plain)) (cbc old.key old.before (whole_blocks (old.waiting ++ part))) (cbc old.key new.before rest))
          ∙ ap (λ xs. xs ++ cbc old.key new.before rest) (sym chained_more)
          ∙ ap (λ k. cbc key iv (whole_blocks (plain ++ part)) ++ cbc k new.before rest) chains.same_key;
    }

  -- ---- the padded message

  padded_parts : padded plain ≡ whole_blocks plain ++ padded old.waiting
  unfolding padded
  padded_parts =
      let same : pad_size (length plain) ≡ pad_size (length old.waiting) = omega (arith, length-waiting) in
      ap (λ xs. xs ++ replicate (pad_size (length plain)) (pad_size (length plain))) in_two
      ∙ ap (λ (n : ℕ). (whole_blocks plain ++ old.waiting) ++ replicate n n) same
      ∙ append_assoc (whole_blocks plain) old.waiting (replicate (pad_size (length old.waiting)) (pad_size (length old.waiting)))

  pub beyond_padded : beyond (cbc key iv (whole_blocks plain)) (cbc key iv (padded plain)) ≡ cbc old.key old.before (padded old.waiting)
  beyond_padded = beyond_is (padded old.waiting) (padded plain) padded_parts

  -- ---- what is put, one behind the other

  pub whole_of_parts : (part : List ℕ) → cbc key iv (whole_blocks plain) ++ beyond (cbc key iv (whole_blocks plain)) (cbc key iv (whole_blocks (plain ++ part))) ≡ cbc key iv (whole_blocks (plain ++ part))
  whole_of_parts part = ap (λ xs. cbc key iv (whole_blocks plain) ++ xs) (beyond_more part) ∙ sym (chained_more part)

  pub whole_at_end : cbc key iv (whole_blocks plain) ++ beyond (cbc key iv (whole_blocks plain)) (cbc key iv (padded plain)) ≡ cbc key iv (padded plain)
  whole_at_end =
      ap (λ xs. cbc key iv (whole_blocks plain) ++ xs) beyond_padded
      ∙ sym (ap (cbc key iv) padded_parts ∙ chained_behind (padded old.waiting))

-- no part has put nothing
pub none_of_none : (key iv : List ℕ) → cbc key iv (whole_blocks []) ≡ []
unfolding whole_blocks
none_of_none key iv = cbc_none key iv

-- fewer bytes than a block, and as many of the padding as are missing
pub padded_is : (bytes front back : List ℕ) (n size : ℕ) → front ≡ bytes → back ≡ replicate n size → size ≡ pad_size (length bytes)
    → length bytes < 16 → length bytes + n ≡ 16 → front ++ back ≡ padded bytes
unfolding padded
padded_is bytes front back n size is behind sized few fits =
    let same : n ≡ pad_size (length bytes) = omega arith in
    ap₂ ◌++◌ is (behind ∙ ap₂ (λ (m v : ℕ). replicate m v) same sized)

-- what the end puts
pub appended_end : (old : Chaining) (taken taken' block : List ℕ) → taken' ≡ taken ++ block → block ≡ cbc old.key old.before (padded old.waiting)
    → (key iv plain : List ℕ) → Chains old key iv plain → taken' ≡ taken ++ beyond (cbc key iv (whole_blocks plain)) (cbc key iv (padded plain))
appended_end old taken taken' block put is key iv plain chains =
    put ∙ ap (λ xs. taken ++ xs) (is ∙ sym (beyond_padded old key iv plain chains))
