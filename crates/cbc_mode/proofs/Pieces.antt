-- What a part makes of a message: fewer bytes than a block, whole blocks by pieces, and both.
use Rattle.std.proofs.Common.{◌≡◌, ℕ, ◌+◌, ◌-◌, ◌%◌, ◌<◌, ◌≤◌, min, List, [], ◌++◌, length, take, drop, refl, sym, ap, ap₂, ◌∙◌, subst, arith}
use Rattle.std.proofs.lemmas.List.{append-nil, append_assoc, length-append, length-drop, length-take-le, take-append-drop, take_all}
use Rattle.std.proofs.Math.Seq.{take-add}
use Rattle.cbc_mode.specs.Cbc.{cbc}
use Rattle.cbc_mode.specs.Chaining.{Chaining, Chains}
use Rattle.cbc_mode.specs.WholeBlocks.{whole_size, whole_blocks, beyond}
use Rattle.cbc_mode.proofs.Chains.{cbc_none}
use Rattle.cbc_mode.proofs.Parts.{whole_behind, whole_is_all, no_block, chains_waiting, chains_whole, chains_more, chained_more, length-waiting, beyond_more}

-- ---- what a part does, said of a message that it follows

module _ (old new : Chaining) (part taken taken' : List ℕ) where
  pub chains_after : Chains new old.key old.before (old.waiting ++ part) → (key iv plain : List ℕ) → Chains old key iv plain
      → Chains new key iv (plain ++ part)
  chains_after after key iv plain chains = chains_more old key iv plain chains part new after

  pub appended_after : taken' ≡ taken ++ cbc old.key old.before (whole_blocks (old.waiting ++ part)) → (key iv plain : List ℕ) → Chains old key iv plain
      → taken' ≡ taken ++ beyond (cbc key iv (whole_blocks plain)) (cbc key iv (whole_blocks (plain ++ part)))
  appended_after put key iv plain chains = put ∙ ap (λ xs. taken ++ xs) (sym (beyond_more old key iv plain chains part))

-- ---- fewer bytes than a block

pub none_put : (key before bytes taken : List ℕ) → length bytes < 16 → taken ≡ taken ++ cbc key before (whole_blocks bytes)
none_put key before bytes taken few =
    sym (
    ap (λ xs. taken ++ cbc key before xs) (no_block bytes few)
    ∙ ap (λ xs. taken ++ xs) (cbc_none key before)
    ∙ append-nil taken
    )

pub few_more : (waiting part : List ℕ) → length waiting + length part < 16 → length (waiting ++ part) < 16
few_more waiting part few = omega (arith, length-append waiting part)

-- ---- whole blocks by pieces

-- a part is written up to a place: where that is, whole blocks are encrypted, and less than one waits
pub record IsWrittenUpTo (old now : Chaining) (part : List ℕ) (at : ℕ) (taken taken' base base' : List ℕ) (spare spare' : ℕ) : Type 0 where
  pub within : at ≤ length part
  pub chains : Chains now old.key old.before (old.waiting ++ take at part)
  pub appended : taken' ≡ taken ++ cbc old.key old.before (whole_blocks (old.waiting ++ take at part))
  pub lowered : spare' + whole_size (length old.waiting + at) ≡ spare
  pub same_base : base' ≡ base

pub written_none : (old : Chaining) (part taken base : List ℕ) (spare : ℕ) → length old.waiting < 16
    → IsWrittenUpTo old old part 0 taken taken base base spare spare
written_none old part taken base spare few =
    let short : length (old.waiting ++ []) < 16 = omega (arith, ap length (append-nil old.waiting)) in
    record {
      within = omega arith;
      chains = chains_waiting old old (old.waiting ++ []) refl refl (sym (append-nil old.waiting)) short;
      appended = none_put old.key old.before (old.waiting ++ []) taken short;
      lowered = omega arith;
      same_base = refl;
    }

module _ (old now : Chaining) (part : List ℕ) (at : ℕ) (taken taken' base base' : List ℕ) (spare spare' : ℕ)
    (written : IsWrittenUpTo old now part at taken taken' base base' spare spare') where
  length-front : length (old.waiting ++ take at part) ≡ length old.waiting + at
  length-front = length-append old.waiting (take at part) ∙ ap (λ (n : ℕ). length old.waiting + n) (length-take-le at part written.within)

  -- how many bytes wait
  waiting_up_to : length now.waiting ≡ (length old.waiting + at) % 16
  waiting_up_to = length-waiting now old.key old.before (old.waiting ++ take at part) written.chains ∙ ap (λ (n : ℕ). n % 16) length-front

  module _ (end : ℕ) (whole : (length old.waiting + length part) % 16 ≡ 0) (is_end : end ≡ min (length part) (at + (768 - length now.waiting))) (more : at < length part) where
    end_within : end ≤ length part
    end_within = omega arith

    end_after : at < end
    end_after = omega (arith, waiting_up_to)

    piece_is_whole : (length now.waiting + (end - at)) % 16 ≡ 0
    piece_is_whole = omega (arith, waiting_up_to)

    up_to_end : (piece : List ℕ) → piece ≡ take (end - at) (drop at part) → old.waiting ++ take end part ≡ (old.waiting ++ take at part) ++ piece
    up_to_end piece is =
        let ends : end ≡ at + (end - at) = omega (arith, end_after) in
        ap (λ (n : ℕ). old.waiting ++ take n part) ends
        ∙ ap (λ xs. old.waiting ++ xs) (take-add at (end - at) part ∙ ap (λ xs. take at part ++ xs) (sym is))
        ∙ sym (append_assoc old.waiting (take at part) piece)

    length-piece : (piece : List ℕ) → piece ≡ take (end - at) (drop at part) → length piece ≡ end - at
    length-piece piece is = ap length is ∙ length-take-le (end - at) (drop at part) (omega (arith, end_within, length-drop at part))

    -- the piece is written too
    pub written_more : (new : Chaining) (piece taken'' base'' : List ℕ) (spare'' : ℕ) → piece ≡ take (end - at) (drop at part)
        → new.key ≡ now.key → new.waiting ≡ []
        → ((rest : List ℕ) → cbc now.key now.before ((now.waiting ++ piece) ++ rest) ≡ cbc now.key now.before (now.waiting ++ piece) ++ cbc now.key new.before rest)
        → taken'' ≡ taken' ++ cbc now.key now.before (now.waiting ++ piece) → spare'' + (length now.waiting + length piece) ≡ spare' → base'' ≡ base'
        → IsWrittenUpTo old new part end taken taken'' base base'' spare spare''
    written_more new piece taken'' base'' spare'' is same_key none goes_on put lowered same_base =
        let plain : List ℕ = old.waiting ++ take at part in
        let long : length piece ≡ end - at = length-piece piece is in
        let blocks : length (now.waiting ++ piece) % 16 ≡ 0 = omega (arith, length-append now.waiting piece, piece_is_whole) in
        let last : Chains new now.key now.before (now.waiting ++ piece) = chains_whole now new (now.waiting ++ piece) same_key none blocks goes_on in
        let more_put : cbc old.key old.before (whole_blocks (plain ++ piece)) ≡ cbc old.key old.before (whole_blocks plain) ++ cbc now.key now.before (now.waiting ++ piece) =
        chained_more now old.key old.before plain written.chains piece
        ∙ ap (λ xs. cbc old.key old.before (whole_blocks plain) ++ cbc now.key now.before xs) (whole_is_all (now.waiting ++ piece) blocks) in
        record {
          within = end_within;
          chains = subst (Chains new old.key old.before) (sym (up_to_end piece is)) (chains_more now old.key old.before plain written.chains piece new last);
          appended =
              put
              ∙ ap (λ xs. xs ++ cbc now.key now.before (now.waiting ++ piece)) written.appended
              ∙ append_assoc taken (cbc old.key old.before (whole_blocks plain)) (cbc now.key now.before (now.waiting ++ piece))
              ∙ ap (λ xs. taken ++ xs) (sym more_put)
              ∙ ap (λ xs. taken ++ cbc old.key old.before (whole_blocks xs)) (sym (up_to_end piece is));
          lowered = omega (arith, lowered, long, written.lowered, waiting_up_to, piece_is_whole, end_after);
          same_base = same_base ∙ written.same_base;
        }

  -- the end
  module _ (all : length part ≤ at) where
    up_to_all : take at part ≡ part
    up_to_all = take_all at part all

    pub written_appended : (length old.waiting + length part) % 16 ≡ 0 → taken' ≡ taken ++ cbc old.key old.before (old.waiting ++ part)
    written_appended whole =
        let blocks : length (old.waiting ++ part) % 16 ≡ 0 = omega (arith, length-append old.waiting part) in
        written.appended
        ∙ ap (λ xs. taken ++ cbc old.key old.before (whole_blocks (old.waiting ++ xs))) up_to_all
        ∙ ap (λ xs. taken ++ cbc old.key old.before xs) (whole_is_all (old.waiting ++ part) blocks)

-- ---- whole blocks, and then fewer bytes than one

module _ (old mid new : Chaining) (part blocks rest taken taken' : List ℕ) (parts : part ≡ blocks ++ rest)
    (whole : (length old.waiting + length blocks) % 16 ≡ 0) (few : length rest < 16)
    (chains : Chains mid old.key old.before (old.waiting ++ blocks)) where
  behind : old.waiting ++ part ≡ (old.waiting ++ blocks) ++ rest
  behind = ap (λ xs. old.waiting ++ xs) parts ∙ sym (append_assoc old.waiting blocks rest)

  blocks_whole : length (old.waiting ++ blocks) % 16 ≡ 0
  blocks_whole = omega (arith, length-append old.waiting blocks)

  none_waits : length mid.waiting ≡ 0
  none_waits = length-waiting mid old.key old.before (old.waiting ++ blocks) chains ∙ blocks_whole

  kept_few : length (mid.waiting ++ rest) < 16
  kept_few = omega (arith, length-append mid.waiting rest, none_waits)

  pub chains_both : new.key ≡ mid.key → new.before ≡ mid.before → new.waiting ≡ mid.waiting ++ rest → Chains new old.key old.before (old.waiting ++ part)
  chains_both same_key same_before is =
      subst (Chains new old.key old.before) (sym behind)
      (chains_more mid old.key old.before (old.waiting ++ blocks) chains rest new (chains_waiting mid new (mid.waiting ++ rest) same_key same_before is kept_few))

  pub appended_both : taken' ≡ taken ++ cbc old.key old.before (old.waiting ++ blocks) → taken' ≡ taken ++ cbc old.key old.before (whole_blocks (old.waiting ++ part))
  appended_both put =
      put
      ∙ ap (λ xs. taken ++ cbc old.key old.before xs)
      (sym (
      ap whole_blocks behind
      ∙ whole_behind (old.waiting ++ blocks) rest blocks_whole
      ∙ ap (λ xs. (old.waiting ++ blocks) ++ xs) (no_block rest few)
      ∙ append-nil (old.waiting ++ blocks)
      ))

pub split_parts : (part front back : List ℕ) (n : ℕ) → front ≡ take n part → back ≡ drop n part → part ≡ front ++ back
split_parts part front back n is behind = sym (ap₂ ◌++◌ is behind ∙ take-append-drop n part)
