-- No two blocks have one encryption: each step of a round is undone by one on bytes.
use Rattle.std.proofs.Common.{◌≡◌, ℕ, zero, suc, ◌+◌, ◌*◌, ◌-◌, ◌/◌, ◌<◌, Bool, true, false, cond, List, [], ◌∷◌, ◌++◌, All, length, get_or, refl, sym, ap, ◌∙◌, inl, inr, subst, arith}
use Rattle.std.proofs.lemmas.Bool.{cases_lt}
use Rattle.std.proofs.lemmas.List.{get_or_past}
use Rattle.std.proofs.lemmas.List.Elements.{All-nil, All-cons, All-get_or, All-from_get_or, All-push, All-map}
use Rattle.aes_block.specs.State.{Column, StateArray, IsBlock, column_at, column_bytes, state_of, block_of}
use Rattle.aes_block.specs.SubBytes.{sub_word, sub_bytes}
use Rattle.aes_block.specs.Rounds.{diagonal, shift_rows, mix_columns, add_round_key, round, last_round}
use Rattle.aes_block.specs.KeyExpansion.{zeros, word_at, rot_word, power_of_x, rcon, added_word, next_word, key_words, expanded_by, expanded_key, round_key, round_count}
use Rattle.aes_block.specs.Cipher.{rounds, finished, encrypted, cipher}
use Rattle.aes_block.specs.declared.s_box.TheConstants.{INVERSE_S_BOX}
use Rattle.aes_block.proofs.SBoxTables.{inverse_s_box-sub_byte, sub_byte_below}
use Rattle.aes_block.proofs.FieldLaws.{xtimes_below}
use Rattle.aes_block.proofs.MatrixLaws.{IsBytes, IsBytes-matrix_product, IsBytes-add_columns, unmix_column, unmix_column-mix_column}
use Rattle.aes_block.proofs.RoundsLemmas.{add_round_key-cancel, finished_more}
use Rattle.aes_block.proofs.Blocks.{block_of-state_of}

-- sixteen bytes
record IsByteState (s : StateArray) : Type 0 where
  pub column0 : IsBytes s.column0
  pub column1 : IsBytes s.column1
  pub column2 : IsBytes s.column2
  pub column3 : IsBytes s.column3

IsBytes-sub_word : (c : Column) → IsBytes c → IsBytes (sub_word c)
IsBytes-sub_word c h = record {
  row0 = sub_byte_below c.row0 h.row0;
  row1 = sub_byte_below c.row1 h.row1;
  row2 = sub_byte_below c.row2 h.row2;
  row3 = sub_byte_below c.row3 h.row3;
}

IsBytes-diagonal : (a b c d : Column) → IsBytes a → IsBytes b → IsBytes c → IsBytes d → IsBytes (diagonal a b c d)
IsBytes-diagonal a b c d ha hb hc hd = record { row0 = ha.row0; row1 = hb.row1; row2 = hc.row2; row3 = hd.row3 }

IsByteState-shifted : (s : StateArray) → IsByteState s → IsByteState (shift_rows (sub_bytes s))
IsByteState-shifted s h =
    let a : IsBytes (sub_word s.column0) = IsBytes-sub_word s.column0 h.column0 in
    let b : IsBytes (sub_word s.column1) = IsBytes-sub_word s.column1 h.column1 in
    let c : IsBytes (sub_word s.column2) = IsBytes-sub_word s.column2 h.column2 in
    let d : IsBytes (sub_word s.column3) = IsBytes-sub_word s.column3 h.column3 in
    record {
      column0 = IsBytes-diagonal (sub_word s.column0) (sub_word s.column1) (sub_word s.column2) (sub_word s.column3) a b c d;
      column1 = IsBytes-diagonal (sub_word s.column1) (sub_word s.column2) (sub_word s.column3) (sub_word s.column0) b c d a;
      column2 = IsBytes-diagonal (sub_word s.column2) (sub_word s.column3) (sub_word s.column0) (sub_word s.column1) c d a b;
      column3 = IsBytes-diagonal (sub_word s.column3) (sub_word s.column0) (sub_word s.column1) (sub_word s.column2) d a b c;
    }

IsByteState-mix_columns : (s : StateArray) → IsByteState s → IsByteState (mix_columns s)
IsByteState-mix_columns s h = record {
  column0 = IsBytes-matrix_product (record { row0 = 0x02; row1 = 0x01; row2 = 0x01; row3 = 0x03 }) s.column0 h.column0;
  column1 = IsBytes-matrix_product (record { row0 = 0x02; row1 = 0x01; row2 = 0x01; row3 = 0x03 }) s.column1 h.column1;
  column2 = IsBytes-matrix_product (record { row0 = 0x02; row1 = 0x01; row2 = 0x01; row3 = 0x03 }) s.column2 h.column2;
  column3 = IsBytes-matrix_product (record { row0 = 0x02; row1 = 0x01; row2 = 0x01; row3 = 0x03 }) s.column3 h.column3;
}

IsByteState-add_round_key : (s key : StateArray) → IsByteState s → IsByteState key → IsByteState (add_round_key s key)
IsByteState-add_round_key s key h k = record {
  column0 = IsBytes-add_columns s.column0 key.column0 h.column0 k.column0;
  column1 = IsBytes-add_columns s.column1 key.column1 h.column1 k.column1;
  column2 = IsBytes-add_columns s.column2 key.column2 h.column2 k.column2;
  column3 = IsBytes-add_columns s.column3 key.column3 h.column3 k.column3;
}

IsByteState-round : (s key : StateArray) → IsByteState s → IsByteState key → IsByteState (round s key)
unfolding round
IsByteState-round s key h k =
    IsByteState-add_round_key (mix_columns (shift_rows (sub_bytes s))) key
    (IsByteState-mix_columns (shift_rows (sub_bytes s)) (IsByteState-shifted s h)) k

-- ---- the steps undone

abbrev unsub_word : Column → Column
unsub_word c = record {
  row0 = get_or INVERSE_S_BOX c.row0 0;
  row1 = get_or INVERSE_S_BOX c.row1 0;
  row2 = get_or INVERSE_S_BOX c.row2 0;
  row3 = get_or INVERSE_S_BOX c.row3 0;
}

unsub_word-sub_word : (c : Column) → IsBytes c → unsub_word (sub_word c) ≡ c
unsub_word-sub_word c h i = record {
  row0 = inverse_s_box-sub_byte c.row0 h.row0 i;
  row1 = inverse_s_box-sub_byte c.row1 h.row1 i;
  row2 = inverse_s_box-sub_byte c.row2 h.row2 i;
  row3 = inverse_s_box-sub_byte c.row3 h.row3 i;
}

-- SUBBYTES and SHIFTROWS undone
abbrev unshifted : StateArray → StateArray
unshifted s = record {
  column0 = unsub_word (diagonal s.column0 s.column3 s.column2 s.column1);
  column1 = unsub_word (diagonal s.column1 s.column0 s.column3 s.column2);
  column2 = unsub_word (diagonal s.column2 s.column1 s.column0 s.column3);
  column3 = unsub_word (diagonal s.column3 s.column2 s.column1 s.column0);
}

unshifted-shifted : (s : StateArray) → IsByteState s → unshifted (shift_rows (sub_bytes s)) ≡ s
unshifted-shifted s h i = record {
  column0 = unsub_word-sub_word s.column0 h.column0 i;
  column1 = unsub_word-sub_word s.column1 h.column1 i;
  column2 = unsub_word-sub_word s.column2 h.column2 i;
  column3 = unsub_word-sub_word s.column3 h.column3 i;
}

abbrev unmixed_columns : StateArray → StateArray
unmixed_columns s = record {
  column0 = unmix_column s.column0;
  column1 = unmix_column s.column1;
  column2 = unmix_column s.column2;
  column3 = unmix_column s.column3;
}

unmixed_columns-mix_columns : (s : StateArray) → IsByteState s → unmixed_columns (mix_columns s) ≡ s
unmixed_columns-mix_columns s h i = record {
  column0 = unmix_column-mix_column s.column0 h.column0 i;
  column1 = unmix_column-mix_column s.column1 h.column1 i;
  column2 = unmix_column-mix_column s.column2 h.column2 i;
  column3 = unmix_column-mix_column s.column3 h.column3 i;
}

unround : StateArray → StateArray → StateArray
unround s key = unshifted (unmixed_columns (add_round_key s key))

unround-round : (s key : StateArray) → IsByteState s → unround (round s key) key ≡ s
unfolding unround round
unround-round s key h =
    ap (λ x. unshifted (unmixed_columns x)) (add_round_key-cancel (mix_columns (shift_rows (sub_bytes s))) key)
    ∙ ap unshifted (unmixed_columns-mix_columns (shift_rows (sub_bytes s)) (IsByteState-shifted s h))
    ∙ unshifted-shifted s h

unround_last : StateArray → StateArray → StateArray
unround_last s key = unshifted (add_round_key s key)

unround_last-last_round : (s key : StateArray) → IsByteState s → unround_last (last_round s key) key ≡ s
unfolding unround_last last_round
unround_last-last_round s key h = ap unshifted (add_round_key-cancel (shift_rows (sub_bytes s)) key) ∙ unshifted-shifted s h

-- ---- the words of the key expansion are bytes

abbrev IsByte : ℕ → Type 0
IsByte b = b < 256

byte_at : (bytes : List ℕ) (i : ℕ) → All IsByte bytes → get_or bytes i 0 < 256
byte_at bytes i h = elim (cases_lt i (length bytes)) [
  | inl within ↦ All-get_or IsByte bytes i 0 within h
  | inr past ↦ rw (get_or_past bytes i 0 past) (omega arith)
]

IsBytes-column_at : (bytes : List ℕ) (i : ℕ) → All IsByte bytes → IsBytes (column_at bytes i)
IsBytes-column_at bytes i h = record {
  row0 = byte_at bytes i h;
  row1 = byte_at bytes (i + 1) h;
  row2 = byte_at bytes (i + 2) h;
  row3 = byte_at bytes (i + 3) h;
}

IsBytes-zeros : IsBytes zeros
IsBytes-zeros = record { row0 = omega arith; row1 = omega arith; row2 = omega arith; row3 = omega arith }

IsBytes-word_at : (words : List Column) (i : ℕ) → All IsBytes words → IsBytes (word_at words i)
IsBytes-word_at words i h = elim (cases_lt i (length words)) [
  | inl within ↦ All-get_or IsBytes words i zeros within h
  | inr past ↦ subst IsBytes (sym (get_or_past words i zeros past)) IsBytes-zeros
]

power_of_x_below : (j : ℕ) → power_of_x j < 256
unfolding power_of_x
power_of_x_below zero = omega arith
power_of_x_below (suc j) = xtimes_below (power_of_x j)

IsBytes-rcon : (j : ℕ) → IsBytes (rcon j)
unfolding rcon
IsBytes-rcon j = record { row0 = power_of_x_below (j - 1); row1 = omega arith; row2 = omega arith; row3 = omega arith }

IsBytes-cond : (t : Bool) (a b : Column) → IsBytes a → IsBytes b → IsBytes (cond t a b)
IsBytes-cond true a b ha hb = ha
IsBytes-cond false a b ha hb = hb

IsBytes-added_word : (nk i : ℕ) (temp : Column) → IsBytes temp → IsBytes (added_word nk i temp)
unfolding added_word
IsBytes-added_word nk i temp h =
    let turned : IsBytes (rot_word temp) = record { row0 = h.row1; row1 = h.row2; row2 = h.row3; row3 = h.row0 } in
    IsBytes-cond _ _ _
    (IsBytes-add_columns (sub_word (rot_word temp)) (rcon (i / nk)) (IsBytes-sub_word (rot_word temp) turned) (IsBytes-rcon (i / nk)))
    (IsBytes-cond _ _ _ (IsBytes-sub_word temp h) h)

IsBytes-next_word : (nk : ℕ) (words : List Column) → All IsBytes words → IsBytes (next_word nk words)
unfolding next_word
IsBytes-next_word nk words h =
    IsBytes-add_columns _ _ (IsBytes-word_at words (length words - nk) h)
    (IsBytes-added_word nk (length words) (word_at words (length words - 1)) (IsBytes-word_at words (length words - 1) h))

All-expanded_by : (nk n : ℕ) (words : List Column) → All IsBytes words → All IsBytes (expanded_by nk n words)
unfolding expanded_by
All-expanded_by nk zero words h = h
All-expanded_by nk (suc n) words h =
    All-push IsBytes (expanded_by nk n words) (next_word nk (expanded_by nk n words)) (All-expanded_by nk n words h)
    (IsBytes-next_word nk (expanded_by nk n words) (All-expanded_by nk n words h))

All-key_words : (key : List ℕ) → All IsByte key → All IsBytes (key_words key)
unfolding key_words
All-key_words key h =
    All-map IsBytes (λ i. column_at key (4 * i)) _
    (All-from_get_or (λ i. IsBytes (column_at key (4 * i))) _ 0 (λ i _. IsBytes-column_at key _ h))

All-expanded_key : (key : List ℕ) → All IsByte key → All IsBytes (expanded_key key)
unfolding expanded_key
All-expanded_key key h = All-expanded_by _ _ (key_words key) (All-key_words key h)

IsByteState-round_key : (words : List Column) (n : ℕ) → All IsBytes words → IsByteState (round_key words n)
unfolding round_key
IsByteState-round_key words n h = record {
  column0 = IsBytes-word_at words (4 * n) h;
  column1 = IsBytes-word_at words (4 * n + 1) h;
  column2 = IsBytes-word_at words (4 * n + 2) h;
  column3 = IsBytes-word_at words (4 * n + 3) h;
}

-- ---- one to one

finished_one_to_one : (words : List Column) → All IsBytes words → (first n : ℕ) (s t : StateArray) → IsByteState s → IsByteState t
    → finished words first n s ≡ finished words first n t → s ≡ t
unfolding finished rounds
finished_one_to_one words bytes first zero s t hs ht same =
    let key : StateArray = round_key words (first + 0) in
    sym (unround_last-last_round s key hs) ∙ ap (λ x. unround_last x key) same ∙ unround_last-last_round t key ht
finished_one_to_one words bytes first (suc n) s t hs ht same =
    let key : StateArray = round_key words first in
    let k : IsByteState key = IsByteState-round_key words first bytes in
    let after : round s key ≡ round t key =
    finished_one_to_one words bytes (first + 1) n (round s key) (round t key) (IsByteState-round s key hs k) (IsByteState-round t key ht k)
    (sym (finished_more words first n s) ∙ same ∙ finished_more words first n t) in
    sym (unround-round s key hs) ∙ ap (λ x. unround x key) after ∙ unround-round t key ht

IsByteState-state_of : (block : List ℕ) → All IsByte block → IsByteState (state_of block)
IsByteState-state_of block h = record {
  column0 = IsBytes-column_at block 0 h;
  column1 = IsBytes-column_at block 4 h;
  column2 = IsBytes-column_at block 8 h;
  column3 = IsBytes-column_at block 12 h;
}

encrypted_one_to_one : (words : List Column) → All IsBytes words → (count : ℕ) (s t : StateArray) → IsByteState s → IsByteState t
    → encrypted words count s ≡ encrypted words count t → s ≡ t
unfolding encrypted
encrypted_one_to_one words bytes count s t hs ht same =
    let key : StateArray = round_key words 0 in
    let k : IsByteState key = IsByteState-round_key words 0 bytes in
    let started : add_round_key s key ≡ add_round_key t key =
    finished_one_to_one words bytes 1 (count - 1) _ _ (IsByteState-add_round_key s key hs k) (IsByteState-add_round_key t key ht k) same in
    sym (add_round_key-cancel s key) ∙ ap (λ x. add_round_key x key) started ∙ add_round_key-cancel t key

-- blocks with one encryption are one
pub cipher_one_to_one : (key a b : List ℕ) → All IsByte key → IsBlock a → IsBlock b → cipher key a ≡ cipher key b → a ≡ b
unfolding cipher
cipher_one_to_one key a b bytes ha hb same =
    let states : state_of a ≡ state_of b =
    encrypted_one_to_one (expanded_key key) (All-expanded_key key bytes) (round_count key) (state_of a) (state_of b)
    (IsByteState-state_of a ha.bytes) (IsByteState-state_of b hb.bytes) (ap state_of same) in
    sym (block_of-state_of a ha.sixteen) ∙ ap block_of states ∙ block_of-state_of b hb.sixteen

-- ---- a block is encrypted to a block

IsByteState-rounds : (words : List Column) → All IsBytes words → (first n : ℕ) (s : StateArray) → IsByteState s → IsByteState (rounds words first n s)
unfolding rounds
IsByteState-rounds words bytes first zero s h = h
IsByteState-rounds words bytes first (suc n) s h =
    let key : StateArray = round_key words first in
    IsByteState-rounds words bytes (first + 1) n (round s key) (IsByteState-round s key h (IsByteState-round_key words first bytes))

IsByteState-encrypted : (words : List Column) → All IsBytes words → (count : ℕ) (s : StateArray) → IsByteState s → IsByteState (encrypted words count s)
unfolding encrypted finished last_round
IsByteState-encrypted words bytes count s h =
    let key : StateArray = round_key words 0 in
    let before : StateArray = rounds words 1 (count - 1) (add_round_key s key) in
    let k : IsByteState key = IsByteState-round_key words 0 bytes in
    let whole : IsByteState before = IsByteState-rounds words bytes 1 (count - 1) (add_round_key s key) (IsByteState-add_round_key s key h k) in
    IsByteState-add_round_key _ _ (IsByteState-shifted before whole) (IsByteState-round_key words (1 + (count - 1)) bytes)

All-column_bytes : (c : Column) (rest : List ℕ) → IsBytes c → All IsByte rest → All IsByte (c.row0 ∷ c.row1 ∷ c.row2 ∷ c.row3 ∷ rest)
All-column_bytes c rest h all =
    All-cons IsByte c.row0 (c.row1 ∷ c.row2 ∷ c.row3 ∷ rest) h.row0 (All-cons IsByte c.row1 (c.row2 ∷ c.row3 ∷ rest) h.row1
    (All-cons IsByte c.row2 (c.row3 ∷ rest) h.row2 (All-cons IsByte c.row3 rest h.row3 all)))

IsBlock-block_of : (s : StateArray) → IsByteState s → IsBlock (block_of s)
IsBlock-block_of s h = record {
  sixteen = refl;
  bytes =
      let last : List ℕ = column_bytes s.column3 in
      let third : List ℕ = column_bytes s.column2 ++ last in
      let second : List ℕ = column_bytes s.column1 ++ third in
      All-column_bytes s.column0 second h.column0 (All-column_bytes s.column1 third h.column1
      (All-column_bytes s.column2 last h.column2 (All-column_bytes s.column3 [] h.column3 (All-nil IsByte))));
}

pub length-cipher : (key block : List ℕ) → length (cipher key block) ≡ 16
unfolding cipher
length-cipher key block = refl

pub IsBlock-cipher : (key block : List ℕ) → All IsByte key → IsBlock block → IsBlock (cipher key block)
unfolding cipher
IsBlock-cipher key block bytes h =
    IsBlock-block_of _ (IsByteState-encrypted (expanded_key key) (All-expanded_key key bytes) (round_count key) (state_of block) (IsByteState-state_of block h.bytes))
