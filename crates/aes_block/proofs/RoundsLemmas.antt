-- Rounds that are done one at a time.
use Rattle.std.proofs.Common.{◌≡◌, ℕ, suc, ◌+◌, ◌-◌, ◌<◌, List, refl, sym, ap, ap₂, ◌∙◌, arith}
use Rattle.aes_block.specs.State.{Column, StateArray}
use Rattle.aes_block.specs.KeyExpansion.{round_key}
use Rattle.aes_block.specs.SubBytes.{sub_bytes}
use Rattle.aes_block.specs.Rounds.{round, last_round, shift_rows, mix_columns, add_round_key}
use Rattle.aes_block.specs.Cipher.{rounds, finished, encrypted}
use Rattle.aes_block.proofs.MatrixLaws.{add_columns-cancel, mix_column-add}

-- a round, and those after it
pub rounds_more : (words : List Column) (first left n : ℕ) (state : StateArray) → left ≡ suc n
    → rounds words first left state ≡ rounds words (first + 1) n (round state (round_key words first))
unfolding rounds
rounds_more words first left n state e = rw e refl

pub rounds_none : (words : List Column) (first left : ℕ) (state : StateArray) → left ≡ 0 → rounds words first left state ≡ state
unfolding rounds
rounds_none words first left state e = rw e refl

-- a last round after all the others
pub finished_after : (words : List Column) (count : ℕ) (state initial : StateArray) → 0 < count
    → state ≡ rounds words 1 (count - 1) initial → last_round state (round_key words count) ≡ finished words 1 (count - 1) initial
unfolding finished
finished_after words count state initial h e =
    let n : 1 + (count - 1) ≡ count = omega arith in
    rw (n, e) refl

-- n rounds from the round that is given on, and the last one, make the second state of each state
-- whose substituted and shifted bytes are the first
abbrev pub LeadsTo : List Column → ℕ → ℕ → StateArray → StateArray → Type 0
LeadsTo words first n shifted final = (state : StateArray) → shift_rows (sub_bytes state) ≡ shifted → finished words first n state ≡ final

pub add_round_key-cancel : (state key : StateArray) → add_round_key (add_round_key state key) key ≡ state
add_round_key-cancel state key i = record {
  column0 = add_columns-cancel state.column0 key.column0 i;
  column1 = add_columns-cancel state.column1 key.column1 i;
  column2 = add_columns-cancel state.column2 key.column2 i;
  column3 = add_columns-cancel state.column3 key.column3 i;
}

pub mix_columns-add_round_key : (state key : StateArray) → mix_columns (add_round_key state key) ≡ add_round_key (mix_columns state) (mix_columns key)
mix_columns-add_round_key state key i = record {
  column0 = mix_column-add state.column0 key.column0 i;
  column1 = mix_column-add state.column1 key.column1 i;
  column2 = mix_column-add state.column2 key.column2 i;
  column3 = mix_column-add state.column3 key.column3 i;
}

-- the last round alone
pub LeadsTo_none : (words : List Column) (first n count : ℕ) (final : StateArray) → n ≡ 0 → first ≡ count
    → LeadsTo words first n (add_round_key final (round_key words count)) final
unfolding finished rounds last_round
LeadsTo_none words first n count final none last state h =
    let place : count + 0 ≡ count = omega arith in
    rw (none, last, place) (ap (λ s. add_round_key s (round_key words count)) h ∙ add_round_key-cancel final (round_key words count))

pub finished_more : (words : List Column) (first n : ℕ) (state : StateArray)
    → finished words first (suc n) state ≡ finished words (first + 1) n (round state (round_key words first))
unfolding finished rounds
finished_more words first n state =
    let place : first + suc n ≡ first + 1 + n = omega arith in
    ap (λ k. last_round (rounds words (first + 1) n (round state (round_key words first))) (round_key words k)) place

-- a round before those that lead on
pub LeadsTo_more : (words : List Column) (first n after left : ℕ) (key before shifted final : StateArray) → mix_columns key ≡ round_key words first
    → after ≡ first + 1 → left ≡ suc n
    → shift_rows (sub_bytes (mix_columns (add_round_key before key))) ≡ shifted → LeadsTo words after n shifted final → LeadsTo words first left before final
unfolding round
LeadsTo_more words first n after left key before shifted final mixed next more step leads state h =
    let done : round state (round_key words first) ≡ mix_columns (add_round_key before key) =
    ap₂ (λ s k. add_round_key (mix_columns s) k) h (sym mixed) ∙ sym (mix_columns-add_round_key before key) in
    ap (λ k. finished words first k state) more
    ∙ finished_more words first n state
    ∙ ap₂ (λ k s. finished words k n s) (sym next) done
    ∙ leads (mix_columns (add_round_key before key)) step

-- all the rounds, from the first key addition on
pub LeadsTo_all : (words : List Column) (count number : ℕ) (shifted final state : StateArray) → number ≡ 0
    → LeadsTo words (number + 1) (count - 1 - number) shifted final
    → shift_rows (sub_bytes (add_round_key state (round_key words 0))) ≡ shifted → encrypted words count state ≡ final
unfolding encrypted
LeadsTo_all words count number shifted final state none leads h =
    let place : number + 1 ≡ 1 = omega arith in
    let left : count - 1 - number ≡ count - 1 = omega arith in
    ap₂ (λ k n. finished words k n (add_round_key state (round_key words 0))) (sym place) (sym left)
    ∙ leads (add_round_key state (round_key words 0)) h
