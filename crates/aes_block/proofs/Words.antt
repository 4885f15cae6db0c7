-- Words read by index.
use Rattle.std.proofs.Common.{◌≡◌, ℕ, ◌+◌, ◌*◌, ◌<◌, ◌≤◌, List, length, map, get_or, sym, ap, ◌∙◌, arith}
use Rattle.std.proofs.lemmas.List.{get_or_default, get_or-map, length-map}
use Rattle.aes_block.specs.State.{Column}
use Rattle.aes_block.specs.KeyExpansion.{zeros, word_at, round_key}
use Rattle.aes_block.specs.Rounds.{mix_column, mix_columns}

-- a word that is read within the words is word i
pub word_at_read : (words : List Column) (i : ℕ) (word : Column) → i < length words → word ≡ get_or words i word → word ≡ word_at words i
word_at_read words i word h e = e ∙ get_or_default words i word zeros h

mix_column-word_at : (words unmixed : List Column) (i : ℕ) → map mix_column unmixed ≡ words → i < length words → mix_column (word_at unmixed i) ≡ word_at words i
mix_column-word_at words unmixed i undone h =
    let within : i < length unmixed = omega (arith, length-map unmixed mix_column, ap length undone) in
    sym (get_or-map mix_column unmixed i zeros zeros within) ∙ ap (λ (ws : List Column). word_at ws i) undone

-- the round keys that are undone give the round keys
pub mix_columns-round_key : (words unmixed : List Column) (n : ℕ) → map mix_column unmixed ≡ words → 4 * n + 4 ≤ length words
    → mix_columns (round_key unmixed n) ≡ round_key words n
unfolding round_key
mix_columns-round_key words unmixed n undone h i = record {
  column0 = mix_column-word_at words unmixed (4 * n) undone (omega arith) i;
  column1 = mix_column-word_at words unmixed (4 * n + 1) undone (omega arith) i;
  column2 = mix_column-word_at words unmixed (4 * n + 2) undone (omega arith) i;
  column3 = mix_column-word_at words unmixed (4 * n + 3) undone (omega arith) i;
}
