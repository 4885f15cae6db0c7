use Rattle.std.proofs.Common.{◌≡◌, ap, ◌∙◌}
use Rattle.aes_block.specs.State.{Column, add_columns}
use Rattle.aes_block.specs.SubBytes.{sub_word}
use Rattle.aes_block.specs.Rounds.{shift_rows}
use Rattle.aes_block.proofs.MatrixLaws.{add_columns-cancel}
use Rattle.aes_block.proofs.inverse_cipher.inverse_first_round.Goals as goal

substituted : (sum before key shifted : Column) → sum ≡ add_columns before key → sub_word before ≡ shifted → sub_word (add_columns sum key) ≡ shifted
substituted sum before key shifted e undone =
    ap (λ (x : Column). sub_word x) (ap (λ (x : Column). add_columns x key) e ∙ add_columns-cancel before key) ∙ undone

pub returns : goal.returns
returns c =
    rw (← c.state.view_is, ← c.key.view_is) (λ i. shift_rows (record {
      column0 = substituted _ _ _ _ c.bitxor.ensures c.inverse_first_column.ensures i;
      column1 = substituted _ _ _ _ c.bitxor-2.ensures c.inverse_first_column-2.ensures i;
      column2 = substituted _ _ _ _ c.bitxor-3.ensures c.inverse_first_column-3.ensures i;
      column3 = substituted _ _ _ _ c.bitxor-4.ensures c.inverse_first_column-4.ensures i;
    }))
