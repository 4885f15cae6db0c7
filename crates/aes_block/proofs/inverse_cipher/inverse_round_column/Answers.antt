use Rattle.std.proofs.Common.{◌≡◌, slice_index, ℕ, ◌<◌, ap, ◌∙◌}
use Rattle.aes_block.specs.SubBytes.{sub_byte, sub_word}
use Rattle.aes_block.specs.declared.s_box.TheConstants.{INVERSE_S_BOX}
use Rattle.aes_block.proofs.SBoxTables.{sub_byte-inverse_s_box}
use Rattle.aes_block.proofs.inverse_cipher.inverse_round_column.Goals as goal

redone : (row byte : ℕ) → byte ≡ row → byte < 256 → sub_byte (slice_index INVERSE_S_BOX byte) ≡ row
redone row byte same below = sub_byte-inverse_s_box byte below ∙ same

pub returns : goal.returns
returns c =
    ap sub_word c.unmixed_column.ensures
    ∙ (λ i. record {
      row0 = redone _ _ c.row0.ensures c.row0.type_inv i;
      row1 = redone _ _ c.row1.ensures c.row1.type_inv i;
      row2 = redone _ _ c.row2.ensures c.row2.type_inv i;
      row3 = redone _ _ c.row3.ensures c.row3.type_inv i;
    })
