use Rattle.std.proofs.Common.{◌≡◌, slice_index, ℕ, ◌<◌, ap, ◌∙◌}
use Rattle.aes_block.specs.SubBytes.{sub_byte}
use Rattle.aes_block.specs.declared.s_box.TheConstants.{INVERSE_S_BOX}
use Rattle.aes_block.proofs.SBoxTables.{inverse_s_box-sub_byte}
use Rattle.aes_block.proofs.inverse_tables.unmixed_word.Goals as goal

undone : (row byte substitute : ℕ) → byte ≡ row → byte < 256 → substitute ≡ sub_byte byte → slice_index INVERSE_S_BOX substitute ≡ row
undone row byte substitute same below e = ap (slice_index INVERSE_S_BOX) e ∙ inverse_s_box-sub_byte byte below ∙ same

pub returns : goal.returns
returns c =
    c.unmixed_column.ensures
    ∙ (λ i. record {
      row0 = undone _ _ _ c.row0.ensures c.row0.type_inv c.sub_byte.ensures i;
      row1 = undone _ _ _ c.row1.ensures c.row1.type_inv c.sub_byte-2.ensures i;
      row2 = undone _ _ _ c.row2.ensures c.row2.type_inv c.sub_byte-3.ensures i;
      row3 = undone _ _ _ c.row3.ensures c.row3.type_inv c.sub_byte-4.ensures i;
    })
