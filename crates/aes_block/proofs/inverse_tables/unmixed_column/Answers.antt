use Rattle.std.proofs.Common.{◌≡◌, slice_index, arith, ap, ◌∙◌}
use Rattle.aes_block.specs.Rounds.{mix_column}
use Rattle.aes_block.specs.State.{Column}
use Rattle.aes_block.specs.declared.s_box.TheConstants.{INVERSE_S_BOX}
use Rattle.aes_block.proofs.MatrixLaws.{unmix_column, mix_column-unmix_column}
use Rattle.aes_block.proofs.SBoxTables.{inverse_s_box_below}
use Rattle.aes_block.proofs.inverse_tables.unmixed_column.Goals as goal

pub returns : goal.returns
returns c =
    let bytes : Column = record {
      row0 = slice_index INVERSE_S_BOX c.args.row0;
      row1 = slice_index INVERSE_S_BOX c.args.row1;
      row2 = slice_index INVERSE_S_BOX c.args.row2;
      row3 = slice_index INVERSE_S_BOX c.args.row3;
    } in
    let sum : c.bitxor-3.result ≡ unmix_column bytes =
    rw (c.bitxor-3.ensures, c.bitxor-2.ensures, c.bitxor.ensures, c.unmixed_row0.ensures, c.unmixed_row1.ensures, c.unmixed_row2.ensures, c.unmixed_row3.ensures) in
    ap mix_column sum
    ∙ mix_column-unmix_column bytes (record {
      row0 = inverse_s_box_below c.args.row0 (omega arith);
      row1 = inverse_s_box_below c.args.row1 (omega arith);
      row2 = inverse_s_box_below c.args.row2 (omega arith);
      row3 = inverse_s_box_below c.args.row3 (omega arith);
    })
