-- What the tables of SUBBYTES and MIXCOLUMNS hold, by computing each entry from the S-box.
use Rattle.std.proofs.Common.{◌≡◌, ℕ, ◌+◌, ◌<◌, map, get_or, refl, ap, ◌∙◌}
use Rattle.aes_block.specs.Field.{every_byte, bit, xtimes, sum_of_powers, ◌•◌}
use Rattle.aes_block.specs.State.{Column}
use Rattle.aes_block.specs.Packed.{column_of}
use Rattle.aes_block.specs.SubBytes.{sub_byte}
use Rattle.aes_block.specs.declared.s_box.TheConstants.{S_BOX}
use Rattle.aes_block.specs.declared.tables.TheConstants.{MIXED}
use Rattle.aes_block.proofs.SBoxTables.{at_byte, s_box_at}

abbrev pub products0 : ℕ → Column
products0 s = record { row0 = 2 • s; row1 = 1 • s; row2 = 1 • s; row3 = 3 • s }

entries0 : map (λ b. column_of (get_or MIXED b 0)) every_byte ≡ map (λ b. products0 (get_or S_BOX b 0)) every_byte
unfolding every_byte bit xtimes sum_of_powers ◌•◌
entries0 = refl

pub mixed_row0_at : (b : ℕ) → b < 256 → column_of (get_or MIXED b 0) ≡ products0 (sub_byte b)
mixed_row0_at b h =
    at_byte (λ b. column_of (get_or MIXED b 0)) (λ b. products0 (get_or S_BOX b 0)) entries0 b h
    ∙ ap products0 (s_box_at b h)

abbrev pub products1 : ℕ → Column
products1 s = record { row0 = 3 • s; row1 = 2 • s; row2 = 1 • s; row3 = 1 • s }

entries1 : map (λ b. column_of (get_or MIXED (256 + b) 0)) every_byte ≡ map (λ b. products1 (get_or S_BOX b 0)) every_byte
unfolding every_byte bit xtimes sum_of_powers ◌•◌
entries1 = refl

pub mixed_row1_at : (b : ℕ) → b < 256 → column_of (get_or MIXED (256 + b) 0) ≡ products1 (sub_byte b)
mixed_row1_at b h =
    at_byte (λ b. column_of (get_or MIXED (256 + b) 0)) (λ b. products1 (get_or S_BOX b 0)) entries1 b h
    ∙ ap products1 (s_box_at b h)

abbrev pub products2 : ℕ → Column
products2 s = record { row0 = 1 • s; row1 = 3 • s; row2 = 2 • s; row3 = 1 • s }

entries2 : map (λ b. column_of (get_or MIXED (512 + b) 0)) every_byte ≡ map (λ b. products2 (get_or S_BOX b 0)) every_byte
unfolding every_byte bit xtimes sum_of_powers ◌•◌
entries2 = refl

pub mixed_row2_at : (b : ℕ) → b < 256 → column_of (get_or MIXED (512 + b) 0) ≡ products2 (sub_byte b)
mixed_row2_at b h =
    at_byte (λ b. column_of (get_or MIXED (512 + b) 0)) (λ b. products2 (get_or S_BOX b 0)) entries2 b h
    ∙ ap products2 (s_box_at b h)

abbrev pub products3 : ℕ → Column
products3 s = record { row0 = 1 • s; row1 = 1 • s; row2 = 3 • s; row3 = 2 • s }

entries3 : map (λ b. column_of (get_or MIXED (768 + b) 0)) every_byte ≡ map (λ b. products3 (get_or S_BOX b 0)) every_byte
unfolding every_byte bit xtimes sum_of_powers ◌•◌
entries3 = refl

pub mixed_row3_at : (b : ℕ) → b < 256 → column_of (get_or MIXED (768 + b) 0) ≡ products3 (sub_byte b)
mixed_row3_at b h =
    at_byte (λ b. column_of (get_or MIXED (768 + b) 0)) (λ b. products3 (get_or S_BOX b 0)) entries3 b h
    ∙ ap products3 (s_box_at b h)
