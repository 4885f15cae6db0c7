-- What the tables of the inverse cipher hold, by computing each entry from the inverse S-box.
use Rattle.std.proofs.Common.{◌≡◌, ℕ, ◌+◌, ◌<◌, map, get_or, refl}
use Rattle.aes_block.specs.Field.{every_byte, bit, xtimes, sum_of_powers, ◌•◌}
use Rattle.aes_block.specs.State.{Column}
use Rattle.aes_block.specs.Packed.{column_of}
use Rattle.aes_block.specs.declared.s_box.TheConstants.{INVERSE_S_BOX}
use Rattle.aes_block.specs.declared.inverse_tables.TheConstants.{UNMIXED}
use Rattle.aes_block.proofs.SBoxTables.{at_byte}

abbrev pub products0 : ℕ → Column
products0 s = record { row0 = 14 • s; row1 = 9 • s; row2 = 13 • s; row3 = 11 • s }

entries0 : map (λ b. column_of (get_or UNMIXED b 0)) every_byte ≡ map (λ b. products0 (get_or INVERSE_S_BOX b 0)) every_byte
unfolding every_byte bit xtimes sum_of_powers ◌•◌
entries0 = refl

pub unmixed_row0_at : (b : ℕ) → b < 256 → column_of (get_or UNMIXED b 0) ≡ products0 (get_or INVERSE_S_BOX b 0)
unmixed_row0_at = at_byte (λ b. column_of (get_or UNMIXED b 0)) (λ b. products0 (get_or INVERSE_S_BOX b 0)) entries0

abbrev pub products1 : ℕ → Column
products1 s = record { row0 = 11 • s; row1 = 14 • s; row2 = 9 • s; row3 = 13 • s }

entries1 : map (λ b. column_of (get_or UNMIXED (256 + b) 0)) every_byte ≡ map (λ b. products1 (get_or INVERSE_S_BOX b 0)) every_byte
unfolding every_byte bit xtimes sum_of_powers ◌•◌
entries1 = refl

pub unmixed_row1_at : (b : ℕ) → b < 256 → column_of (get_or UNMIXED (256 + b) 0) ≡ products1 (get_or INVERSE_S_BOX b 0)
unmixed_row1_at = at_byte (λ b. column_of (get_or UNMIXED (256 + b) 0)) (λ b. products1 (get_or INVERSE_S_BOX b 0)) entries1

abbrev pub products2 : ℕ → Column
products2 s = record { row0 = 13 • s; row1 = 11 • s; row2 = 14 • s; row3 = 9 • s }

entries2 : map (λ b. column_of (get_or UNMIXED (512 + b) 0)) every_byte ≡ map (λ b. products2 (get_or INVERSE_S_BOX b 0)) every_byte
unfolding every_byte bit xtimes sum_of_powers ◌•◌
entries2 = refl

pub unmixed_row2_at : (b : ℕ) → b < 256 → column_of (get_or UNMIXED (512 + b) 0) ≡ products2 (get_or INVERSE_S_BOX b 0)
unmixed_row2_at = at_byte (λ b. column_of (get_or UNMIXED (512 + b) 0)) (λ b. products2 (get_or INVERSE_S_BOX b 0)) entries2

abbrev pub products3 : ℕ → Column
products3 s = record { row0 = 9 • s; row1 = 13 • s; row2 = 11 • s; row3 = 14 • s }

entries3 : map (λ b. column_of (get_or UNMIXED (768 + b) 0)) every_byte ≡ map (λ b. products3 (get_or INVERSE_S_BOX b 0)) every_byte
unfolding every_byte bit xtimes sum_of_powers ◌•◌
entries3 = refl

pub unmixed_row3_at : (b : ℕ) → b < 256 → column_of (get_or UNMIXED (768 + b) 0) ≡ products3 (get_or INVERSE_S_BOX b 0)
unmixed_row3_at = at_byte (λ b. column_of (get_or UNMIXED (768 + b) 0)) (λ b. products3 (get_or INVERSE_S_BOX b 0)) entries3
