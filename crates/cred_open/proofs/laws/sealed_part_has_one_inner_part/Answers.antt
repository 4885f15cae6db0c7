use Rattle.cred_open.proofs.Bodies.{inner_once}
use Rattle.cred_open.proofs.laws.sealed_part_has_one_inner_part.Goals as goal

pub returns : goal.returns
returns c =
    inner_once record {
      key_bytes = c.data_key_is_bytes.ensures.bytes;
      padded_blocks = c.padding_is_one_to_one.ensures.blocks;
      padded_once = c.padding_is_one_to_one.ensures.one;
      chained_once = c.chaining_is_one_to_one.ensures.one;
    }
