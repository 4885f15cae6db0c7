use Rattle.cbc_mode.proofs.Chains.{length-cbc, IsBlocks-cbc, cbc_one_to_one}
use Rattle.cbc_mode.proofs.laws.chaining_is_one_to_one.Goals as goal

pub returns : goal.returns
returns c =
    let law = c.encryption_is_one_to_one.ensures in
    record {
      size = λ key iv plain whole. length-cbc key (law.size key) iv plain whole;
      blocks = λ key iv plain bytes. IsBlocks-cbc key (law.size key) (λ block. law.block key block bytes) (λ first second. law.one key first second bytes) iv plain;
      one = λ key iv first second bytes. cbc_one_to_one key (law.size key) (λ block. law.block key block bytes) (λ a b. law.one key a b bytes) iv first second;
    }
