use Rattle.aes_block.proofs.OneToOne.{length-cipher, IsBlock-cipher, cipher_one_to_one}
use Rattle.aes_block.proofs.laws.encryption_is_one_to_one.Goals as goal

pub returns : goal.returns
returns c = record { size = length-cipher; block = IsBlock-cipher; one = cipher_one_to_one }
