use Rattle.std.proofs.Common.{refl, ap, ◌∙◌}
use Rattle.aes_block.specs.State.{block_of}
use Rattle.aes_block.specs.Cipher.{encrypted}
use Rattle.aes_block.proofs.Keys.{cipher_is}
use Rattle.aes_block.proofs.key128.Key128.encrypt.Goals as goal

pub returns : goal.returns
returns c =
    c.to_block.ensures.value
    ∙ ap block_of (c.encrypt-state.ensures ∙ ap (encrypted c.self.inside.words 10) c.from_block.ensures)
    ∙ cipher_is c.args.self.now 4 10 c.self.inside.words c.self.inside.unmixed c.self.invariant c.self.view_is refl c.args.block.now
