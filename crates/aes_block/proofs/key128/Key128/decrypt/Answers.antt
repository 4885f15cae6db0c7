use Rattle.std.proofs.Common.{◌≡◌, refl, arith}
use Rattle.aes_block.specs.Cipher.{cipher}
use Rattle.aes_block.proofs.Keys.{decrypted, only_decryption}
use Rattle.aes_block.proofs.key128.Key128.decrypt.Goals as goal

pub returns : goal.returns
returns c =
    let undone : cipher c.args.self.now c.to_block.result ≡ c.args.block.now =
    decrypted c.args.self.now 4 10 c.self.inside.words c.self.inside.unmixed c.self.invariant c.self.view_is refl
    c.args.block.now c.decrypt-state.result c.from_block-state.result c.to_block.result (omega arith)
    c.from_block-state.ensures c.decrypt-state.ensures c.to_block.ensures.value in
    record {
      undone = undone;
      only = λ other other_is same.
          only_decryption c.args.self.now 4 10 c.self.inside.words c.self.inside.unmixed c.self.invariant c.self.view_is refl
          c.args.block.now c.to_block.result other c.to_block.ensures.block undone other_is same;
    }
