use Rattle.std.proofs.Common.{All, ◌<◌, subst}
use Rattle.aes_block.proofs.key256.Key256.is_bytes.Goals as goal

pub returns : goal.returns
returns c = subst (All (λ b. b < 256)) c.self.view_is c.self.invariant.bytes
