use Rattle.std.proofs.Common.{◌++◌, ◌∙◌}
use Rattle.hmac_core.specs.Hasher.{kind_of}
use Rattle.hmac_core.specs.Hmac.{inner_pad, outer_pad}
use Rattle.hmac_core.proofs.Keyed.{hmac_is}
use Rattle.hmac_core.proofs.hmac.Hmac.finish.Goals as goal

pub returns : goal.returns
returns c =
    λ kind key message absorbed.
    hmac_is (kind_of c.args.self.inner) (kind_of c.update.new.self) kind key message c.bytes.result.now c.finish-2.result
    absorbed.inner_kind (c.update.ensures.kind ∙ absorbed.outer_kind)
    (c.bytes.ensures ∙ c.finish.ensures (inner_pad kind key ++ message) absorbed.inside)
    (c.finish-2.ensures (outer_pad kind key ++ c.bytes.result.now) (c.update.ensures.message (outer_pad kind key) absorbed.outside))
