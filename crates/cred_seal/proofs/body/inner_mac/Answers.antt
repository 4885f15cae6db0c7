use Rattle.std.proofs.Common.{◌≡◌, List, ℕ, ◌++◌, take, refl, ap, ◌∙◌}
use Rattle.std.proofs.lemmas.List.{append_assoc}
use Rattle.hmac_core.specs.Hmac.{hmac}
use Rattle.cred_inner.specs.Inner.{content_of}
use Rattle.cred_inner.specs.InnerPart.{inner_part}
use Rattle.cred_seal.proofs.body.inner_mac.Goals as goal

pub returns-clause-mac : goal.returns-clause-mac
returns-clause-mac c =
    let absorbed = c.update-4.ensures _ _ _ (c.update-3.ensures _ _ _ (c.update-2.ensures _ _ _ (c.update.ensures _ _ _ c.mac_state-hmac.ensures))) in
    let outer : List ℕ = c.outer_head.result ++ take c.vector_size.result c.args.iv.now in
    let inner : outer ++ (c.inner_head.result ++ c.args.inner.now.payload.now) ≡ outer ++ inner_part (content_of c.args.inner.now) =
    ap (λ (bytes : List ℕ). outer ++ bytes) c.inner_head.ensures.whole in
    c.finish.ensures _ _ _ absorbed
    ∙ ap (λ (message : List ℕ). hmac c.args.kind c.args.subkeys.now.mac message)
    (append_assoc outer c.inner_head.result c.args.inner.now.payload.now ∙ (inner ∙ rw (c.outer_head.ensures, c.vector_size.ensures) refl))

pub returns-clause-size : goal.returns-clause-size
returns-clause-size c =
    let absorbed = c.update-4.ensures _ _ _ (c.update-3.ensures _ _ _ (c.update-2.ensures _ _ _ (c.update.ensures _ _ _ c.mac_state-hmac.ensures))) in
    rw (c.finish.ensures _ _ _ absorbed) (c.mac_has_its_size.ensures _ _ _)
