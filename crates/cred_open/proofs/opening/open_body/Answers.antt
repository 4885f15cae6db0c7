use Rattle.std.proofs.Common.{◌≡◌, ◌-◌, length, take, drop, sym, ap, subst, ◌∙◌, arith}
use Rattle.cred_inner.specs.Inner.{content_of}
use Rattle.cred_inner.specs.InnerPart.{IsContent, inner_part}
use Rattle.cred_open.specs.Unsealed.{IsUnsealed}
use Rattle.cred_open.proofs.OpensOrRefuses.{inner_kept, payload_last, opens_kept}
use Rattle.cred_open.proofs.opening.open_body.Goals as goal

pub returns-in-Err-clause-refused : goal.returns-in-Err-clause-refused
returns-in-Err-clause-refused c =
    λ key text of spells.
    let unsealed = c.in_ok-unsealed.unsealed in
    let is : IsUnsealed key c.args.body.items unsealed.cipher unsealed.kind unsealed.mac (take unsealed.size (drop unsealed.at c.unseal.new.body)) =
    rw c.deref_mut.ensures.value at (c.in_ok-unsealed.ensures.unsealed key of) in
    let len_is : c.args.body.len ≡ length c.args.body.items = omega (arith, c.args.body.ok.0) in
    let same_size : length c.unseal.new.body ≡ length c.args.body.items = omega (arith, ap length c.deref_mut.ensures.value, c.unseal.auto.body) in
    let kept = inner_kept unsealed.at unsealed.size c.args.body.len c.args.body.items c.unseal.new.body c.truncate.new.self.items c.deref.result.now
    len_is same_size c.in_ok-unsealed.ensures.within c.truncate.ensures.items c.deref.ensures.value in
    let here = subst (IsUnsealed key c.args.body.items unsealed.cipher unsealed.kind unsealed.mac) (sym kept) is in
    c.in-Err.ensures.refused key text c.args.body.items spells here

pub returns-clause-opened : goal.returns-clause-opened
returns-clause-opened c =
    λ key text of spells.
    let unsealed = c.in_ok-unsealed.unsealed in
    let is : IsUnsealed key c.args.body.items unsealed.cipher unsealed.kind unsealed.mac (take unsealed.size (drop unsealed.at c.unseal.new.body)) =
    rw c.deref_mut.ensures.value at (c.in_ok-unsealed.ensures.unsealed key of) in
    let len_is : c.args.body.len ≡ length c.args.body.items = omega (arith, c.args.body.ok.0) in
    let same_size : length c.unseal.new.body ≡ length c.args.body.items = omega (arith, ap length c.deref_mut.ensures.value, c.unseal.auto.body) in
    let kept = inner_kept unsealed.at unsealed.size c.args.body.len c.args.body.items c.unseal.new.body c.truncate.new.self.items c.deref.result.now
    len_is same_size c.in_ok-unsealed.ensures.within c.truncate.ensures.items c.deref.ensures.value in
    let here = subst (IsUnsealed key c.args.body.items unsealed.cipher unsealed.kind unsealed.mac) (sym kept) is in
    let opens = c.in-Ok.ensures.opened key text c.args.body.items spells here in
    let inner = c.inner-inner.result in
    let fits : IsContent (content_of inner) = subst IsContent (sym c.inner-inner.ensures.content) opens.fits in
    let laid_out = c.in-Ok.ensures.laid_out ∙ ap inner_part (sym c.inner-inner.ensures.content) in
    let last = payload_last c.deref.result.now unsealed.at (content_of inner) laid_out in
    let kept_len : c.len.result ≡ length c.truncate.new.self.items = omega (arith, c.len.ensures, c.truncate.new.self.ok.0) in
    let payload : drop (c.len.result - length inner.payload.now) c.truncate.new.self.items ≡ inner.payload.now =
    ap (λ n. drop (n - length inner.payload.now) c.truncate.new.self.items) kept_len ∙ (rw (c.deref.ensures.value) at last) in
    opens_kept key text c.args.body.items unsealed.mac _ _ (content_of inner) unsealed.cipher unsealed.kind spells is
    fits (sym kept ∙ laid_out) payload
