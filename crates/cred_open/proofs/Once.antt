-- A text is refused in one way, or opened to one credential, and not both.
use Rattle.std.proofs.Common.{◌≡◌, ℕ, List, refl, sym, ap, ◌∙◌}
use Rattle.std.specs.declared.option.Option.{Option}
use Rattle.std.specs.declared.option.Option.TheVariants.{None, Some}
use Rattle.munge_types.specs.declared.algorithms.Cipher.{Cipher}
use Rattle.munge_types.specs.declared.algorithms.MacKind.{MacKind}
use Rattle.munge_types.specs.declared.status.Status.{Status}
use Rattle.cred_armor.specs.CredentialText.{Spells}
use Rattle.cred_inner.specs.InnerPart.{Content, IsContent, inner_part}
use Rattle.cred_outer.specs.OuterRules.{first_broken, outer_rules}
use Rattle.cred_open.specs.Body.{IsBody}
use Rattle.cred_open.specs.Credential.{Credential}
use Rattle.cred_open.specs.OpeningRules.{Opens, Refuses}
use Rattle.cred_open.proofs.Bodies.{SameBody}

-- a text spells one body at most, as cred_armor's law has it
abbrev pub SpellsOnce : Type 0
SpellsOnce = (text first second : List ℕ) → Spells text first → Spells text second → first ≡ second

-- two inner parts of one body are one
abbrev pub InnerOnce : Type 0
InnerOnce = (key vector vector' inner inner' body : List ℕ) (cipher cipher' : Cipher) (kind kind' : MacKind)
    → IsBody key cipher kind vector inner body → IsBody key cipher' kind' vector' inner' body → inner ≡ inner'

pub record SameRefusal (r q : ℕ) (s t : Status) : Type 0 where
  pub rule : r ≡ q
  pub status : s ≡ t

not_both : (broken : Option (ℕ × Status)) (r : ℕ) (s : Status) → broken ≡ None → broken ≡ Some (r, s) → ⊥
not_both broken r s none some =
    let both : ◌≡◌ {A = Option (ℕ × Status)} None (Some (r, s)) = sym none ∙ some in
    cc both

one_broken : (a b : Option (ℕ × Status)) (r q : ℕ) (s t : Status) → a ≡ b → a ≡ Some (r, s) → b ≡ Some (q, t) → SameRefusal r q s t
one_broken a b r q s t same first second =
    let both : ◌≡◌ {A = Option (ℕ × Status)} (Some (r, s)) (Some (q, t)) = sym first ∙ (same ∙ second) in
    let pairs : ◌≡◌ {A = ℕ × Status} (r, s) (q, t) = cc both in
    record { rule = ap (λ (p : ℕ × Status). p.0) pairs; status = ap (λ (p : ℕ × Status). p.1) pairs }

same_rules : SpellsOnce → (text a b : List ℕ) → Spells text a → Spells text b → first_broken (outer_rules a) ≡ first_broken (outer_rules b)
same_rules once text a b first second = ap (λ (body : List ℕ). first_broken (outer_rules body)) (once text a b first second)

pub refused_once : SpellsOnce → (key text : List ℕ) {r q : ℕ} {s t : Status} → Refuses key text r s → Refuses key text q t → SameRefusal r q s t
refused_once once key text (Refuses.unspelled none) (Refuses.unspelled none') = record { rule = refl; status = refl }
refused_once once key text (Refuses.unspelled none) (Refuses.outside body spells broken) = absurd (none body spells)
refused_once once key text (Refuses.unspelled none) (Refuses.unsealed body spells unbroken other) = absurd (none body spells)
refused_once once key text (Refuses.unspelled none) (Refuses.empty body spells unbroken cipher kind vector inner is other) = absurd (none body spells)
refused_once once key text (Refuses.outside body spells broken) (Refuses.unspelled none) = absurd (none body spells)
refused_once once key text (Refuses.outside body spells broken) (Refuses.outside body' spells' broken') =
    one_broken _ _ _ _ _ _ (same_rules once text body body' spells spells') broken broken'
refused_once once key text (Refuses.outside body spells broken) (Refuses.unsealed body' spells' unbroken other) =
    absurd (not_both _ _ _ unbroken (same_rules once text body' body spells' spells ∙ broken))
refused_once once key text (Refuses.outside body spells broken) (Refuses.empty body' spells' unbroken cipher kind vector inner is other) =
    absurd (not_both _ _ _ unbroken (same_rules once text body' body spells' spells ∙ broken))
refused_once once key text (Refuses.unsealed body spells unbroken other) (Refuses.unspelled none) = absurd (none body spells)
refused_once once key text (Refuses.unsealed body spells unbroken other) (Refuses.outside body' spells' broken) =
    absurd (not_both _ _ _ unbroken (same_rules once text body body' spells spells' ∙ broken))
refused_once once key text (Refuses.unsealed body spells unbroken other) (Refuses.unsealed body' spells' unbroken' other') = record { rule = refl; status = refl }
refused_once once key text (Refuses.unsealed body spells unbroken other) (Refuses.empty body' spells' unbroken' cipher kind vector inner is other') =
    absurd (other cipher kind vector inner (rw (once text body' body spells' spells) at is))
refused_once once key text (Refuses.empty body spells unbroken cipher kind vector inner is other) (Refuses.unspelled none) = absurd (none body spells)
refused_once once key text (Refuses.empty body spells unbroken cipher kind vector inner is other) (Refuses.outside body' spells' broken) =
    absurd (not_both _ _ _ unbroken (same_rules once text body body' spells spells' ∙ broken))
refused_once once key text (Refuses.empty body spells unbroken cipher kind vector inner is other) (Refuses.unsealed body' spells' unbroken' other') =
    absurd (other' cipher kind vector inner (rw (once text body body' spells spells') at is))
refused_once once key text (Refuses.empty body spells unbroken cipher kind vector inner is other) (Refuses.empty body' spells' unbroken' cipher' kind' vector' inner' is' other') =
    record { rule = refl; status = refl }

-- the body that a credential was opened from
opened_body : SpellsOnce → (key text body : List ℕ) (credential : Credential) (opens : Opens key text credential) → Spells text body
    → IsBody key credential.cipher credential.kind opens.vector (inner_part credential.content) body
opened_body once key text body credential opens spells = rw (once text opens.body body opens.spelled spells) at opens.sealed

pub refused_not_opened : SpellsOnce → InnerOnce → (key text : List ℕ) {rule : ℕ} {status : Status} (credential : Credential)
    → Refuses key text rule status → Opens key text credential → ⊥
refused_not_opened once inner_once key text credential (Refuses.unspelled none) opens = none opens.body opens.spelled
refused_not_opened once inner_once key text credential (Refuses.outside body spells broken) opens =
    not_both _ _ _ opens.unbroken (same_rules once text opens.body body opens.spelled spells ∙ broken)
refused_not_opened once inner_once key text credential (Refuses.unsealed body spells unbroken other) opens =
    other credential.cipher credential.kind opens.vector (inner_part credential.content) (opened_body once key text body credential opens spells)
refused_not_opened once inner_once key text credential (Refuses.empty body spells unbroken cipher kind vector inner is other) opens =
    other credential.content opens.fits
    (inner_once key vector opens.vector inner (inner_part credential.content) body cipher credential.cipher kind credential.kind
    is (opened_body once key text body credential opens spells))

made : (cipher : Cipher) (kind : MacKind) (mac : List ℕ) (content : Content) → Credential
made cipher kind mac content = record { cipher = cipher; kind = kind; mac = mac; content = content }

made_of : (c : Credential) → c ≡ made c.cipher c.kind c.mac c.content
unfolding made
made_of c = refl

-- what the laws say of two ways to open a text
pub record OnceLaws : Type 0 where
  pub spells_once : SpellsOnce
  pub content_once : (a b : Content) → IsContent a → IsContent b → inner_part a ≡ inner_part b → a ≡ b
  pub same_body : (key v w i j body : List ℕ) (c d : Cipher) (k l : MacKind)
      → IsBody key c k v i body → IsBody key d l w j body → SameBody c d k l v w i j

pub opened_once : OnceLaws → (key text : List ℕ) (a b : Credential) → Opens key text a → Opens key text b → a ≡ b
opened_once laws key text a b first second =
    let same = laws.same_body key first.vector second.vector (inner_part a.content) (inner_part b.content) second.body a.cipher b.cipher a.kind b.kind
    (opened_body laws.spells_once key text second.body a first second.spelled) second.sealed in
    let content : a.content ≡ b.content = laws.content_once a.content b.content first.fits second.fits same.inner in
    let cipher = same.cipher in
    let kind = same.kind in
    let vector = same.vector in
    let mac : a.mac ≡ b.mac = first.mac_is ∙ (rw (cipher, kind, vector, same.inner) refl ∙ sym second.mac_is) in
    let one = made_of a in
    let two = made_of b in
    cc
