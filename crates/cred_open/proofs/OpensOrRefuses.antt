-- From a body that was decrypted to the rule that it breaks or the credential that it is.
use Rattle.std.proofs.Common.{◌≡◌, ℕ, zero, suc, ◌+◌, ◌-◌, ◌≤◌, List, [], ◌∷◌, ◌++◌, length, take, drop, refl, sym, ap, ◌∙◌, arith}
use Rattle.std.proofs.Math.Seq.{take-append_seam, drop-append_seam}
use Rattle.std.proofs.lemmas.List.{append_assoc, append-nil, length-append, take-append-drop, take_all, take_rest, drop-take, drop_all}
use Rattle.std.proofs.lemmas.List.Prefix.{end_rest}
use Rattle.munge_types.specs.declared.algorithms.Cipher.{Cipher}
use Rattle.munge_types.specs.declared.algorithms.MacKind.{MacKind}
use Rattle.std.specs.declared.option.Option.TheVariants.{None}
use Rattle.munge_types.specs.declared.status.Status.TheVariants.{Invalid}
use Rattle.hmac_core.specs.Hmac.{hmac}
use Rattle.subkeys.specs.Subkeys.{mac_subkey}
use Rattle.cred_armor.specs.CredentialText.{Spells}
use Rattle.munge_types.specs.Bytes.{IsBytes}
use Rattle.cred_inner.specs.InnerPart.{Content, IsContent, inner_part, numbers}
use Rattle.cred_outer.specs.BodyParts.{AreParts}
use Rattle.cred_outer.specs.OuterPart.{outer_part}
use Rattle.cred_outer.specs.OuterRules.{first_broken, outer_rules}
use Rattle.cred_open.specs.Body.{Seals, mac_of}
use Rattle.cred_open.specs.OpeningRules.{Opens, Refuses}
use Rattle.cred_open.specs.Unsealed.{IsUnsealed}
use Rattle.cred_open.proofs.Bodies.{BodyLaws, cut_as}

-- the pieces of a body that was cut by the sizes of its parts
pub record ArePieces (cipher : Cipher) (kind : MacKind) (vector mac rest front vector' mac' rest' : List ℕ) : Type 0 where
  pub front_is : front ≡ outer_part cipher kind vector
  pub vector_is : vector' ≡ vector
  pub mac_is : mac' ≡ mac
  pub rest_is : rest' ≡ rest

pub pieces : (cipher : Cipher) (kind : MacKind) (vector mac rest body whole outside front vector' mac' rest' : List ℕ)
    → AreParts cipher kind vector mac rest body → whole ≡ outer_part cipher kind vector
    → outside ≡ take (length whole + length mac) body → rest' ≡ drop (length whole + length mac) body
    → front ≡ take (length whole) outside → mac' ≡ drop (length whole) outside
    → vector' ≡ drop (length whole - length vector) front
    → ArePieces cipher kind vector mac rest front vector' mac' rest'
pieces cipher kind vector mac rest body whole outside front vector' mac' rest' parts whole_is outside_is rest'_is front_is mac'_is vector'_is =
    let body_is : body ≡ (whole ++ mac) ++ rest = parts.whole ∙ (ap (λ (l : List ℕ). l ++ (mac ++ rest)) (sym whole_is) ∙ sym (append_assoc whole mac rest)) in
    let size : length (whole ++ mac) ≡ length whole + length mac = length-append whole mac in
    let outside_whole : outside ≡ whole ++ mac = outside_is ∙ (rw (body_is, ← size) (take-append_seam (whole ++ mac) rest)) in
    let front_whole : front ≡ whole = front_is ∙ (rw outside_whole (take-append_seam whole mac)) in
    let head_size : length whole - length vector ≡ 5 = rw whole_is (simp length-append (omega arith)) in
    record {
      front_is = front_whole ∙ whole_is;
      vector_is = vector'_is ∙ (rw (head_size, front_whole, whole_is) refl);
      mac_is = mac'_is ∙ (rw outside_whole (drop-append_seam whole mac));
      rest_is = rest'_is ∙ (rw (body_is, ← size) (drop-append_seam (whole ++ mac) rest));
    }

-- a part that is the sealed part of no inner part
pub refuses_unpadded : BodyLaws → (key text body vector mac rest : List ℕ) (cipher : Cipher) (kind : MacKind) → Spells text body
    → first_broken (outer_rules body) ≡ None → AreParts cipher kind vector mac rest body
    → ((inner : List ℕ) → IsBytes inner → Seals key cipher kind vector mac inner rest → ⊥) → Refuses key text 8 Invalid
refuses_unpadded laws key text body vector mac rest cipher kind spells unbroken parts none =
    Refuses.unsealed body spells unbroken
    (λ c k v inner is.
    let cut = cut_as laws key cipher c kind k vector mac rest v inner body parts is in
    none inner cut.inner_bytes cut.seals)

-- what decryption gives of a body that was cut into its parts, and the MAC that it should have
pub record IsDecrypted (key body vector mac rest plain made : List ℕ) (cipher : Cipher) (kind : MacKind) : Type 0 where
  pub unbroken : first_broken (outer_rules body) ≡ None
  pub parts : AreParts cipher kind vector mac rest body
  pub vector_bytes : IsBytes vector
  pub plain_bytes : IsBytes plain
  pub seals : Seals key cipher kind vector mac plain rest
  pub made_is : made ≡ mac_of key cipher kind vector plain

-- from what the calls say of the pieces
pub decrypted_as : (key body vector mac rest front vector' mac' rest' subkey plain plain' made : List ℕ) (cipher : Cipher) (kind : MacKind)
    → first_broken (outer_rules body) ≡ None → AreParts cipher kind vector mac rest body
    → ArePieces cipher kind vector mac rest front vector' mac' rest' → IsBytes vector' → IsBytes plain
    → Seals key cipher kind vector' mac' plain rest' → made ≡ hmac kind subkey (front ++ plain') → plain' ≡ plain → subkey ≡ mac_subkey key
    → IsDecrypted key body vector mac rest plain made cipher kind
decrypted_as key body vector mac rest front vector' mac' rest' subkey plain plain' made cipher kind unbroken parts cut vector_bytes plain_bytes seals made_is plain_is subkey_is =
    record {
      unbroken = unbroken;
      parts = parts;
      vector_bytes = rw cut.vector_is at vector_bytes;
      plain_bytes = plain_bytes;
      seals = rw (cut.vector_is, cut.mac_is, cut.rest_is) at seals;
      made_is = rw (plain_is, subkey_is, cut.front_is) at made_is;
    }

-- another MAC
pub refuses_forged : BodyLaws → (key text body vector mac rest plain made : List ℕ) (cipher : Cipher) (kind : MacKind) → Spells text body
    → IsDecrypted key body vector mac rest plain made cipher kind → (made ≡ mac → ⊥) → Refuses key text 8 Invalid
refuses_forged laws key text body vector mac rest plain made cipher kind spells is_decrypted other =
    Refuses.unsealed body spells is_decrypted.unbroken
    (λ c k v inner is.
    let cut = cut_as laws key cipher c kind k vector mac rest v inner body is_decrypted.parts is in
    let same : inner ≡ plain = laws.inner_once key vector mac inner plain rest cipher kind is_decrypted.parts.vector_fits
    is_decrypted.vector_bytes cut.inner_bytes is_decrypted.plain_bytes cut.seals is_decrypted.seals in
    other (is_decrypted.made_is ∙ (ap (λ (l : List ℕ). mac_of key cipher kind vector l) (sym same) ∙ cut.mac_is)))

-- the MAC that it should have
pub unseals : (key body vector mac rest plain made : List ℕ) (cipher : Cipher) (kind : MacKind)
    → IsDecrypted key body vector mac rest plain made cipher kind → made ≡ mac → IsUnsealed key body cipher kind made plain
unseals key body vector mac rest plain made cipher kind is_decrypted same =
    let mac_is : mac ≡ mac_of key cipher kind vector plain = sym same ∙ is_decrypted.made_is in
    record {
      vector = vector;
      unbroken = is_decrypted.unbroken;
      sealed = record {
        sealed = rest;
        vector_fits = is_decrypted.parts.vector_fits;
        vector_bytes = is_decrypted.vector_bytes;
        inner_bytes = is_decrypted.plain_bytes;
        seals = rw mac_is at is_decrypted.seals;
        whole = rw mac_is at is_decrypted.parts.whole;
      };
      mac_is = is_decrypted.made_is;
    }

-- the front of bytes is bytes
pub front_bytes : (n : ℕ) (bytes : List ℕ) → IsBytes bytes → IsBytes (take n bytes)
front_bytes zero bytes are i = omega arith
front_bytes (suc n) [] are i = are i
front_bytes (suc n) (byte ∷ bytes) are zero = are 0
front_bytes (suc n) (byte ∷ bytes) are (suc i) = front_bytes n bytes (λ j. are (suc j)) i

-- what a vector holds, of which bytes were lent and came back changed, cut behind a part of them
pub inner_kept : (at size len : ℕ) (items new kept slice : List ℕ) → len ≡ length items → length new ≡ length items → at + size ≤ length new
    → kept ≡ take (at + size) (take len (new ++ drop (length new) items)) → slice ≡ kept
    → take (length slice - at) (drop at slice) ≡ take size (drop at new)
inner_kept at size len items new kept slice len_is same_size within kept_is slice_is =
    let nothing : drop (length new) items ≡ [] = drop_all (length new) items (omega (arith, same_size)) in
    let lent : take len (new ++ drop (length new) items) ≡ new = rw (nothing, append-nil new) (take_all len new (omega (arith, len_is, same_size))) in
    let slice_whole : slice ≡ take (at + size) new = slice_is ∙ (kept_is ∙ ap (λ (l : List ℕ). take (at + size) l) lent) in
    take_rest slice at ∙ (ap (λ (l : List ℕ). drop at l) slice_whole ∙ drop-take at size new)

-- the payload is the end of what ends with its inner part
pub payload_last : (whole : List ℕ) (at : ℕ) (content : Content) → take (length whole - at) (drop at whole) ≡ inner_part content
    → drop (length whole - length content.payload) whole ≡ content.payload
payload_last whole at content laid_out =
    let head : List ℕ = content.salt ++ (4 ∷ (content.addr ++ numbers content)) in
    let laid : inner_part content ≡ head ++ content.payload = simp append_assoc in
    let split : whole ≡ (take at whole ++ head) ++ content.payload =
    sym (take-append-drop at whole)
    ∙ (ap (λ (l : List ℕ). take at whole ++ l) (sym (take_rest whole at) ∙ (laid_out ∙ laid)) ∙ sym (append_assoc (take at whole) head content.payload)) in
    end_rest whole content.payload (take at whole ++ head) split

-- an unsealed body whose inner part is that of a content, with the payload as it is kept
pub opens_kept : (key text body mac inner kept : List ℕ) (content : Content) (cipher : Cipher) (kind : MacKind) → Spells text body
    → IsUnsealed key body cipher kind mac inner → IsContent content → inner ≡ inner_part content → kept ≡ content.payload
    → Opens key text record { cipher = cipher; kind = kind; mac = mac; content = record content { payload = kept } }
opens_kept key text body mac inner kept content cipher kind spells unsealed fits laid_out kept_is =
    rw kept_is record {
      body = body;
      vector = unsealed.vector;
      spelled = spells;
      unbroken = unsealed.unbroken;
      fits = fits;
      sealed = rw laid_out at unsealed.sealed;
      mac_is = rw laid_out at unsealed.mac_is;
    }
