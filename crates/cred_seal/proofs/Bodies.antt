-- A body that was put part by part.
use Rattle.std.proofs.Common.{◌≡◌, ℕ, zero, suc, ◌+◌, ◌%◌, true, List, [], ◌∷◌, ◌++◌, length, take, drop, refl, sym, ap, ◌∙◌, arith}
use Rattle.std.proofs.lemmas.Bool.{lt-ltb, eq-eqb}
use Rattle.std.proofs.lemmas.List.{append_assoc, length-append, length-drop, take-append-drop, length-take-le}
use Rattle.munge_types.specs.Algorithms.{cipher_number, mac_size}
use Rattle.munge_types.specs.declared.algorithms.Cipher.{Cipher}
use Rattle.munge_types.specs.declared.algorithms.Cipher.TheVariants as ciphers
use Rattle.munge_types.specs.declared.algorithms.MacKind.{MacKind}
use Rattle.cbc_mode.specs.Padding.{pad_size, padded}
use Rattle.hmac_core.specs.Hmac.{hmac}
use Rattle.subkeys.specs.Subkeys.{mac_subkey}
use Rattle.munge_types.specs.Bytes.{IsBytes}
use Rattle.cred_outer.specs.BodyParts.{AreParts}
use Rattle.cred_outer.specs.OuterPart.{outer_part, outer_size, vector_size}
use Rattle.cred_outer.specs.OuterRules.{is_sealed_size}
use Rattle.cred_open.specs.Body.{IsBody, Seals, mac_of}
use Rattle.cred_seal.specs.PlainPart.{body_size, plain_size}

-- the initial vector that stands in a body
pub vector_fits : (cipher : Cipher) (iv : List ℕ) → length iv ≡ 16 → length (take (vector_size cipher) iv) ≡ vector_size cipher
vector_fits ciphers.None iv size = refl
vector_fits ciphers.Aes128 iv size = length-take-le 16 iv (omega (arith, size))
vector_fits ciphers.Aes256 iv size = length-take-le 16 iv (omega (arith, size))

-- a sealed part has the size of the inner part with its padding
pub sealed_size : (cipher : Cipher) (inner size : ℕ) → size ≡ plain_size cipher inner → is_sealed_size (cipher_number cipher) size ≡ true
sealed_size ciphers.None inner size is = refl
sealed_size ciphers.Aes128 inner size is = rw (lt-ltb 0 size (omega (arith, is)), eq-eqb (size % 16) 0 (omega (arith, is))) refl
sealed_size ciphers.Aes256 inner size is = rw (lt-ltb 0 size (omega (arith, is)), eq-eqb (size % 16) 0 (omega (arith, is))) refl

-- a message of two parts that was put in three
pub put_in_three : (start first second all a b c d : List ℕ) → a ≡ [] → first ≡ start ++ drop (length a) b → a ++ drop (length a) b ≡ b
    → second ≡ first ++ drop (length b) c → b ++ drop (length b) c ≡ c → all ≡ second ++ drop (length c) d → c ++ drop (length c) d ≡ d
    → all ≡ start ++ d
put_in_three start first second all a b c d none first_is b_is second_is c_is all_is d_is =
    let of_b : drop (length a) b ≡ b = ap (λ (l : List ℕ). l ++ drop (length a) b) (sym none) ∙ b_is in
    let to_b : first ≡ start ++ b = first_is ∙ ap (λ (l : List ℕ). start ++ l) of_b in
    let to_c : second ≡ start ++ c =
    second_is ∙ ap (λ (l : List ℕ). l ++ drop (length b) c) to_b ∙ append_assoc start b (drop (length b) c) ∙ ap (λ (l : List ℕ). start ++ l) c_is in
    all_is ∙ ap (λ (l : List ℕ). l ++ drop (length c) d) to_c ∙ append_assoc start c (drop (length c) d) ∙ ap (λ (l : List ℕ). start ++ l) d_is

-- how much was put of a padded message of two parts
pub put_size : (start all sealed head payload : List ℕ) → all ≡ start ++ sealed → length sealed ≡ length (padded (head ++ payload))
    → length (padded (head ++ payload)) ≡ length (head ++ payload) + pad_size (length (head ++ payload))
    → length all ≡ length start + (length head + length payload + pad_size (length head + length payload))
put_size start all sealed head payload is same padding =
    let both = length-append head payload in
    ap length is ∙ length-append start sealed
    ∙ ap (λ (n : ℕ). length start + n) (same ∙ padding ∙ ap (λ (n : ℕ). n + pad_size n) both)

-- a body that was put as its front and its sealed part
pub parts_put : (cipher : Cipher) (kind : MacKind) (iv mac none front whole : List ℕ) → length iv ≡ 16 → length mac ≡ mac_size kind → none ≡ []
    → front ≡ none ++ (outer_part cipher kind (take (vector_size cipher) iv) ++ mac) → take (length front) whole ≡ front
    → AreParts cipher kind (take (vector_size cipher) iv) mac (drop (length front) whole) whole
parts_put cipher kind iv mac none front whole iv_size mac_fits nothing front_is kept =
    let outer = outer_part cipher kind (take (vector_size cipher) iv) in
    let is : front ≡ outer ++ mac = front_is ∙ ap (λ (l : List ℕ). l ++ (outer ++ mac)) nothing in
    record {
      vector_fits = vector_fits cipher iv iv_size;
      mac_fits = mac_fits;
      whole =
          sym (take-append-drop (length front) whole)
          ∙ ap (λ (l : List ℕ). l ++ drop (length front) whole) (kept ∙ is)
          ∙ append_assoc outer mac (drop (length front) whole);
    }

-- the facts on a body that was put, whichever key it was sealed under
pub record IsAssembled (cipher : Cipher) (kind : MacKind) (vector mac front whole : List ℕ) (inner : ℕ) : Type 0 where
  pub parts : AreParts cipher kind vector mac (drop (length front) whole) whole
  pub size : length whole ≡ body_size cipher kind inner
  pub rest : length (drop (length front) whole) ≡ plain_size cipher inner

pub assembled : (cipher : Cipher) (kind : MacKind) (iv mac none front whole : List ℕ) (inner : ℕ) → length iv ≡ 16 → length mac ≡ mac_size kind → none ≡ []
    → front ≡ none ++ (outer_part cipher kind (take (vector_size cipher) iv) ++ mac) → take (length front) whole ≡ front
    → length whole ≡ length front + plain_size cipher inner
    → IsAssembled cipher kind (take (vector_size cipher) iv) mac front whole inner
assembled cipher kind iv mac none front whole inner iv_size mac_fits nothing front_is kept sized =
    let outer = outer_part cipher kind (take (vector_size cipher) iv) in
    let is : front ≡ outer ++ mac = front_is ∙ ap (λ (l : List ℕ). l ++ (outer ++ mac)) nothing in
    let front_size : length front ≡ outer_size cipher + mac_size kind =
    ap length is ∙ length-append outer mac ∙ omega (arith, vector_fits cipher iv iv_size, mac_fits) in
    record {
      parts = parts_put cipher kind iv mac none front whole iv_size mac_fits nothing front_is kept;
      size = omega (arith, sized, front_size);
      rest = omega (arith, length-drop (length front) whole, sized);
    }

-- the front of bytes is bytes
pub front_bytes : (n : ℕ) (bytes : List ℕ) → IsBytes bytes → IsBytes (take n bytes)
front_bytes zero bytes are i = omega arith
front_bytes (suc n) [] are i = are i
front_bytes (suc n) (byte ∷ bytes) are zero = are 0
front_bytes (suc n) (byte ∷ bytes) are (suc i) = front_bytes n bytes (λ j. are (suc j)) i

-- the body of an inner part under a key
pub seals_body : (key : List ℕ) (cipher : Cipher) (kind : MacKind) (vector mac sealed inner body subkey : List ℕ)
    → AreParts cipher kind vector mac sealed body → IsBytes vector → IsBytes inner → mac ≡ hmac kind subkey (outer_part cipher kind vector ++ inner)
    → subkey ≡ mac_subkey key → Seals key cipher kind vector mac inner sealed → IsBody key cipher kind vector inner body
seals_body key cipher kind vector mac sealed inner body subkey parts vector_bytes inner_bytes mac_is subkey_is seals =
    let mac_of_is : mac ≡ mac_of key cipher kind vector inner = rw subkey_is at mac_is in
    record {
      sealed = sealed;
      vector_fits = parts.vector_fits;
      vector_bytes = vector_bytes;
      inner_bytes = inner_bytes;
      seals = rw mac_of_is at seals;
      whole = rw mac_of_is at parts.whole;
    }
