-- What decryption makes of a sealed part.
use Rattle.std.proofs.Common.{◌≡◌, ℕ, ◌<◌, List, length, take, refl, sym, ap, ◌∙◌, arith}
use Rattle.std.proofs.lemmas.List.{take_all}
use Rattle.std.specs.List.{All}
use Rattle.std.specs.Option.{IfSome, IfNone}
use Rattle.std.specs.declared.option.Option.{Option}
use Rattle.std.specs.declared.option.Option.TheVariants.{None, Some}
use Rattle.munge_types.specs.declared.algorithms.Cipher.{Cipher}
use Rattle.munge_types.specs.declared.algorithms.Cipher.TheVariants as ciphers
use Rattle.munge_types.specs.declared.algorithms.MacKind.{MacKind}
use Rattle.cbc_mode.specs.Cbc.{cbc, IsBlocks}
use Rattle.cbc_mode.specs.Padding.{padded}
use Rattle.subkeys.specs.DataKey.{data_key_of, data_key_under}
use Rattle.subkeys.specs.Subkeys.{SubkeyPair, IsOf}
use Rattle.munge_types.specs.Bytes.{IsBytes}
use Rattle.cred_outer.specs.OuterPart.{vector_size}
use Rattle.cred_open.specs.Body.{Seals}
use Rattle.cred_open.proofs.Bodies.{all_bytes}

-- an initial vector, taken as one block
pub vector_is : (cipher : Cipher) (vector chunk : List ℕ) → (cipher ≡ ciphers.None → ⊥) → length vector ≡ vector_size cipher
    → chunk ≡ take 16 vector → chunk ≡ vector
vector_is ciphers.None vector chunk other size is = absurd (other refl)
vector_is ciphers.Aes128 vector chunk other size is = is ∙ take_all 16 vector (omega (arith, size))
vector_is ciphers.Aes256 vector chunk other size is = is ∙ take_all 16 vector (omega (arith, size))

-- the key of the credential's cipher, made of the subkey
same_key : (cipher : Cipher) (key : List ℕ) (subkeys : SubkeyPair) (kind : MacKind) (mac data_key : List ℕ) → IsOf subkeys key
    → data_key ≡ data_key_under cipher kind subkeys.cipher mac → data_key ≡ data_key_of cipher kind key mac
same_key cipher key subkeys kind mac data_key of is = is ∙ ap (λ (subkey : List ℕ). data_key_under cipher kind subkey mac) of.cipher_is

-- blocks that were decrypted to these, of which the padding was taken off
pub decrypted : (cipher : Cipher) (key : List ℕ) (subkeys : SubkeyPair) (kind : MacKind) (vector mac data_key old new plain : List ℕ)
    → (cipher ≡ ciphers.None → ⊥) → IsOf subkeys key → data_key ≡ data_key_under cipher kind subkeys.cipher mac
    → cbc data_key vector new ≡ old → padded plain ≡ new
    → Seals key cipher kind vector mac plain old
decrypted ciphers.None key subkeys kind vector mac data_key old new plain other of is undone padding = absurd (other refl)
decrypted ciphers.Aes128 key subkeys kind vector mac data_key old new plain other of is undone padding =
    rw (padding, ← same_key ciphers.Aes128 key subkeys kind mac data_key of is) (sym undone)
decrypted ciphers.Aes256 key subkeys kind vector mac data_key old new plain other of is undone padding =
    rw (padding, ← same_key ciphers.Aes256 key subkeys kind mac data_key of is) (sym undone)

-- what decryption and padding promise, under a cipher
pub record Undone (data_key vector old new : List ℕ) : Type 0 where
  pub only : (other : List ℕ) → IsBlocks other → cbc data_key vector other ≡ old → other ≡ new
  pub blocks : (bytes : List ℕ) → All (λ b. b < 256) bytes → IsBlocks (padded bytes)
  pub unpadded : (bytes : List ℕ) → padded bytes ≡ new → ⊥

not_encrypted : (key vector data_key old new inner : List ℕ) → Undone data_key vector old new → data_key ≡ key → IsBytes inner
    → old ≡ cbc key vector (padded inner) → ⊥
not_encrypted key vector data_key old new inner undone is bytes seals =
    undone.unpadded inner (undone.only (padded inner) (undone.blocks inner (all_bytes inner bytes)) (rw is (sym seals)))

-- blocks that were decrypted to these, behind which there is no padding
pub not_padded : (cipher : Cipher) (key : List ℕ) (subkeys : SubkeyPair) (kind : MacKind) (vector mac data_key old new inner : List ℕ)
    → (cipher ≡ ciphers.None → ⊥) → IsOf subkeys key → data_key ≡ data_key_under cipher kind subkeys.cipher mac
    → Undone data_key vector old new → IsBytes inner → Seals key cipher kind vector mac inner old → ⊥
not_padded ciphers.None key subkeys kind vector mac data_key old new inner other of is undone bytes seals = absurd (other refl)
not_padded ciphers.Aes128 key subkeys kind vector mac data_key old new inner other of is undone bytes seals =
    not_encrypted (data_key_of ciphers.Aes128 kind key mac) vector data_key old new inner undone
    (same_key ciphers.Aes128 key subkeys kind mac data_key of is) bytes seals
not_padded ciphers.Aes256 key subkeys kind vector mac data_key old new inner other of is undone bytes seals =
    not_encrypted (data_key_of ciphers.Aes256 kind key mac) vector data_key old new inner undone
    (same_key ciphers.Aes256 key subkeys kind mac data_key of is) bytes seals

-- what is said of a length that was found, or of none, said otherwise
pub if_some : (found : Option ℕ) (P Q : ℕ → Type 0) → ((n : ℕ) → P n → Q n) → IfSome found P → IfSome found Q
if_some None P Q says is = tt
if_some (Some n) P Q says is = says n is

pub if_none : (found : Option ℕ) (P Q : Type 0) → (P → Q) → IfNone found P → IfNone found Q
if_none None P Q says is = says is
if_none (Some n) P Q says is = tt
