-- What of a credential is encrypted, and how long its body is.
use Rattle.std.specs.Prelude.{ℕ, ◌+◌, List}
use Rattle.munge_types.specs.Algorithms.{mac_size}
use Rattle.munge_types.specs.declared.algorithms.Cipher.{Cipher}
use Rattle.munge_types.specs.declared.algorithms.Cipher.TheVariants as ciphers
use Rattle.munge_types.specs.declared.algorithms.MacKind.{MacKind}
use Rattle.cbc_mode.specs.Padding.{pad_size, padded}
use Rattle.cred_outer.specs.OuterPart.{outer_size}

-- the inner part, with its padding where there is a cipher
abbrev pub plain_part : Cipher → (inner : List ℕ) → List ℕ
plain_part ciphers.None inner = inner
plain_part ciphers.Aes128 inner = padded inner
plain_part ciphers.Aes256 inner = padded inner

-- its bytes, for an inner part of this many
abbrev pub plain_size : Cipher → (inner : ℕ) → ℕ
plain_size ciphers.None inner = inner
plain_size ciphers.Aes128 inner = inner + pad_size inner
plain_size ciphers.Aes256 inner = inner + pad_size inner

-- the bytes of the body of such an inner part
abbrev pub body_size : Cipher → MacKind → (inner : ℕ) → ℕ
body_size cipher kind inner = outer_size cipher + mac_size kind + plain_size cipher inner
