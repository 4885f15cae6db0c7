-- A hash and a MAC are made of bytes.
use Rattle.std.proofs.Common.{ℕ, zero, suc, ◌<◌, List, ◌++◌, All, arith}
use Rattle.std.proofs.lemmas.List.Elements.{All-nil, All-cons, All-append}
use Rattle.std.specs.Int.{w32, w64, byte_at, bytes_high_first, to_be_bytes}
use Rattle.std.specs.List.{slice_index}
use Rattle.sha1.specs.Sha1 as standard1
use Rattle.sha2.specs.Sha256 as standard256
use Rattle.sha2.specs.Sha512 as standard512
use Rattle.munge_types.specs.declared.algorithms.MacKind.{MacKind}
use Rattle.munge_types.specs.declared.algorithms.MacKind.TheVariants.{Sha1, Sha256, Sha512}
use Rattle.hmac_core.specs.Hmac.{hash, hmac, inner_pad, outer_pad}

abbrev IsByte : ℕ → Type 0
IsByte b = b < 256

byte_at_below : (i n : ℕ) → byte_at i n < 256
byte_at_below zero n = omega arith
byte_at_below (suc i) n = omega arith

All-bytes_high_first : (k n : ℕ) → All IsByte (bytes_high_first k n)
All-bytes_high_first zero n = All-nil IsByte
All-bytes_high_first (suc k) n = All-cons IsByte (byte_at k n) (bytes_high_first k n) (byte_at_below k n) (All-bytes_high_first k n)

All-digest1 : (h : List ℕ) (n : ℕ) → All IsByte (standard1.digest_bytes h n)
unfolding standard1.digest_bytes
All-digest1 h zero = All-nil IsByte
All-digest1 h (suc n) =
    All-append IsByte (standard1.digest_bytes h n) (to_be_bytes w32 (slice_index h n)) (All-digest1 h n) (All-bytes_high_first 4 (slice_index h n))

All-digest256 : (h : List ℕ) (n : ℕ) → All IsByte (standard256.digest_bytes h n)
unfolding standard256.digest_bytes
All-digest256 h zero = All-nil IsByte
All-digest256 h (suc n) =
    All-append IsByte (standard256.digest_bytes h n) (to_be_bytes w32 (slice_index h n)) (All-digest256 h n) (All-bytes_high_first 4 (slice_index h n))

All-digest512 : (h : List ℕ) (n : ℕ) → All IsByte (standard512.digest_bytes h n)
unfolding standard512.digest_bytes
All-digest512 h zero = All-nil IsByte
All-digest512 h (suc n) =
    All-append IsByte (standard512.digest_bytes h n) (to_be_bytes w64 (slice_index h n)) (All-digest512 h n) (All-bytes_high_first 8 (slice_index h n))

All-sha1 : (message : List ℕ) → All IsByte (standard1.sha1 message)
unfolding standard1.sha1
All-sha1 message = All-digest1 _ 5

All-sha256 : (message : List ℕ) → All IsByte (standard256.sha256 message)
unfolding standard256.sha256
All-sha256 message = All-digest256 _ 8

All-sha512 : (message : List ℕ) → All IsByte (standard512.sha512 message)
unfolding standard512.sha512
All-sha512 message = All-digest512 _ 8

All-hash : (kind : MacKind) (message : List ℕ) → All IsByte (hash kind message)
All-hash Sha1 message = All-sha1 message
All-hash Sha256 message = All-sha256 message
All-hash Sha512 message = All-sha512 message

pub All-hmac : (kind : MacKind) (key message : List ℕ) → All IsByte (hmac kind key message)
unfolding hmac
All-hmac kind key message = All-hash kind (outer_pad kind key ++ hash kind (inner_pad kind key ++ message))
