-- HMAC (RFC 2104) over the hash functions of FIPS 180-4.
use Rattle.std.specs.Prelude.{ℕ, ◌-◌, nat_lt, if◌then◌else◌, List, ◌++◌, length, map, replicate, bit_xor}
use Rattle.sha1.specs.Sha1.{sha1}
use Rattle.sha2.specs.Sha256.{sha256}
use Rattle.sha2.specs.Sha512.{sha512}
use Rattle.munge_types.specs.declared.algorithms.MacKind.{MacKind}
use Rattle.munge_types.specs.declared.algorithms.MacKind.TheVariants.{Sha1, Sha256, Sha512}

-- H, the hash function
abbrev pub hash : MacKind → List ℕ → List ℕ
hash Sha1 message = sha1 message
hash Sha256 message = sha256 message
hash Sha512 message = sha512 message

-- B, the bytes of the hash's block
abbrev pub block_size : MacKind → ℕ
block_size Sha1 = 64
block_size Sha256 = 64
block_size Sha512 = 128

-- the bytes, filled with zeros to this size
abbrev pub filled : ℕ → List ℕ → List ℕ
filled size bytes = bytes ++ replicate (size - length bytes) 0

-- the key as one block: itself, or its hash where it is longer than a block, filled with zeros
abbrev pub block_key : MacKind → List ℕ → List ℕ
block_key kind key =
    filled (block_size kind) (if nat_lt (block_size kind) (length key) then hash kind key else key)

-- each byte of the block, xor the pad's byte
abbrev pub padded_by : ℕ → List ℕ → List ℕ
padded_by pad block = map (λ byte. bit_xor byte pad) block

-- the first block of the inner hash: K XOR ipad
abbrev pub inner_pad : MacKind → List ℕ → List ℕ
inner_pad kind key = padded_by 0x36 (block_key kind key)

-- the first block of the outer hash: K XOR opad
abbrev pub outer_pad : MacKind → List ℕ → List ℕ
outer_pad kind key = padded_by 0x5c (block_key kind key)

-- H(K XOR opad, H(K XOR ipad, text)), section 2
unfoldable pub hmac : MacKind → List ℕ → List ℕ → List ℕ
hmac kind key message = hash kind (outer_pad kind key ++ hash kind (inner_pad kind key ++ message))
