-- Cipher block chaining (NIST SP 800-38A, section 6.2) with AES.
use Rattle.std.specs.Prelude.{◌≡◌, ℕ, zero, suc, ◌/◌, ◌%◌, ◌<◌, List, [], ◌++◌, length, map, take, drop, All, bit_xor}
use Rattle.std.specs.List.{zip}
use Rattle.aes_block.specs.Cipher.{cipher}

-- the sum of two blocks, byte by byte
unfoldable pub xor : List ℕ → List ℕ → List ℕ
xor a b = map (λ bytes. bit_xor bytes.0 bytes.1) (zip a b)

-- n cipher blocks: each encrypts the plain block, xor the cipher block before it
unfoldable pub chained : ℕ → List ℕ → List ℕ → List ℕ → List ℕ
chained zero key before plain = []
chained (suc n) key before plain =
    let block = cipher key (xor (take 16 plain) before) in
    block ++ chained n key block (drop 16 plain)

-- the encryption of whole blocks under a key of 16 or 32 bytes, with the vector before the first
unfoldable pub cbc : List ℕ → List ℕ → List ℕ → List ℕ
cbc key iv plain = chained (length plain / 16) key iv plain

-- bytes that are whole blocks of 16
pub record IsBlocks (blocks : List ℕ) : Type 0 where
  pub whole : length blocks % 16 ≡ 0
  pub bytes : All (λ b. b < 256) blocks
