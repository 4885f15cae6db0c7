-- A body made of parts, and that it is made of no others.
use Rattle.std.proofs.Common.{◌≡◌, ℕ, ◌+◌, ◌-◌, false, true, List, ◌++◌, length, take, drop, get_or, refl, sym, ap, ◌∙◌, arith}
use Rattle.std.proofs.Math.Seq.{take-append_seam, drop-append_seam}
use Rattle.std.proofs.lemmas.Bool.{le-leb, le-ltb}
use Rattle.std.proofs.lemmas.List.{length-append}
use Rattle.std.specs.declared.option.Option.TheVariants.{None}
use Rattle.munge_types.specs.Algorithms.{cipher_number, mac_number, mac_size}
use Rattle.munge_types.specs.declared.algorithms.Cipher.{Cipher}
use Rattle.munge_types.specs.declared.algorithms.Cipher.TheVariants as ciphers
use Rattle.munge_types.specs.declared.algorithms.MacKind.{MacKind}
use Rattle.munge_types.specs.declared.algorithms.MacKind.TheVariants.{Sha1, Sha256, Sha512}
use Rattle.cred_outer.specs.BodyParts.{AreParts, SameParts}
use Rattle.cred_outer.specs.OuterPart.{outer_part, vector_size}
use Rattle.cred_outer.specs.OuterRules.{first_broken, is_sealed_size, key_too_long, outer_rules}

same_cipher : (a b : Cipher) → cipher_number a ≡ cipher_number b → a ≡ b
same_cipher ciphers.None ciphers.None same = refl
same_cipher ciphers.None ciphers.Aes128 same = absurd (omega (arith, same))
same_cipher ciphers.None ciphers.Aes256 same = absurd (omega (arith, same))
same_cipher ciphers.Aes128 ciphers.None same = absurd (omega (arith, same))
same_cipher ciphers.Aes128 ciphers.Aes128 same = refl
same_cipher ciphers.Aes128 ciphers.Aes256 same = absurd (omega (arith, same))
same_cipher ciphers.Aes256 ciphers.None same = absurd (omega (arith, same))
same_cipher ciphers.Aes256 ciphers.Aes128 same = absurd (omega (arith, same))
same_cipher ciphers.Aes256 ciphers.Aes256 same = refl

same_kind : (a b : MacKind) → mac_number a ≡ mac_number b → a ≡ b
same_kind Sha1 Sha1 same = refl
same_kind Sha1 Sha256 same = absurd (omega (arith, same))
same_kind Sha1 Sha512 same = absurd (omega (arith, same))
same_kind Sha256 Sha1 same = absurd (omega (arith, same))
same_kind Sha256 Sha256 same = refl
same_kind Sha256 Sha512 same = absurd (omega (arith, same))
same_kind Sha512 Sha1 same = absurd (omega (arith, same))
same_kind Sha512 Sha256 same = absurd (omega (arith, same))
same_kind Sha512 Sha512 same = refl

-- fronts of one length are one
same_front : (a b x y : List ℕ) → length a ≡ length b → a ++ x ≡ b ++ y → a ≡ b
same_front a b x y size same =
    sym (take-append_seam a x) ∙ (ap (take (length a)) same ∙ rw size (take-append_seam b y))

-- and so is what is behind them
same_behind : (a b x y : List ℕ) → length a ≡ length b → a ++ x ≡ b ++ y → x ≡ y
same_behind a b x y size same =
    sym (drop-append_seam a x) ∙ (ap (drop (length a)) same ∙ rw size (drop-append_seam b y))

pub parts_once : (c d : Cipher) (k l : MacKind) (v w m n r s body : List ℕ)
    → AreParts c k v m r body → AreParts d l w n s body → SameParts c d k l v w m n r s
parts_once c d k l v w m n r s body one two =
    let whole : outer_part c k v ++ (m ++ r) ≡ outer_part d l w ++ (n ++ s) = sym one.whole ∙ two.whole in
    let cipher : c ≡ d = same_cipher c d (ap (λ (bytes : List ℕ). get_or bytes 1 0) whole) in
    let kind : k ≡ l = same_kind k l (ap (λ (bytes : List ℕ). get_or bytes 2 0) whole) in
    let behind : v ++ (m ++ r) ≡ w ++ (n ++ s) = ap (λ (bytes : List ℕ). drop 5 bytes) whole in
    let vectors = one.vector_fits ∙ (ap vector_size cipher ∙ sym two.vector_fits) in
    let macs = one.mac_fits ∙ (ap mac_size kind ∙ sym two.mac_fits) in
    let past : m ++ r ≡ n ++ s = same_behind v w (m ++ r) (n ++ s) vectors behind in
    record {
      cipher = cipher;
      kind = kind;
      vector = same_front v w (m ++ r) (n ++ s) vectors behind;
      mac = same_front m n r s macs past;
      rest = same_behind m n r s macs past;
    }

-- with the tests on the length decided, the table computes
unbroken : (cipher : Cipher) (kind : MacKind) (vector mac rest : List ℕ) → length vector ≡ vector_size cipher → length mac ≡ mac_size kind
    → key_too_long (cipher_number cipher) (mac_number kind) ≡ false → is_sealed_size (cipher_number cipher) (length rest) ≡ true
    → first_broken (outer_rules (outer_part cipher kind vector ++ (mac ++ rest))) ≡ None
unbroken ciphers.None Sha1 vector mac rest vector_fits mac_fits keyed sized =
    let body = outer_part ciphers.None Sha1 vector ++ (mac ++ rest) in
    let size : length body ≡ 25 + length rest = simp length-append (omega arith) in
    rw (le-ltb (length body) 5 (omega (arith, size)), le-leb 25 (length body) (omega (arith, size))) refl
unbroken ciphers.None Sha256 vector mac rest vector_fits mac_fits keyed sized =
    let body = outer_part ciphers.None Sha256 vector ++ (mac ++ rest) in
    let size : length body ≡ 37 + length rest = simp length-append (omega arith) in
    rw (le-ltb (length body) 5 (omega (arith, size)), le-leb 37 (length body) (omega (arith, size))) refl
unbroken ciphers.None Sha512 vector mac rest vector_fits mac_fits keyed sized =
    let body = outer_part ciphers.None Sha512 vector ++ (mac ++ rest) in
    let size : length body ≡ 69 + length rest = simp length-append (omega arith) in
    rw (le-ltb (length body) 5 (omega (arith, size)), le-leb 69 (length body) (omega (arith, size))) refl
unbroken ciphers.Aes128 Sha1 vector mac rest vector_fits mac_fits keyed sized =
    let body = outer_part ciphers.Aes128 Sha1 vector ++ (mac ++ rest) in
    let size : length body ≡ 41 + length rest = simp length-append (omega arith) in
    let behind : length body - 41 ≡ length rest = omega (arith, size) in
    rw (le-ltb (length body) 5 (omega (arith, size)), le-leb 41 (length body) (omega (arith, size)), behind, sized) refl
unbroken ciphers.Aes128 Sha256 vector mac rest vector_fits mac_fits keyed sized =
    let body = outer_part ciphers.Aes128 Sha256 vector ++ (mac ++ rest) in
    let size : length body ≡ 53 + length rest = simp length-append (omega arith) in
    let behind : length body - 53 ≡ length rest = omega (arith, size) in
    rw (le-ltb (length body) 5 (omega (arith, size)), le-leb 53 (length body) (omega (arith, size)), behind, sized) refl
unbroken ciphers.Aes128 Sha512 vector mac rest vector_fits mac_fits keyed sized =
    let body = outer_part ciphers.Aes128 Sha512 vector ++ (mac ++ rest) in
    let size : length body ≡ 85 + length rest = simp length-append (omega arith) in
    let behind : length body - 85 ≡ length rest = omega (arith, size) in
    rw (le-ltb (length body) 5 (omega (arith, size)), le-leb 85 (length body) (omega (arith, size)), behind, sized) refl
unbroken ciphers.Aes256 Sha1 vector mac rest vector_fits mac_fits keyed sized = cc keyed
unbroken ciphers.Aes256 Sha256 vector mac rest vector_fits mac_fits keyed sized =
    let body = outer_part ciphers.Aes256 Sha256 vector ++ (mac ++ rest) in
    let size : length body ≡ 53 + length rest = simp length-append (omega arith) in
    let behind : length body - 53 ≡ length rest = omega (arith, size) in
    rw (le-ltb (length body) 5 (omega (arith, size)), le-leb 53 (length body) (omega (arith, size)), behind, sized) refl
unbroken ciphers.Aes256 Sha512 vector mac rest vector_fits mac_fits keyed sized =
    let body = outer_part ciphers.Aes256 Sha512 vector ++ (mac ++ rest) in
    let size : length body ≡ 85 + length rest = simp length-append (omega arith) in
    let behind : length body - 85 ≡ length rest = omega (arith, size) in
    rw (le-ltb (length body) 5 (omega (arith, size)), le-leb 85 (length body) (omega (arith, size)), behind, sized) refl

pub parts_unbroken : (cipher : Cipher) (kind : MacKind) (vector mac rest body : List ℕ) → AreParts cipher kind vector mac rest body
    → key_too_long (cipher_number cipher) (mac_number kind) ≡ false → is_sealed_size (cipher_number cipher) (length rest) ≡ true
    → first_broken (outer_rules body) ≡ None
parts_unbroken cipher kind vector mac rest body parts keyed sized =
    rw parts.whole (unbroken cipher kind vector mac rest parts.vector_fits parts.mac_fits keyed sized)
