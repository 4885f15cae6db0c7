-- An inner part is bytes, as its fields are.
use Rattle.std.proofs.Common.{ℕ, zero, suc, ◌/◌, ◌%◌, ◌^◌, List, [], ◌∷◌, ◌++◌, length, map, arith}
use Rattle.munge_types.specs.BigEndian.{be32}
use Rattle.munge_types.specs.Bytes.{IsBytes}
use Rattle.cred_inner.specs.InnerPart.{Content, IsContent, inner_part, numbers}

-- bytes behind bytes
append_bytes : (a b : List ℕ) → IsBytes a → IsBytes b → IsBytes (a ++ b)
append_bytes [] b first second i = second i
append_bytes (byte ∷ a) b first second zero = first 0
append_bytes (byte ∷ a) b first second (suc i) = append_bytes a b (λ k. first (suc k)) second i

-- what is left of numbers modulo 256
low_bytes : (numbers : List ℕ) → IsBytes (map (λ number. number % 256) numbers)
low_bytes [] i = omega arith
low_bytes (number ∷ numbers) zero = omega arith
low_bytes (number ∷ numbers) (suc i) = low_bytes numbers i

be32_bytes : (number : ℕ) → IsBytes (be32 number)
be32_bytes number = low_bytes (number / 256 ^ 3 ∷ number / 256 ^ 2 ∷ number / 256 ∷ number ∷ [])

-- the length of an address
mark_bytes : (bytes : List ℕ) → IsBytes bytes → IsBytes (4 ∷ bytes)
mark_bytes bytes are zero = omega arith
mark_bytes bytes are (suc i) = are i

number_bytes : (number : ℕ) (bytes : List ℕ) → IsBytes bytes → IsBytes (be32 number ++ bytes)
number_bytes number bytes are = append_bytes (be32 number) bytes (be32_bytes number) are

numbers_bytes : (content : Content) → IsBytes (numbers content)
numbers_bytes content =
    let from_size : List ℕ = be32 (length content.payload) in
    let from_for_gid : List ℕ = be32 content.for_gid ++ from_size in
    let from_for_uid : List ℕ = be32 content.for_uid ++ from_for_gid in
    let from_gid : List ℕ = be32 content.gid ++ from_for_uid in
    let from_uid : List ℕ = be32 content.uid ++ from_gid in
    let from_ttl : List ℕ = be32 content.ttl ++ from_uid in
    number_bytes content.time from_ttl (number_bytes content.ttl from_uid (number_bytes content.uid from_gid
    (number_bytes content.gid from_for_uid (number_bytes content.for_uid from_for_gid (number_bytes content.for_gid from_size
    (be32_bytes (length content.payload)))))))

pub inner_part_bytes : (content : Content) → IsContent content → IsBytes (inner_part content)
inner_part_bytes content fits =
    append_bytes content.salt (4 ∷ (content.addr ++ (numbers content ++ content.payload))) fits.salt_bytes
    (mark_bytes (content.addr ++ (numbers content ++ content.payload))
    (append_bytes content.addr (numbers content ++ content.payload) fits.addr_bytes
    (append_bytes (numbers content) content.payload (numbers_bytes content) fits.payload_bytes)))
