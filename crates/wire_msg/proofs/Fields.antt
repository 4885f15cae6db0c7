-- Fixed fields, read at their places.
use Rattle.std.proofs.Common.{◌≡◌, ℕ, ◌+◌, ◌-◌, ◌≤◌, List, [], ◌∷◌, ◌++◌, length, take, drop, get_or, refl, sym, ap, ◌∙◌, arith, inl, inr}
use Rattle.std.specs.Int.{w32, w64, from_be_bytes}
use Rattle.std.proofs.lemmas.List.{append-nil, take-append-drop, length-take-le, length-drop, drop-drop, drop_all, nil_from_length, take_all}
use Rattle.std.proofs.Math.Seq.{drop-cons}
use Rattle.std.proofs.lemmas.Nat.{be_bytes_4, be_bytes_8}
use Rattle.munge_types.specs.BigEndian.{be32, be64}
use Rattle.wire_msg.proofs.ByteLists.{take_bytes, drop_bytes}
use Rattle.wire_msg.specs.Begun.{IsReplySize}
use Rattle.munge_types.specs.Bytes.{IsBytes}
use Rattle.wire_msg.specs.Spelling.{reply_head}

-- the bytes at a place, and the numbers in four and in eight of them
abbrev pub part : List ℕ → (size at : ℕ) → List ℕ
part fields size at = take size (drop at fields)

abbrev pub number_in : List ℕ → ℕ → ℕ
number_in fields at = from_be_bytes w32 (take 4 (drop at fields))

abbrev pub number8_in : List ℕ → ℕ → ℕ
number8_in fields at = from_be_bytes w64 (take 8 (drop at fields))

cut : (fields : List ℕ) (at size next : ℕ) → at + size ≡ next → drop at fields ≡ take size (drop at fields) ++ drop next fields
cut fields at size next sum =
    sym (take-append-drop size (drop at fields))
    ∙ ap (λ (l : List ℕ). take size (drop at fields) ++ l) (drop-drop size at fields ∙ ap (λ n. drop n fields) sum)

pub part_size : (fields : List ℕ) (at size : ℕ) → at + size ≤ length fields → length (take size (drop at fields)) ≡ size
part_size fields at size within =
    let long : size ≤ length (drop at fields) = simp length-drop (omega arith) in
    length-take-le size (drop at fields) long

pub part_bytes : (fields : List ℕ) (at size : ℕ) → IsBytes fields → IsBytes (take size (drop at fields))
part_bytes fields at size bytes = take_bytes size (drop at fields) (drop_bytes at fields bytes)

-- numbers as they stand at their places
stands : (fields : List ℕ) (at next : ℕ) → at + 4 ≡ next → at + 4 ≤ length fields → IsBytes fields
    → drop at fields ≡ be32 (number_in fields at) ++ drop next fields
stands fields at next sum within bytes =
    cut fields at 4 next sum
    ∙ ap (λ (l : List ℕ). l ++ drop next fields)
    (sym (be_bytes_4 (take 4 (drop at fields)) (number_in fields at) (part_size fields at 4 within) (part_bytes fields at 4 bytes) refl))

stands8 : (fields : List ℕ) (at next : ℕ) → at + 8 ≡ next → at + 8 ≤ length fields → IsBytes fields
    → drop at fields ≡ be64 (number8_in fields at) ++ drop next fields
stands8 fields at next sum within bytes =
    cut fields at 8 next sum
    ∙ ap (λ (l : List ℕ). l ++ drop next fields)
    (sym (be_bytes_8 (take 8 (drop at fields)) (number8_in fields at) (part_size fields at 8 within) (part_bytes fields at 8 bytes) refl))

ask_chain : (a b : ℕ) (x y z d0 d1 d2 d6 d10 d14 : List ℕ) → d0 ≡ a ∷ d1 → d1 ≡ b ∷ d2 → d2 ≡ x ++ d6 → d6 ≡ y ++ d10
    → d10 ≡ z ++ d14 → d14 ≡ [] → a ∷ b ∷ (x ++ (y ++ z)) ≡ d0
ask_chain a b x y z d0 d1 d2 d6 d10 d14 e0 e1 e2 e6 e10 e14 = rw (e0, e1, e2, e6, e10, e14, append-nil) refl

-- the fields of an encode request
pub laid_ask : (fields : List ℕ) → length fields ≡ 14 → IsBytes fields
    → get_or fields 0 0 ∷ get_or fields 1 0 ∷ (be32 (number_in fields 2) ++ (be32 (number_in fields 6) ++ be32 (number_in fields 10))) ≡ fields
laid_ask fields size bytes =
    ask_chain (get_or fields 0 0) (get_or fields 1 0) (be32 (number_in fields 2)) (be32 (number_in fields 6)) (be32 (number_in fields 10))
    (drop 0 fields) (drop 1 fields) (drop 2 fields) (drop 6 fields) (drop 10 fields) (drop 14 fields)
    (drop-cons fields 0 0 (omega (arith, size))) (drop-cons fields 1 0 (omega (arith, size)))
    (stands fields 2 6 refl (omega (arith, size)) bytes) (stands fields 6 10 refl (omega (arith, size)) bytes)
    (stands fields 10 14 refl (omega (arith, size)) bytes) (drop_all 14 fields (omega (arith, size)))

reply_chain : (a b : ℕ) (x d0 d1 d2 d10 : List ℕ) → d0 ≡ a ∷ d1 → d1 ≡ b ∷ d2 → d2 ≡ x ++ d10 → a ∷ b ∷ x ++ d10 ≡ d0
reply_chain a b x d0 d1 d2 d10 e0 e1 e2 = rw (e0, e1, e2) refl

-- the first fields of a decode reply
pub laid_reply : (fields : List ℕ) → 10 ≤ length fields → IsBytes fields
    → reply_head (get_or fields 0 0) (get_or fields 1 0) (number8_in fields 2) ++ drop 10 fields ≡ fields
laid_reply fields size bytes =
    reply_chain (get_or fields 0 0) (get_or fields 1 0) (be64 (number8_in fields 2))
    (drop 0 fields) (drop 1 fields) (drop 2 fields) (drop 10 fields)
    (drop-cons fields 0 0 (omega (arith, size))) (drop-cons fields 1 0 (omega (arith, size)))
    (stands8 fields 2 10 refl (omega (arith, size)) bytes)

content_chain : (a b : ℕ) (addr t l u g fu fg d0 d1 d2 d6 d10 d14 d18 d22 d26 d30 : List ℕ) → d0 ≡ a ∷ d1 → d1 ≡ b ∷ d2
    → d2 ≡ addr ++ d6 → d6 ≡ t ++ d10 → d10 ≡ l ++ d14 → d14 ≡ u ++ d18 → d18 ≡ g ++ d22 → d22 ≡ fu ++ d26 → d26 ≡ fg ++ d30
    → d30 ≡ [] → a ∷ b ∷ (addr ++ (t ++ (l ++ (u ++ (g ++ (fu ++ fg)))))) ≡ d0
content_chain a b addr t l u g fu fg d0 d1 d2 d6 d10 d14 d18 d22 d26 d30 e0 e1 e2 e6 e10 e14 e18 e22 e26 e30 =
    rw (e0, e1, e2, e6, e10, e14, e18, e22, e26, e30, append-nil) refl

-- the fields of a content
pub laid_content : (fields : List ℕ) → length fields ≡ 30 → IsBytes fields
    → get_or fields 0 0 ∷ get_or fields 1 0 ∷ (take 4 (drop 2 fields) ++ (be32 (number_in fields 6) ++ (be32 (number_in fields 10)
    ++ (be32 (number_in fields 14) ++ (be32 (number_in fields 18) ++ (be32 (number_in fields 22) ++ be32 (number_in fields 26))))))) ≡ fields
laid_content fields size bytes =
    content_chain (get_or fields 0 0) (get_or fields 1 0) (take 4 (drop 2 fields)) (be32 (number_in fields 6)) (be32 (number_in fields 10))
    (be32 (number_in fields 14)) (be32 (number_in fields 18)) (be32 (number_in fields 22)) (be32 (number_in fields 26))
    (drop 0 fields) (drop 1 fields) (drop 2 fields) (drop 6 fields) (drop 10 fields) (drop 14 fields) (drop 18 fields) (drop 22 fields)
    (drop 26 fields) (drop 30 fields)
    (drop-cons fields 0 0 (omega (arith, size))) (drop-cons fields 1 0 (omega (arith, size))) (cut fields 2 4 6 refl)
    (stands fields 6 10 refl (omega (arith, size)) bytes) (stands fields 10 14 refl (omega (arith, size)) bytes)
    (stands fields 14 18 refl (omega (arith, size)) bytes) (stands fields 18 22 refl (omega (arith, size)) bytes)
    (stands fields 22 26 refl (omega (arith, size)) bytes) (stands fields 26 30 refl (omega (arith, size)) bytes)
    (drop_all 30 fields (omega (arith, size)))

-- a decode reply's fields and payload, where it has no content and where it has one
pub laid_refusal : (fields payload : List ℕ) (place : ℕ) → IsReplySize (length fields) (length payload) → length fields ≡ 10
    → IsBytes fields → place ≡ number8_in fields 2
    → reply_head (get_or fields 0 0) (get_or fields 1 0) place ++ [] ≡ fields ++ payload
laid_refusal fields payload place sizes size bytes same =
    let empty : length payload ≡ 0 = elim sizes [ inl both ↦ both.1 | inr showing ↦ absurd (omega arith) ] in
    let behind : drop 10 fields ≡ [] = drop_all 10 fields (omega (arith, size)) in
    let none = nil_from_length payload empty in
    let laid = rw behind at (laid_reply fields (omega (arith, size)) bytes) in
    rw (same, none, append-nil {A = ℕ} fields) laid

pub laid_showing : (fields payload head : List ℕ) (place : ℕ) → 10 ≤ length fields → IsBytes fields → place ≡ number8_in fields 2
    → head ≡ take (length fields - 10) (drop 10 fields) → reply_head (get_or fields 0 0) (get_or fields 1 0) place ++ (head ++ payload) ≡ fields ++ payload
laid_showing fields payload head place size bytes same shown =
    let laid = laid_reply fields size bytes in
    let short : length (drop 10 fields) ≤ length fields - 10 = simp length-drop (omega arith) in
    let all = take_all (length fields - 10) (drop 10 fields) short in
    rw (same, shown, all) (ap (λ (l : List ℕ). l ++ payload) laid)
