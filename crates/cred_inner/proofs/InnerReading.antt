-- The fields of an inner part, read at their places.
use Rattle.std.proofs.Common.{◌≡◌, ℕ, ◌+◌, ◌≤◌, ◌<◌, ◌^◌, List, [], ◌∷◌, ◌++◌, length, take, drop, get_or, refl, sym, ap, ◌∙◌, arith, inl, inr, lit<}
use Rattle.std.specs.Int.{w32, from_be_bytes}
use Rattle.std.proofs.lemmas.List.{append_assoc, take-append-drop, length-take-le, length-drop, get_or-drop, get_or-take, drop-drop, length-take, drop_all, get_or_past}
use Rattle.std.proofs.lemmas.Bool.{cases_lt}
use Rattle.std.proofs.Math.Seq.{drop-cons}
use Rattle.std.proofs.lemmas.Nat.{be_bytes_4}
use Rattle.munge_types.specs.BigEndian.{be32}
use Rattle.munge_types.specs.Bytes.{IsBytes}
use Rattle.cred_inner.specs.InnerPart.{Content, IsContent, inner_part, payload_limit}
use Rattle.cred_inner.proofs.InnerFields.{Fields, IsFields, laid, laid_once, fields_of, laid-fields_of, is_fields_of, content_in}

-- the number at a place
abbrev number_in : List ℕ → ℕ → ℕ
number_in head at = from_be_bytes w32 (take 4 (drop at head))

-- what stands at the places of 41 bytes, and what is behind them
abbrev pub read_fields : (head payload : List ℕ) → Fields
read_fields head payload =
    record {
      salt = take 8 (drop 0 head);
      mark = get_or head 8 0;
      addr = take 4 (drop 9 head);
      time = number_in head 13;
      ttl = number_in head 17;
      uid = number_in head 21;
      gid = number_in head 25;
      for_uid = number_in head 29;
      for_gid = number_in head 33;
      size = number_in head 37;
      payload = payload;
    }

cut : (head : List ℕ) (at size next : ℕ) → at + size ≡ next → drop at head ≡ take size (drop at head) ++ drop next head
cut head at size next sum =
    sym (take-append-drop size (drop at head))
    ∙ ap (λ (l : List ℕ). take size (drop at head) ++ l) (drop-drop size at head ∙ ap (λ n. drop n head) sum)

taken_size : (head : List ℕ) (at size : ℕ) → at + size ≤ length head → length (take size (drop at head)) ≡ size
taken_size head at size within =
    let long : size ≤ length (drop at head) = simp length-drop (omega arith) in
    length-take-le size (drop at head) long

part_bytes : (head : List ℕ) (at size : ℕ) → IsBytes head → IsBytes (take size (drop at head))
part_bytes head at size bytes i =
    elim (cases_lt i size) [
      | inl inside ↦ rw (get_or-take size (drop at head) i 0 inside, get_or-drop at head i 0) (bytes (at + i))
      | inr past ↦
          let short : length (take size (drop at head)) ≤ i = simp length-take (omega arith) in
          rw (get_or_past (take size (drop at head)) i 0 short) (lit< tt)
    ]

-- a number as it stands at its place
stands : (head : List ℕ) (at next : ℕ) → at + 4 ≡ next → at + 4 ≤ length head → IsBytes head
    → drop at head ≡ be32 (number_in head at) ++ drop next head
stands head at next sum within bytes =
    cut head at 4 next sum
    ∙ ap (λ (l : List ℕ). l ++ drop next head)
    (sym (be_bytes_4 (take 4 (drop at head)) (number_in head at) (taken_size head at 4 within) (part_bytes head at 4 bytes) refl))

chained : (d0 d8 d9 d13 d17 d21 d25 d29 d33 d37 d41 : List ℕ) (f : Fields) → d0 ≡ f.salt ++ d8 → d8 ≡ f.mark ∷ d9
    → d9 ≡ f.addr ++ d13 → d13 ≡ be32 f.time ++ d17 → d17 ≡ be32 f.ttl ++ d21 → d21 ≡ be32 f.uid ++ d25 → d25 ≡ be32 f.gid ++ d29
    → d29 ≡ be32 f.for_uid ++ d33 → d33 ≡ be32 f.for_gid ++ d37 → d37 ≡ be32 f.size ++ d41 → d41 ≡ []
    → d0 ++ f.payload ≡ laid f
chained d0 d8 d9 d13 d17 d21 d25 d29 d33 d37 d41 f e0 e8 e9 e13 e17 e21 e25 e29 e33 e37 e41 =
    rw (e0, e8, e9, e13, e17, e21, e25, e29, e33, e37, e41) (simp append_assoc)

-- bytes are laid out as what is read at their places
pub laid-read_fields : (head payload : List ℕ) → length head ≡ 41 → IsBytes head → head ++ payload ≡ laid (read_fields head payload)
laid-read_fields head payload size bytes =
    chained (drop 0 head) (drop 8 head) (drop 9 head) (drop 13 head) (drop 17 head) (drop 21 head) (drop 25 head)
    (drop 29 head) (drop 33 head) (drop 37 head) (drop 41 head) (read_fields head payload)
    (cut head 0 8 8 refl) (drop-cons head 8 0 (omega (arith, size))) (cut head 9 4 13 refl)
    (stands head 13 17 refl (omega (arith, size)) bytes) (stands head 17 21 refl (omega (arith, size)) bytes)
    (stands head 21 25 refl (omega (arith, size)) bytes) (stands head 25 29 refl (omega (arith, size)) bytes)
    (stands head 29 33 refl (omega (arith, size)) bytes) (stands head 33 37 refl (omega (arith, size)) bytes)
    (stands head 37 41 refl (omega (arith, size)) bytes) (drop_all 41 head (omega (arith, size)))

-- 41 bytes in front of a plain text, and what is behind them
pub record Cut (plain head payload : List ℕ) : Type 0 where
  pub head_is : head ≡ take 41 plain
  pub payload_is : payload ≡ drop 41 plain
  pub size : length payload + 41 ≡ length plain
  pub bytes : IsBytes plain

cut_whole : (plain head payload : List ℕ) → Cut plain head payload → plain ≡ head ++ payload
cut_whole plain head payload parts = rw (parts.head_is, parts.payload_is, take-append-drop) refl

head_size : (plain head payload : List ℕ) → Cut plain head payload → length head ≡ 41
head_size plain head payload parts =
    let long : 41 ≤ length plain = omega (arith, parts.size) in
    rw parts.head_is (length-take-le 41 plain long)

head_bytes : (plain head payload : List ℕ) → Cut plain head payload → IsBytes head
head_bytes plain head payload parts = rw parts.head_is (part_bytes plain 0 41 parts.bytes)

payload_bytes : (plain head payload : List ℕ) → Cut plain head payload → IsBytes payload
payload_bytes plain head payload parts = rw parts.payload_is (λ i. rw (get_or-drop 41 plain i 0) (parts.bytes (41 + i)))

number_fits : (head : List ℕ) (at : ℕ) → IsBytes head → number_in head at < 2 ^ 32
number_fits head at bytes =
    let part = part_bytes head at 4 bytes in
    let first = part 0 in
    let second = part 1 in
    let third = part 2 in
    let fourth = part 3 in
    omega arith

pub is_fields_read : (plain head payload : List ℕ) → Cut plain head payload → IsFields (read_fields head payload)
is_fields_read plain head payload parts =
    let size = head_size plain head payload parts in
    let bytes = head_bytes plain head payload parts in
    record {
      salt_size = taken_size head 0 8 (omega (arith, size));
      addr_size = taken_size head 9 4 (omega (arith, size));
      time_fits = number_fits head 13 bytes;
      ttl_fits = number_fits head 17 bytes;
      uid_fits = number_fits head 21 bytes;
      gid_fits = number_fits head 25 bytes;
      for_uid_fits = number_fits head 29 bytes;
      for_gid_fits = number_fits head 33 bytes;
      size_fits = number_fits head 37 bytes;
    }

-- a plain text that is laid out by a content was read as that content's fields
pub read_as : (plain head payload : List ℕ) → Cut plain head payload → (content : Content) → IsContent content
    → plain ≡ inner_part content → read_fields head payload ≡ fields_of content
read_as plain head payload parts content fits same =
    laid_once (read_fields head payload) (fields_of content) (is_fields_read plain head payload parts) (is_fields_of content fits)
    (sym (laid-read_fields head payload (head_size plain head payload parts) (head_bytes plain head payload parts))
    ∙ (sym (cut_whole plain head payload parts) ∙ (same ∙ laid-fields_of content)))

-- the content that is read
abbrev pub read_content : (head payload : List ℕ) → Content
read_content head payload = content_in (read_fields head payload)

laid_content : (f : Fields) → f.mark ≡ 4 → f.size ≡ length f.payload → laid f ≡ inner_part (content_in f)
laid_content f mark size = sym (laid-fields_of (content_in f) ∙ rw (← mark, ← size) refl)

pub read_laid_out : (plain head payload : List ℕ) → Cut plain head payload → get_or head 8 0 ≡ 4
    → number_in head 37 ≡ length payload → plain ≡ inner_part (read_content head payload)
read_laid_out plain head payload parts mark size =
    cut_whole plain head payload parts
    ∙ (laid-read_fields head payload (head_size plain head payload parts) (head_bytes plain head payload parts)
    ∙ laid_content (read_fields head payload) mark size)

pub is_content_read : (plain head payload : List ℕ) → Cut plain head payload → length payload ≤ payload_limit
    → IsContent (read_content head payload)
is_content_read plain head payload parts within =
    let fields = is_fields_read plain head payload parts in
    let bytes = head_bytes plain head payload parts in
    record {
      salt_size = fields.salt_size;
      salt_bytes = part_bytes head 0 8 bytes;
      addr_size = fields.addr_size;
      addr_bytes = part_bytes head 9 4 bytes;
      time_fits = fields.time_fits;
      ttl_fits = fields.ttl_fits;
      uid_fits = fields.uid_fits;
      gid_fits = fields.gid_fits;
      for_uid_fits = fields.for_uid_fits;
      for_gid_fits = fields.for_gid_fits;
      payload_within = within;
      payload_bytes = payload_bytes plain head payload parts;
    }
