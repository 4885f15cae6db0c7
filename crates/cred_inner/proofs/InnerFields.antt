-- An inner part as its fields, one after another, and that no other fields give it.
use Rattle.std.proofs.Common.{◌≡◌, ℕ, ◌+◌, ◌<◌, ◌^◌, List, ◌∷◌, ◌++◌, length, drop, refl, sym, ap, ◌∙◌, arith}
use Rattle.std.specs.Int.{w32, from_be_bytes}
use Rattle.std.proofs.lemmas.List.{append_assoc, length-append}
use Rattle.std.proofs.lemmas.Nat.{from_be_bytes-to_be_bytes_4}
use Rattle.cred_inner.proofs.Parts.{apart}
use Rattle.munge_types.specs.BigEndian.{be32}
use Rattle.cred_inner.specs.InnerPart.{Content, IsContent, inner_part}

-- what is read at the places of an inner part
pub record Fields : Type 0 where
  pub salt : List ℕ
  pub mark : ℕ
  pub addr : List ℕ
  pub time : ℕ
  pub ttl : ℕ
  pub uid : ℕ
  pub gid : ℕ
  pub for_uid : ℕ
  pub for_gid : ℕ
  pub size : ℕ
  pub payload : List ℕ

abbrev pub laid : Fields → List ℕ
laid fields =
    fields.salt ++ (fields.mark ∷ (fields.addr ++ (be32 fields.time ++ (be32 fields.ttl ++ (be32 fields.uid
    ++ (be32 fields.gid ++ (be32 fields.for_uid ++ (be32 fields.for_gid ++ (be32 fields.size ++ fields.payload)))))))))

-- the fields have their sizes
pub record IsFields (fields : Fields) : Type 0 where
  pub salt_size : length fields.salt ≡ 8
  pub addr_size : length fields.addr ≡ 4
  pub time_fits : fields.time < 2 ^ 32
  pub ttl_fits : fields.ttl < 2 ^ 32
  pub uid_fits : fields.uid < 2 ^ 32
  pub gid_fits : fields.gid < 2 ^ 32
  pub for_uid_fits : fields.for_uid < 2 ^ 32
  pub for_gid_fits : fields.for_gid < 2 ^ 32
  pub size_fits : fields.size < 2 ^ 32

made : (salt : List ℕ) (mark : ℕ) (addr : List ℕ) (time ttl uid gid for_uid for_gid size : ℕ) (payload : List ℕ) → Fields
made salt mark addr time ttl uid gid for_uid for_gid size payload =
    record {
      salt = salt;
      mark = mark;
      addr = addr;
      time = time;
      ttl = ttl;
      uid = uid;
      gid = gid;
      for_uid = for_uid;
      for_gid = for_gid;
      size = size;
      payload = payload;
    }

made_of : (f : Fields) → f ≡ made f.salt f.mark f.addr f.time f.ttl f.uid f.gid f.for_uid f.for_gid f.size f.payload
unfolding made
made_of f = refl

record NumberParts (m n : ℕ) (x y : List ℕ) : Type 0 where
  pub number : m ≡ n
  pub behind : x ≡ y

number_apart : (m n : ℕ) (x y : List ℕ) → m < 2 ^ 32 → n < 2 ^ 32 → be32 m ++ x ≡ be32 n ++ y → NumberParts m n x y
number_apart m n x y m_fits n_fits same =
    let parts = apart (be32 m) (be32 n) x y refl same in
    record {
      number = sym (from_be_bytes-to_be_bytes_4 m m_fits) ∙ (ap (from_be_bytes w32) parts.front ∙ from_be_bytes-to_be_bytes_4 n n_fits);
      behind = parts.behind;
    }

-- the fields of an inner part are the only ones
pub laid_once : (a b : Fields) → IsFields a → IsFields b → laid a ≡ laid b → a ≡ b
laid_once a b fits_a fits_b same =
    let p1 = apart a.salt b.salt _ _ (fits_a.salt_size ∙ sym fits_b.salt_size) same in
    let mark : a.mark ≡ b.mark = cc p1.behind in
    let p2_behind : a.addr ++ _ ≡ b.addr ++ _ = ap (drop 1) p1.behind in
    let p2 = apart a.addr b.addr _ _ (fits_a.addr_size ∙ sym fits_b.addr_size) p2_behind in
    let time = number_apart a.time b.time _ _ fits_a.time_fits fits_b.time_fits p2.behind in
    let ttl = number_apart a.ttl b.ttl _ _ fits_a.ttl_fits fits_b.ttl_fits time.behind in
    let uid = number_apart a.uid b.uid _ _ fits_a.uid_fits fits_b.uid_fits ttl.behind in
    let gid = number_apart a.gid b.gid _ _ fits_a.gid_fits fits_b.gid_fits uid.behind in
    let for_uid = number_apart a.for_uid b.for_uid _ _ fits_a.for_uid_fits fits_b.for_uid_fits gid.behind in
    let for_gid = number_apart a.for_gid b.for_gid _ _ fits_a.for_gid_fits fits_b.for_gid_fits for_uid.behind in
    let size = number_apart a.size b.size _ _ fits_a.size_fits fits_b.size_fits for_gid.behind in
    let salt = p1.front in
    let addr = p2.front in
    let time_is = time.number in
    let ttl_is = ttl.number in
    let uid_is = uid.number in
    let gid_is = gid.number in
    let for_uid_is = for_uid.number in
    let for_gid_is = for_gid.number in
    let size_is = size.number in
    let payload = size.behind in
    let first = made_of a in
    let second = made_of b in
    cc

-- the fields of a content
abbrev pub fields_of : Content → Fields
fields_of content =
    record {
      salt = content.salt;
      mark = 4;
      addr = content.addr;
      time = content.time;
      ttl = content.ttl;
      uid = content.uid;
      gid = content.gid;
      for_uid = content.for_uid;
      for_gid = content.for_gid;
      size = length content.payload;
      payload = content.payload;
    }

pub laid-fields_of : (content : Content) → inner_part content ≡ laid (fields_of content)
laid-fields_of content = simp append_assoc

pub is_fields_of : (content : Content) → IsContent content → IsFields (fields_of content)
is_fields_of content fits =
    let within = fits.payload_within in
    record {
      salt_size = fits.salt_size;
      addr_size = fits.addr_size;
      time_fits = fits.time_fits;
      ttl_fits = fits.ttl_fits;
      uid_fits = fits.uid_fits;
      gid_fits = fits.gid_fits;
      for_uid_fits = fits.for_uid_fits;
      for_gid_fits = fits.for_gid_fits;
      size_fits = omega (arith, within);
    }

-- the content of fields, whose mark and size it leaves out
abbrev pub content_in : Fields → Content
content_in fields =
    record {
      salt = fields.salt;
      addr = fields.addr;
      time = fields.time;
      ttl = fields.ttl;
      uid = fields.uid;
      gid = fields.gid;
      for_uid = fields.for_uid;
      for_gid = fields.for_gid;
      payload = fields.payload;
    }

-- an inner part is that of one content
pub inner_part_once : (a b : Content) → IsContent a → IsContent b → inner_part a ≡ inner_part b → a ≡ b
inner_part_once a b fits_a fits_b same =
    ap content_in (laid_once (fields_of a) (fields_of b) (is_fields_of a fits_a) (is_fields_of b fits_b)
    (sym (laid-fields_of a) ∙ (same ∙ laid-fields_of b)))

-- an inner part is 41 bytes and the payload
pub inner_part_length : (content : Content) → IsContent content → length (inner_part content) ≡ 41 + length content.payload
inner_part_length content fits =
    let salt = fits.salt_size in
    let addr = fits.addr_size in
    simp length-append (omega arith)
