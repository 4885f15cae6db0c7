-- What a credential says, and how it is laid out before it is sealed.
use Rattle.std.specs.Prelude.{◌≡◌, ℕ, ◌<◌, ◌≤◌, ◌^◌, List, ◌∷◌, ◌++◌, length}
use Rattle.munge_types.specs.Bytes.{IsBytes}
use Rattle.munge_types.specs.BigEndian.{be32}

-- what a credential says
pub record Content : Type 0 where
  pub salt : List ℕ
  -- the IPv4 address of the host that sealed
  pub addr : List ℕ
  -- when it was sealed, in seconds since 1970
  pub time : ℕ
  -- the seconds for which it is good
  pub ttl : ℕ
  -- who asked for it
  pub uid : ℕ
  pub gid : ℕ
  -- who alone may open it, or `any`
  pub for_uid : ℕ
  pub for_gid : ℕ
  pub payload : List ℕ

-- the UID and the GID of a credential that anyone may open
abbrev pub any : ℕ
any = 4294967295

-- the most bytes of a payload
abbrev pub payload_limit : ℕ
payload_limit = 1048576

-- the fields fit where they are laid out
pub record IsContent (content : Content) : Type 0 where
  pub salt_size : length content.salt ≡ 8
  pub salt_bytes : IsBytes content.salt
  pub addr_size : length content.addr ≡ 4
  pub addr_bytes : IsBytes content.addr
  pub time_fits : content.time < 2 ^ 32
  pub ttl_fits : content.ttl < 2 ^ 32
  pub uid_fits : content.uid < 2 ^ 32
  pub gid_fits : content.gid < 2 ^ 32
  pub for_uid_fits : content.for_uid < 2 ^ 32
  pub for_gid_fits : content.for_gid < 2 ^ 32
  pub payload_within : length content.payload ≤ payload_limit
  pub payload_bytes : IsBytes content.payload

-- the seven numbers of a content, the payload's length among them
abbrev pub numbers : Content → List ℕ
numbers content =
    be32 content.time ++ (be32 content.ttl ++ (be32 content.uid ++ (be32 content.gid
    ++ (be32 content.for_uid ++ (be32 content.for_gid ++ be32 (length content.payload))))))

-- the inner part: the salt, the address behind its length, the numbers, and the payload to the end
abbrev pub inner_part : Content → List ℕ
inner_part content = content.salt ++ (4 ∷ (content.addr ++ (numbers content ++ content.payload)))
