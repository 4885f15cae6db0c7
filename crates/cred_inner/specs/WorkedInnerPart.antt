-- A worked inner part, which the checker computes: `hello`, sealed on the host 10.11.12.13, and for
-- anyone of one group. Its bytes were written out by hand from the table of the layout.
use Rattle.std.specs.Prelude.{◌≡◌, [], ◌∷◌, codes, refl}
use Rattle.cred_inner.specs.InnerPart.{Content, any, inner_part}

abbrev pub worked_content : Content
worked_content =
    record {
      salt = 0x01 ∷ 0x02 ∷ 0x03 ∷ 0x04 ∷ 0x05 ∷ 0x06 ∷ 0x07 ∷ 0x08 ∷ [];
      addr = 10 ∷ 11 ∷ 12 ∷ 13 ∷ [];
      time = 0x11223344;
      ttl = 300;
      uid = 1000;
      gid = 0x01020304;
      for_uid = any;
      for_gid = 65536;
      payload = codes "hello";
    }

-- row by row: salt, address behind its length, encode time, time to live, UID, GID, restricted UID,
-- restricted GID, the payload's length, the payload
pub laid_out : inner_part worked_content ≡
    0x01 ∷ 0x02 ∷ 0x03 ∷ 0x04 ∷ 0x05 ∷ 0x06 ∷ 0x07 ∷ 0x08
    ∷ 0x04 ∷ 0x0a ∷ 0x0b ∷ 0x0c ∷ 0x0d
    ∷ 0x11 ∷ 0x22 ∷ 0x33 ∷ 0x44
    ∷ 0x00 ∷ 0x00 ∷ 0x01 ∷ 0x2c
    ∷ 0x00 ∷ 0x00 ∷ 0x03 ∷ 0xe8
    ∷ 0x01 ∷ 0x02 ∷ 0x03 ∷ 0x04
    ∷ 0xff ∷ 0xff ∷ 0xff ∷ 0xff
    ∷ 0x00 ∷ 0x01 ∷ 0x00 ∷ 0x00
    ∷ 0x00 ∷ 0x00 ∷ 0x00 ∷ 0x05
    ∷ 0x68 ∷ 0x65 ∷ 0x6c ∷ 0x6c ∷ 0x6f ∷ []
laid_out = refl
