-- Fixed fields, written one after another.
use Rattle.std.proofs.Common.{◌≡◌, ℕ, List, [], ◌∷◌, ◌++◌, length, take, arith}
use Rattle.std.proofs.lemmas.List.{append_assoc, take_all}
use Rattle.munge_types.specs.BigEndian.{be32}
use Rattle.wire_msg.specs.Spelling.{ask_head, content_head}
use Rattle.wire_msg.specs.declared.message.ContentFields.{ContentFields}
use Rattle.wire_msg.specs.declared.message.EncodeAsk.{EncodeAsk}

-- each field was put behind those before it
pub content_whole : (fields : ContentFields) (h1 h2 h3 h4 h5 h6 h7 h8 : List ℕ) → length h8 ≡ 30
    → take 2 h1 ≡ fields.cipher ∷ fields.kind ∷ [] → take 6 h2 ≡ take 2 h1 ++ fields.addr
    → take 10 h3 ≡ take 6 h2 ++ be32 fields.time → take 14 h4 ≡ take 10 h3 ++ be32 fields.ttl
    → take 18 h5 ≡ take 14 h4 ++ be32 fields.uid → take 22 h6 ≡ take 18 h5 ++ be32 fields.gid
    → take 26 h7 ≡ take 22 h6 ++ be32 fields.for_uid → take 30 h8 ≡ take 26 h7 ++ be32 fields.for_gid
    → h8 ≡ content_head fields
content_whole fields h1 h2 h3 h4 h5 h6 h7 h8 size e1 e2 e3 e4 e5 e6 e7 e8 =
    let all : take 30 h8 ≡ h8 = take_all 30 h8 (omega (arith, size)) in
    rw (← all, e8, e7, e6, e5, e4, e3, e2, e1) (simp append_assoc)

pub ask_whole : (ask : EncodeAsk) (h1 h2 h3 h4 : List ℕ) → length h4 ≡ 14 → take 2 h1 ≡ ask.cipher ∷ ask.kind ∷ []
    → take 6 h2 ≡ take 2 h1 ++ be32 ask.ttl → take 10 h3 ≡ take 6 h2 ++ be32 ask.for_uid
    → take 14 h4 ≡ take 10 h3 ++ be32 ask.for_gid → h4 ≡ ask_head ask
ask_whole ask h1 h2 h3 h4 size e1 e2 e3 e4 =
    let all : take 14 h4 ≡ h4 = take_all 14 h4 (omega (arith, size)) in
    rw (← all, e4, e3, e2, e1) (simp append_assoc)
