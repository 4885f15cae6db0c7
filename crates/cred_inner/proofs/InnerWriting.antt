-- The fields of an inner part, written one after another in front of its payload.
use Rattle.std.proofs.Common.{◌≡◌, ℕ, List, [], ◌∷◌, ◌++◌, length, take, sym, ap, ◌∙◌, arith}
use Rattle.std.proofs.lemmas.List.{append_assoc, take_all}
use Rattle.std.proofs.Math.Seq.{take-append_seam}
use Rattle.munge_types.specs.BigEndian.{be32}
use Rattle.cred_inner.specs.InnerPart.{Content, inner_part}

-- each of the ten fields was put behind those before it
pub head_whole : (content : Content) (h1 h2 h3 h4 h5 h6 h7 h8 h9 h10 : List ℕ) → length h10 ≡ 41
    → take 8 h1 ≡ content.salt → take 9 h2 ≡ take 8 h1 ++ (4 ∷ []) → take 13 h3 ≡ take 9 h2 ++ content.addr
    → take 17 h4 ≡ take 13 h3 ++ be32 content.time → take 21 h5 ≡ take 17 h4 ++ be32 content.ttl
    → take 25 h6 ≡ take 21 h5 ++ be32 content.uid → take 29 h7 ≡ take 25 h6 ++ be32 content.gid
    → take 33 h8 ≡ take 29 h7 ++ be32 content.for_uid → take 37 h9 ≡ take 33 h8 ++ be32 content.for_gid
    → take 41 h10 ≡ take 37 h9 ++ be32 (length content.payload) → h10 ++ content.payload ≡ inner_part content
head_whole content h1 h2 h3 h4 h5 h6 h7 h8 h9 h10 size e1 e2 e3 e4 e5 e6 e7 e8 e9 e10 =
    let all : take 41 h10 ≡ h10 = take_all 41 h10 (omega (arith, size)) in
    rw (← all, e10, e9, e8, e7, e6, e5, e4, e3, e2, e1) (simp append_assoc)

-- what is in front of the payload is the first 41 bytes
pub head_first : (content : Content) (head : List ℕ) → length head ≡ 41 → head ++ content.payload ≡ inner_part content
    → head ≡ take 41 (inner_part content)
head_first content head size whole =
    sym (rw size at (take-append_seam head content.payload)) ∙ ap (λ (l : List ℕ). take 41 l) whole
