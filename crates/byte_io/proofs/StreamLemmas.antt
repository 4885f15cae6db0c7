-- Lemmas on bytes that are read or written in several steps, for the callers of sources and sinks.
use Rattle.std.proofs.Common.{◌≡◌, ℕ, ◌+◌, ◌≤◌, List, ◌++◌, length, take, drop, Option, sym, ap, ◌∙◌, length-take-le}
use Rattle.std.proofs.Math.Seq.{take-add, take-append-add}
use Rattle.std.proofs.lemmas.List.{take-append-le, take-take}
use Rattle.std.proofs.KnownBytes.{Consumes-trans, Appends-trans}
use Rattle.std.specs.Io.KnownBytes.{Consumes, Appends}
use borrow.Rule.Slice.PartMut.{put_mid, post_of}

-- what two reads consumed, one after the other
pub consumes_more : (a b c : Option (List ℕ)) (bs cs : List ℕ) → Consumes a b bs → Consumes b c cs → Consumes a c (bs ++ cs)
consumes_more a b c bs cs first second = Consumes-trans a b c bs cs first second

-- what two writes appended, one after the other
pub appends_more : (a b c : Option (List ℕ)) (bs cs : List ℕ) → Appends a b bs → Appends b c cs → Appends a c (bs ++ cs)
appends_more a b c bs cs first second = Appends-trans a b c bs cs first second

-- the front of a buffer grows by the n bytes that were read into its rest
pub take-put_mid_more : (at k n : ℕ) (buffer part : List ℕ) → at ≤ length buffer → n ≤ length part
    → take (at + n) (put_mid at k buffer part) ≡ take at buffer ++ take n part
take-put_mid_more at k n buffer part within fits =
    let rest = post_of at k buffer in
    ap (λ m. take (m + n) (put_mid at k buffer part)) (sym (length-take-le at buffer within))
    ∙ take-append-add (take at buffer) (part ++ rest) n
    ∙ ap (λ l. take at buffer ++ l) (take-append-le n part rest fits)

-- the front of a text grows by the first n bytes of its rest
pub take-rest_more : (at k n : ℕ) (text : List ℕ) → n ≤ k
    → take (at + n) text ≡ take at text ++ take n (take k (drop at text))
take-rest_more at k n text fits =
    take-add at n text ∙ ap (λ l. take at text ++ l) (sym (take-take n k (drop at text) fits))
