-- A frame that goes on with the next bytes of a piece.
use Rattle.std.proofs.Common.{◌≡◌, ℕ, ◌+◌, ◌-◌, ◌≤◌, ◌<◌, min, List, ◌++◌, length, take, drop, refl, sym, ap, ◌∙◌, arith}
use Rattle.std.proofs.lemmas.List.{append_assoc, length-append, length-take, length-drop, take-append-drop, take-take, drop-take, take_all}
use Rattle.wire_msg.specs.FrameHead.{message_head}
use Rattle.wire_msg.specs.declared.kind.Kind.{Kind}

-- what is left of a piece
abbrev pub left : (piece : List ℕ) (taken : ℕ) → List ℕ
left piece taken = take (length piece - taken) (drop taken piece)

pub left_is : (piece : List ℕ) (taken : ℕ) → left piece taken ≡ drop taken piece
left_is piece taken = take_all (length piece - taken) (drop taken piece) (simp length-drop (omega arith))

pub take_sum : (piece : List ℕ) (n m : ℕ) → take (n + m) piece ≡ take n piece ++ take m (drop n piece)
take_sum piece n m =
    sym (take-append-drop n (take (n + m) piece))
    ∙ (rw (take-take n (n + m) piece (omega arith), drop-take n m piece) refl)

-- the body took so many bytes more
pub record Went (kind : Kind) (size : ℕ) (body : List ℕ) (kind' : Kind) (size' : ℕ) (body' piece : List ℕ) (taken count missing missing' : ℕ) : Type 0 where
  pub kind_is : kind' ≡ kind
  pub size_is : size' ≡ size
  pub body_is : body' ≡ body ++ take count (left piece taken)
  pub count_is : count ≡ min missing (length (left piece taken))
  pub missed : length body + missing ≡ size
  pub misses : length body' + missing' ≡ size'
  pub within : taken ≤ length piece

pub went_on : (kind : Kind) (size : ℕ) (body : List ℕ) (kind' : Kind) (size' : ℕ) (body' piece : List ℕ) (taken count missing missing' : ℕ)
    → Went kind size body kind' size' body' piece taken count missing missing' → (unfinished : List ℕ)
    → message_head kind size ++ body ≡ unfinished ++ take taken piece
    → message_head kind' size' ++ body' ≡ unfinished ++ take (taken + count) piece
went_on kind size body kind' size' body' piece taken count missing missing' went unfinished same =
    let rest = left_is piece taken in
    let sum = take_sum piece taken count in
    let grown : message_head kind size ++ (body ++ take count (drop taken piece)) ≡ unfinished ++ take (taken + count) piece =
    sym (append_assoc (message_head kind size) body (take count (drop taken piece)))
    ∙ (ap (λ (l : List ℕ). l ++ take count (drop taken piece)) same
    ∙ (append_assoc unfinished (take taken piece) (take count (drop taken piece)) ∙ ap (λ (l : List ℕ). unfinished ++ l) (sym sum))) in
    let body_is : body' ≡ body ++ take count (drop taken piece) = rw rest at went.body_is in
    rw (went.kind_is, went.size_is, body_is) grown

-- within the piece
pub went_within : (kind : Kind) (size : ℕ) (body : List ℕ) (kind' : Kind) (size' : ℕ) (body' piece : List ℕ) (taken count missing missing' : ℕ)
    → Went kind size body kind' size' body' piece taken count missing missing' → taken + count ≤ length piece
went_within kind size body kind' size' body' piece taken count missing missing' went =
    let count_is = went.count_is in
    let within = went.within in
    let rest : length (left piece taken) ≡ length piece - taken = ap length (left_is piece taken) ∙ length-drop taken piece in
    omega (arith, rest)

-- where bytes are still missing, the whole piece was taken
pub went_all : (kind : Kind) (size : ℕ) (body : List ℕ) (kind' : Kind) (size' : ℕ) (body' piece : List ℕ) (taken count missing missing' : ℕ)
    → Went kind size body kind' size' body' piece taken count missing missing' → 0 < missing' → taken + count ≡ length piece
went_all kind size body kind' size' body' piece taken count missing missing' went more =
    let body_is = went.body_is in
    let count_is = went.count_is in
    let missed = went.missed in
    let misses = went.misses in
    let size_is = went.size_is in
    let within = went.within in
    let lengths = ap length went.body_is in
    let rest : length (left piece taken) ≡ length piece - taken = ap length (left_is piece taken) ∙ length-drop taken piece in
    let front : length (take count (left piece taken)) ≡ min count (length (left piece taken)) = length-take count (left piece taken) in
    omega (arith, lengths, rest, front, length-append body (take count (left piece taken)))

-- so these are all bytes that came
pub went_more : (kind : Kind) (size : ℕ) (body : List ℕ) (kind' : Kind) (size' : ℕ) (body' piece : List ℕ) (taken count missing missing' : ℕ)
    → Went kind size body kind' size' body' piece taken count missing missing' → 0 < missing' → (unfinished : List ℕ)
    → message_head kind size ++ body ≡ unfinished ++ take taken piece → message_head kind' size' ++ body' ≡ unfinished ++ piece
went_more kind size body kind' size' body' piece taken count missing missing' went more unfinished same =
    let all = went_all kind size body kind' size' body' piece taken count missing missing' went more in
    let whole = take_all (taken + count) piece (omega (arith, all)) in
    rw whole at (went_on kind size body kind' size' body' piece taken count missing missing' went unfinished same)
