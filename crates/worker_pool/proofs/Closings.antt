-- All passes of the queue are taken back, and what is left is served.
use Rattle.std.proofs.Common.{◌≡◌, ℕ, ◌+◌, List, [], ◌∷◌, ◌++◌, length, map, reverse, get_or, zero, suc, Option, Some, None, sym, ap, ◌∙◌, refl, subst, arith, append_assoc}
use Rattle.std.specs.List.{All, sum_by}
use Rattle.std.specs.List.Sorted.{IsPermutation}
use Rattle.std.specs.Prelude.{flat_map}
use Rattle.std.proofs.lemmas.List.{append-nil, length-map, length-reverse, map-append, reverse-append, reverse-reverse}
use Rattle.std.proofs.lemmas.List.Elements.{All-cons, All-head, All-map, All-nil, All-pop, All-push, All-tail}
use Rattle.std.proofs.lemmas.List.Sums.{sum_by-cons}
use Rattle.std.proofs.lemmas.List.Concat.{flat_map-append, flat_map-cons}
use Rattle.std.proofs.lemmas.List.Sorted.{IsPermutation-append, IsPermutation-append_comm, IsPermutation-refl, IsPermutation-trans}
use Rattle.crossbeam_queue.specs.declared.array_queue.Doing.{Doing}
use Rattle.crossbeam_queue.specs.declared.array_queue.Slotted.{Slotted}
use Rattle.decode_rules.specs.declared.world.World.{World}
use Rattle.replay_gate.specs.PassState.{GateId}
use Rattle.worker_pool.specs.Cases.{Case, takens}
use Rattle.worker_pool.specs.Closing.{Career, ClosedUp, HasEndedSeat, IsCareer, taken_in}
use Rattle.worker_pool.specs.Desks.{DeskSight, HasWorked, IsNewDesk}
use Rattle.worker_pool.specs.Drains.{Drained}
use Rattle.worker_pool.specs.Holders.{IsNewLedger, parts_by, put_by, taken_by}
use Rattle.worker_pool.specs.Queue.{ledger}
use Rattle.worker_pool.specs.Seats.{EachServed, IsNewSeat}
use Rattle.worker_pool.specs.Single.{IsSingle}
use Rattle.worker_pool.specs.declared.desk.Desk.{Desk}
use Rattle.worker_pool.specs.declared.holders.Holder.{Holder}
use Rattle.worker_pool.specs.declared.post.Queued.{Queued}
use Rattle.worker_pool.specs.declared.queue.Ledger.{Ledger}
use Rattle.worker_pool.proofs.Desks.{single_still}
use Rattle.worker_pool.proofs.Gathers.{All-reverse}

-- ---- lists

pub map_map : {X Y Z : Type 0} (f : Y → Z) (g : X → Y) (xs : List X) → map f (map g xs) ≡ map (λ x. f (g x)) xs
map_map f g [] = refl
map_map f g (x ∷ xs) = ap (λ l. f (g x) ∷ l) (map_map f g xs)

pub map_reversed : {X Y : Type 0} (f : X → Y) (xs : List X) → map f (reverse xs) ≡ reverse (map f xs)
map_reversed f [] = refl
map_reversed f (x ∷ xs) =
    ap (map f) (reverse-append (x ∷ []) xs)
    ∙ (map-append f (reverse xs) (x ∷ []) ∙ (ap (λ l. l ++ f x ∷ []) (map_reversed f xs) ∙ sym (reverse-append (f x ∷ []) (map f xs))))

module _ {X T : Type 0} (f : X → List T) where
  pub flat_nothing : (xs : List X) → All (λ x. f x ≡ []) xs → flat_map f xs ≡ []
  flat_nothing [] all = refl
  flat_nothing (x ∷ xs) all =
      flat_map-cons f x xs ∙ (ap (λ l. l ++ flat_map f xs) (All-head (λ (x : X). f x ≡ []) x xs all) ∙ flat_nothing xs (All-tail (λ (x : X). f x ≡ []) x xs all))

  pub flat_snoc : (xs : List X) (x : X) → flat_map f (xs ++ x ∷ []) ≡ flat_map f xs ++ f x
  flat_snoc xs x = flat_map-append f xs (x ∷ []) ∙ ap (λ l. flat_map f xs ++ l) (flat_map-cons f x [] ∙ append-nil (f x))

  pub flat_of_map : {Z : Type 0} (g : Z → X) (zs : List Z) → flat_map f (map g zs) ≡ flat_map (λ z. f (g z)) zs
  flat_of_map g [] = refl
  flat_of_map g (z ∷ zs) =
      flat_map-cons f (g z) (map g zs) ∙ (ap (λ l. f (g z) ++ l) (flat_of_map g zs) ∙ sym (flat_map-cons (λ (z : _). f (g z)) z zs))

  -- in another order the same is there
  pub flat_reversed : (xs : List X) → IsPermutation (flat_map f xs) (flat_map f (reverse xs))
  flat_reversed [] = IsPermutation-refl []
  flat_reversed (x ∷ xs) =
      let last : flat_map f (reverse (x ∷ xs)) ≡ flat_map f (reverse xs) ++ f x =
      ap (flat_map f) (reverse-append (x ∷ []) xs) ∙ flat_snoc (reverse xs) x in
      subst (λ l. IsPermutation l (flat_map f (reverse (x ∷ xs)))) (sym (flat_map-cons f x xs))
      (subst (IsPermutation (f x ++ flat_map f xs)) (sym last)
      (IsPermutation-trans (f x ++ flat_map f xs) (f x ++ flat_map f (reverse xs)) (flat_map f (reverse xs) ++ f x)
      (IsPermutation-append (f x) (f x) (flat_map f xs) (flat_map f (reverse xs)) (IsPermutation-refl (f x)) (flat_reversed xs))
      (IsPermutation-append_comm (f x) (flat_map f (reverse xs)))))

pub sum_ones : {X : Type 0} (f : X → ℕ) (xs : List X) → All (λ x. f x ≡ 1) xs → sum_by f xs ≡ length xs
sum_ones f [] all = refl
sum_ones f (x ∷ xs) all =
    let a = sum_by-cons f x xs in
    let b = All-head (λ (x : _). f x ≡ 1) x xs all in
    let c = sum_ones f xs (All-tail (λ (x : _). f x ≡ 1) x xs all) in omega arith

map_nil : {X Y : Type 0} (f : X → Y) (xs : List X) → map f xs ≡ [] → xs ≡ []
map_nil f [] e = refl
map_nil f (x ∷ xs) e = absurd (cc)

pub split_map : {X Y : Type 0} (f : X → Y) (xs : List X) (rest : List Y) (y : Y) → map f xs ≡ rest ++ y ∷ []
    → (ys : List X) × (x : X) × (xs ≡ ys ++ x ∷ []) × (map f ys ≡ rest) × (f x ≡ y)
split_map f [] [] y e = absurd (cc)
split_map f [] (r ∷ rs) y e = absurd (cc)
split_map f (x ∷ xs) [] y e =
    let none : map f xs ≡ [] = cc in
    let is : f x ≡ y = cc in ([], x, ap (λ l. x ∷ l) (map_nil f xs none), refl, is)
split_map f (x ∷ xs) (r ∷ rs) y e =
    let others : map f xs ≡ rs ++ y ∷ [] = cc in
    let first : f x ≡ r = cc in
    let h = split_map f xs rs y others in
    let front : f x ∷ map f h.0 ≡ r ∷ rs = ap (λ z. z ∷ map f h.0) first ∙ ap (λ l. r ∷ l) h.3 in (x ∷ h.0, h.1, ap (λ l. x ∷ l) h.2, front, h.4)

-- ---- the passes

module _ {T D S : Type 0} (v0 v1 v2 : Ledger T) (posts : List (Holder T D)) (desks : List (Holder T S))
    (first : v1 ≡ ledger (v0.parts + sum_by parts_by posts) (v0.put ++ flat_map put_by posts) (v0.taken ++ flat_map taken_by posts))
    (second : v2 ≡ ledger (v1.parts + sum_by parts_by desks) (v1.put ++ flat_map put_by desks) (v1.taken ++ flat_map taken_by desks)) where
  pub all_parts : All (λ h. parts_by h ≡ 1) posts → All (λ h. parts_by h ≡ 1) desks → v2.parts ≡ v0.parts + length posts + length desks
  all_parts a b =
      let x = ap (λ (v : Ledger T). v.parts) first in
      let y = ap (λ (v : Ledger T). v.parts) second in
      let s = sum_ones parts_by posts a in
      let t = sum_ones parts_by desks b in omega arith

  pub all_put : v0.put ≡ [] → All (λ h. put_by h ≡ []) desks → v2.put ≡ flat_map put_by posts
  all_put none b =
      ap (λ (v : Ledger T). v.put) second
      ∙ (ap (λ l. v1.put ++ l) (flat_nothing put_by desks b) ∙ (append-nil v1.put ∙ (ap (λ (v : Ledger T). v.put) first ∙ ap (λ l. l ++ flat_map put_by posts) none)))

  pub all_taken : v0.taken ≡ [] → All (λ h. taken_by h ≡ []) posts → v2.taken ≡ flat_map taken_by desks
  all_taken none a =
      ap (λ (v : Ledger T). v.taken) second
      ∙ ap (λ l. l ++ flat_map taken_by desks)
      (ap (λ (v : Ledger T). v.taken) first ∙ (ap (λ l. v0.taken ++ l) (flat_nothing taken_by posts a) ∙ (append-nil v0.taken ∙ none)))

-- ---- careers

module _ {L C B Q A : Type 0} (sight : DeskSight L C B) (world : World) (gate : GateId)
    (queue : Slotted (Option (Queued L)) (Doing (Queued L) (Ledger (Queued L))) Q A) where
  -- what seats were and what they are, as careers
  record Careers (old new : List (Holder (Queued L) (Desk C B))) : Type 0 where
    careers : List (Career L C B)
    firsts : map (λ w. w.first) careers ≡ map (λ h. h.state) old
    lasts : map (λ w. w.last) careers ≡ map (λ h. h.state) new
    worked : All (IsCareer sight world) careers
    taken : flat_map taken_in careers ≡ flat_map taken_by new

  careers_of : (old new : List (Holder (Queued L) (Desk C B))) → length new ≡ length old → EachServed sight world queue old new → Careers old new
  careers_of [] [] same each = record { careers = []; firsts = refl; lasts = refl; worked = All-nil (IsCareer sight world); taken = refl }
  careers_of [] (n ∷ new) same each = absurd (omega arith)
  careers_of (o ∷ old) [] same each = absurd (omega arith)
  careers_of (o ∷ old) (n ∷ new) same each =
      let mine = each 0 o (omega arith) in
      let rest = careers_of old new (omega arith) (λ k h within. each (suc k) h (omega arith)) in
      let career : Career L C B = record { first = o.state; cases = mine.cases; last = n.state } in record {
        careers = career ∷ rest.careers;
        firsts = ap (λ l. o.state ∷ l) rest.firsts;
        lasts = ap (λ l. n.state ∷ l) rest.lasts;
        worked = All-cons (IsCareer sight world) career rest.careers mine.worked rest.worked;
        taken = flat_map-cons taken_in career rest.careers
            ∙ (ap (λ l. l ++ flat_map taken_in rest.careers) (sym mine.taken_are) ∙ (ap (λ l. taken_by n ++ l) rest.taken ∙ sym (flat_map-cons taken_by n new)));
      }

  -- in the order in which they were begun, the last one having served what was left
  pub closed_up : (puts : List (Queued L)) (old new : List (Holder (Queued L) (Desk C B))) (rest : List (Desk C B)) (last after : Desk C B)
      (left : List (Queued L)) (v : Ledger (Queued L)) → length new ≡ length old → All (IsNewSeat sight gate queue) old → EachServed sight world queue old new
      → map (λ h. h.state) (reverse new) ≡ rest ++ last ∷ [] → v.put ≡ puts → v.taken ≡ flat_map taken_by (reverse new)
      → Drained sight world gate v last after left → ClosedUp sight world puts (map (λ h. h.state) (reverse old)) (rest ++ after ∷ []) left
  closed_up puts old new rest last after left v same began each states put taken drained =
      let was : Holder (Queued L) (Desk C B) → Desk C B = λ h. h.state in
      let first : Career L C B → Desk C B = λ w. w.first in
      let end : Career L C B → Desk C B = λ w. w.last in
      let both = careers_of old new same each in
      let before : List (Career L C B) = reverse both.careers in
      let firsts : map first before ≡ map was (reverse old) =
      map_reversed first both.careers ∙ (ap reverse both.firsts ∙ sym (map_reversed was old)) in
      let lasts : map end before ≡ rest ++ last ∷ [] =
      map_reversed end both.careers ∙ (ap reverse both.lasts ∙ (sym (map_reversed was new) ∙ states)) in
      let s = split_map end before rest last lasts in
      let ys : List (Career L C B) = s.0 in
      let z : Career L C B = s.1 in
      let now : Career L C B = record { first = z.first; cases = z.cases ++ drained.more; last = after } in
      let worked = All-pop (IsCareer sight world) before ys (Some z) s.2 (All-reverse (IsCareer sight world) both.careers both.worked) in
      let z_worked : HasWorked sight world z.first last z.cases = subst (λ (d : Desk C B). HasWorked sight world z.first d z.cases) s.4 worked.1 in
      let z_single : IsSingle gate z.first.pass =
      (let singles : All (λ (d : Desk C B). IsSingle gate d.pass) (map was (reverse old)) =
      All-map (λ (d : Desk C B). IsSingle gate d.pass) was (reverse old) (λ k h within. (All-reverse (IsNewSeat sight gate queue) old began k h within).desk.single) in
      let at : map was (reverse old) ≡ map first ys ++ z.first ∷ [] = sym firsts ∙ (ap (map first) s.2 ∙ map-append first ys (z ∷ [])) in
      (All-pop (λ (d : Desk C B). IsSingle gate d.pass) (map was (reverse old)) (map first ys) (Some z.first) at singles).1) in
      let flat_before : flat_map taken_in before ≡ flat_map taken_in ys ++ taken_in z = ap (flat_map taken_in) s.2 ∙ flat_snoc taken_in ys z in
      let more : taken_in now ≡ taken_in z ++ takens drained.more = map-append (λ (c : Case L). c.taken) z.cases drained.more in
      let flat_after : flat_map taken_in (ys ++ now ∷ []) ≡ (flat_map taken_in ys ++ taken_in z) ++ takens drained.more =
      flat_snoc taken_in ys now ∙ (ap (λ l. flat_map taken_in ys ++ l) more ∙ sym (append_assoc (flat_map taken_in ys) (taken_in z) (takens drained.more))) in
      let all_taken : IsPermutation v.taken (flat_map taken_in before) =
      subst (λ l. IsPermutation l (flat_map taken_in before)) (sym (taken ∙ refl))
      (IsPermutation-trans (flat_map taken_by (reverse new)) (flat_map taken_by new) (flat_map taken_in before)
      (reversed_back new)
      (subst (λ l. IsPermutation l (flat_map taken_in before)) both.taken (flat_reversed taken_in both.careers))) in
      record {
        careers = ys ++ now ∷ [];
        firsts_are = map-append first ys (now ∷ []) ∙ (sym (map-append first ys (z ∷ [])) ∙ (ap (map first) (sym s.2) ∙ firsts));
        lasts_are = map-append end ys (now ∷ []) ∙ ap (λ l. l ++ after ∷ []) s.3;
        worked = All-push (IsCareer sight world) ys now worked.0 (drained.serves z.first z.cases z_single z_worked);
        same =
            subst (λ l. IsPermutation l (flat_map taken_in (ys ++ now ∷ []) ++ left)) put
            (IsPermutation-trans v.put ((v.taken ++ takens drained.more) ++ left) (flat_map taken_in (ys ++ now ∷ []) ++ left) drained.same
            (IsPermutation-append (v.taken ++ takens drained.more) (flat_map taken_in (ys ++ now ∷ [])) left left
            (subst (IsPermutation (v.taken ++ takens drained.more)) (sym flat_after)
            (IsPermutation-append v.taken (flat_map taken_in ys ++ taken_in z) (takens drained.more) (takens drained.more)
            (subst (IsPermutation v.taken) flat_before all_taken) (IsPermutation-refl (takens drained.more))))
            (IsPermutation-refl left)));
        left_empty = λ none. drained.left_empty (All-pop (λ (d : Desk C B). d.worn ≡ None) (rest ++ after ∷ []) rest (Some after) refl none).1;
      }
    where
      reversed_back : (xs : List (Holder (Queued L) (Desk C B))) → IsPermutation (flat_map taken_by (reverse xs)) (flat_map taken_by xs)
      reversed_back xs = subst (λ l. IsPermutation (flat_map taken_by (reverse xs)) (flat_map taken_by l)) (reverse-reverse xs) (flat_reversed taken_by (reverse xs))

-- ---- before all begin

All-unmap : {X Y : Type 0} (P : Y → Type 0) (f : X → Y) (xs : List X) → All P (map f xs) → All (λ x. P (f x)) xs
All-unmap P f [] all k d within = absurd (omega arith)
All-unmap P f (x ∷ xs) all zero d within = All-head P (f x) (map f xs) all
All-unmap P f (x ∷ xs) all (suc k) d within = All-unmap P f xs (All-tail P (f x) (map f xs) all) k d (omega arith)

pub new_seats : {L C B Q A : Type 0} (sight : DeskSight L C B) (gate : GateId) (queue : Slotted (Option (Queued L)) (Doing (Queued L) (Ledger (Queued L))) Q A)
    (seats : List (Holder (Queued L) (Desk C B))) (desks : List (Desk C B)) → All (IsNewLedger queue) seats → map (λ h. h.state) (reverse seats) ≡ desks
    → All (IsNewDesk sight gate) desks → All (IsNewSeat sight gate queue) seats
new_seats {L} {C} {B} sight gate queue seats desks new states fresh =
    let f : Holder (Queued L) (Desk C B) → Desk C B = λ h. h.state in
    let back = All-unmap (IsNewDesk sight gate) f (reverse seats) (subst (All (IsNewDesk sight gate)) (sym states) fresh) in
    let twice = All-reverse (λ h. IsNewDesk sight gate (f h)) (reverse seats) back in
    let all : All (λ h. IsNewDesk sight gate (f h)) seats = subst (All (λ h. IsNewDesk sight gate (f h))) (reverse-reverse seats) twice in
    λ k h within. record { ledger = new k h within; desk = all k h within }

-- ---- after all have ended

pub seats_ended : {L C B Q A : Type 0} (sight : DeskSight L C B) (world : World) (gate : GateId)
    (queue : Slotted (Option (Queued L)) (Doing (Queued L) (Ledger (Queued L))) Q A) (old new : List (Holder (Queued L) (Desk C B)))
    → length new ≡ length old → All (IsNewSeat sight gate queue) old → EachServed sight world queue old new → All (HasEndedSeat gate queue) new
seats_ended sight world gate queue old new same began each k h within =
    let was = began k h (omega arith) in
    let is = each k h (omega arith) in record {
      of_queue = is.of_queue;
      one_part = is.one_part;
      none_put = is.none_put;
      single = single_still gate (get_or old k h).state.pass (get_or new k h).state.pass was.desk.single is.worked.pass;
    }

-- a career's pass at its end
pub career_single : {L C B : Type 0} (sight : DeskSight L C B) (world : World) (gate : GateId) (career : Career L C B) → IsSingle gate career.first.pass
    → IsCareer sight world career → IsSingle gate career.last.pass
career_single sight world gate career single worked = single_still gate career.first.pass career.last.pass single worked.pass

pub lasts_single : {L C B : Type 0} (sight : DeskSight L C B) (world : World) (gate : GateId) (puts : List (Queued L)) (firsts lasts : List (Desk C B)) (left : List (Queued L))
    → All (IsNewDesk sight gate) firsts → ClosedUp sight world puts firsts lasts left → All (λ d. IsSingle gate d.pass) lasts
lasts_single {L} {C} {B} sight world gate puts firsts lasts left new closed =
    let first : Career L C B → Desk C B = λ w. w.first in
    let last : Career L C B → Desk C B = λ w. w.last in
    let began = All-unmap (IsNewDesk sight gate) first closed.careers (subst (All (IsNewDesk sight gate)) (sym closed.firsts_are) new) in
    let P : Desk C B → Type 0 = λ d. IsSingle gate d.pass in
    subst (All P) closed.lasts_are
    (All-map P last closed.careers (λ k d within. career_single sight world gate (get_or closed.careers k d) (began k d within).single (closed.worked k d within)))

pub as_many : {X Y : Type 0} (f : X → Y) (xs : List X) (ys : List Y) → map f (reverse xs) ≡ ys → length ys ≡ length xs
as_many f xs ys is =
    let a = length-map (reverse xs) f in
    let b = length-reverse xs in
    let c = ap length is in omega arith
