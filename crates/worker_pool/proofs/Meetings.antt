-- Workers' passes meet that of the purger.
use Rattle.std.proofs.Common.{◌≡◌, ℕ, ◌+◌, ◌-◌, ◌≤◌, ◌^◌, nat_eq, Bool, true, false, ◌||◌, List, [], ◌∷◌, ◌++◌, length, map, reverse, Option, Some, sym, ap, ◌∙◌, refl, subst, arith, append_assoc, length-append}
use Rattle.std.specs.List.{All, sum_by}
use Rattle.std.proofs.Math.Bool.{or-true}
use Rattle.std.proofs.lemmas.Bool.{true≢false}
use Rattle.std.proofs.lemmas.Bool.Decides.{Decides-eqb}
use Rattle.std.proofs.lemmas.List.{append-nil, reverse-append}
use Rattle.std.proofs.lemmas.List.Elements.{All-cons, All-nil, All-pop, All-weaker}
use Rattle.std.proofs.lemmas.List.Folds.{list_any-append}
use Rattle.std.proofs.lemmas.List.Sums.{sum_by_push}
use Rattle.munge_types.specs.declared.history.Event.{Event}
use Rattle.replay_gate.specs.GoesOn.{GoesOn}
use Rattle.replay_gate.specs.Makers.{AreApart, IsOf, any_by, is_of, maker}
use Rattle.replay_gate.specs.Meets.{Meets}
use Rattle.replay_gate.specs.PassState.{GateId, PassState}
use Rattle.worker_pool.specs.Desks.{later_of}
use Rattle.worker_pool.specs.Joining.{OnceEach}
use Rattle.worker_pool.specs.Meeting.{CountedAll, IsMetInto, latest}
use Rattle.worker_pool.specs.Single.{IsSingle, capped}
use Rattle.worker_pool.specs.Tallying.{CountedBoth}
use Rattle.worker_pool.specs.declared.desk.Desk.{Desk}
use Rattle.worker_pool.specs.declared.tally.Tally.{Tally}
use Rattle.worker_pool.proofs.Account.{neither}
use Rattle.worker_pool.proofs.Joins.{once_more}

-- ---- one pass

none_of_it : (numbers : List ℕ) (number : ℕ) (events : List Event) → IsOf numbers number → any_by numbers events ≡ false
    → any_by (number ∷ []) events ≡ false
none_of_it numbers number [] has none = refl
none_of_it numbers number (event ∷ events) has none =
    let parts = neither (is_of numbers (maker event)) (any_by numbers events) none in
    let rest = none_of_it numbers number events has parts.1 in
    let other : is_of (number ∷ []) (maker event) ≡ false = apart (nat_eq (maker event) number) (Decides-eqb (maker event) number).0 in
    ap (λ b. b || any_by (number ∷ []) events) other ∙ rest
  where
    apart : (b : Bool) → (b ≡ true → maker event ≡ number) → (b || false) ≡ false
    apart true same =
        let mine : is_of numbers (maker event) ≡ true = subst (λ n. is_of numbers n ≡ true) (sym (same refl)) has in
        absurd (true≢false (sym mine ∙ (neither (is_of numbers (maker event)) (any_by numbers events) none).0))
    apart false same = refl

of_front : (numbers others : List ℕ) (number : ℕ) → IsOf numbers number → IsOf (numbers ++ others) number
of_front numbers others number has =
    list_any-append (nat_eq number) numbers others ∙ ap (λ b. b || is_of others number) has

of_back : (numbers : List ℕ) (number : ℕ) → IsOf (numbers ++ number ∷ []) number
of_back numbers number =
    list_any-append (nat_eq number) numbers (number ∷ [])
    ∙ (ap (λ b. is_of numbers number || (b || false)) ((Decides-eqb number number).1 refl) ∙ or-true (is_of numbers number))

goes_on_twice : (number : ℕ) (seen longer longest : List Event) → GoesOn (number ∷ []) seen longer → GoesOn (number ∷ []) longer longest
    → GoesOn (number ∷ []) seen longest
goes_on_twice number seen longer longest first second = record {
  others = first.others ++ second.others;
  longer_is = second.longer_is ∙ (ap (λ l. l ++ second.others) first.longer_is ∙ append_assoc seen first.others second.others);
  of_others =
      list_any-append (λ (e : Event). is_of (number ∷ []) (maker e)) first.others second.others
      ∙ (ap (λ b. b || any_by (number ∷ []) second.others) first.of_others ∙ second.of_others);
}

pub met_alone : (gate : GateId) (home : PassState) → IsSingle gate home → IsMetInto home home
met_alone gate home single = record {
  of_all = subst (λ l. IsOf l home.number) (sym single.alone) (ap (λ b. b || false) ((Decides-eqb home.number home.number).1 refl));
  goes_on = record { others = []; longer_is = sym (append-nil home.seen); of_others = refl };
  not_below = omega arith;
}

-- one that had met before
pub met_still : (all second new pass : PassState) → Meets all second new → IsMetInto all pass → IsMetInto new pass
met_still all second new pass meets met =
    let on : GoesOn (pass.number ∷ []) all.seen new.seen = record {
      others = meets.first_goes_on.others;
      longer_is = meets.first_goes_on.longer_is;
      of_others = none_of_it all.numbers pass.number meets.first_goes_on.others met.of_all meets.first_goes_on.of_others;
    } in
    record {
      of_all = subst (λ l. IsOf l pass.number) (sym meets.numbers) (of_front all.numbers second.numbers pass.number met.of_all);
      goes_on = goes_on_twice pass.number pass.seen all.seen new.seen met.goes_on on;
      not_below = (let a = met.not_below in let b = meets.highest in omega arith);
    }

-- the one that meets now
pub met_now : (gate : GateId) (all second new : PassState) → IsSingle gate second → Meets all second new → IsMetInto new second
met_now gate all second new single meets = record {
  of_all = subst (λ l. IsOf l second.number) (sym (meets.numbers ∙ ap (λ l. all.numbers ++ l) single.alone)) (of_back all.numbers second.number);
  goes_on = subst (λ l. GoesOn l second.seen new.seen) single.alone meets.second_goes_on;
  not_below = (let b = meets.highest in omega arith);
}

-- ---- lists that are taken off the end

-- what stands behind what was handed on already is in order
pub handed_on : {X Y : Type 0} (f : X → Y) (handed : List Y) (xs rest : List X) (x : X) (all : List Y) → xs ≡ rest ++ x ∷ []
    → handed ++ map f (reverse xs) ≡ all → (handed ++ f x ∷ []) ++ map f (reverse rest) ≡ all
handed_on f handed xs rest x all split is =
    append_assoc handed (f x ∷ []) (map f (reverse rest))
    ∙ (ap (λ l. handed ++ map f l) (sym (reverse-append rest (x ∷ []))) ∙ (ap (λ l. handed ++ map f (reverse l)) (sym split) ∙ is))

pub latest_on : {X : Type 0} (f : X → Option ℕ) (worn : Option ℕ) (xs rest : List X) (x : X) (all : Option ℕ) → xs ≡ rest ++ x ∷ []
    → latest worn (map f (reverse xs)) ≡ all → latest (later_of worn (f x)) (map f (reverse rest)) ≡ all
latest_on f worn xs rest x all split is =
    ap (λ l. latest worn (map f l)) (sym (reverse-append rest (x ∷ []))) ∙ (ap (λ l. latest worn (map f (reverse l))) (sym split) ∙ is)

-- a count goes on
count_on : {C B : Type 0} (count : Desk C B → ℕ) (xs rest : List (Desk C B)) (x : Desk C B) (old new total : ℕ) → xs ≡ rest ++ x ∷ []
    → new ≡ capped (old + count x) → capped (old + sum_by count xs) ≡ total → capped (new + sum_by count rest) ≡ total
count_on count xs rest x old new total split more is =
    let a : sum_by count xs ≡ sum_by count rest + count x = ap (sum_by count) split ∙ sum_by_push count rest x in
    omega arith

-- what is counted so far, and what the others have counted, is what all have
pub record Counting {C B : Type 0} (all rest : List (Desk C B)) (tally : Tally) : Type 0 where
  pub presented : capped (tally.presented + sum_by (λ (d : Desk C B). d.tally.presented) rest) ≡ capped (sum_by (λ (d : Desk C B). d.tally.presented) all)
  pub accepted : capped (tally.accepted + sum_by (λ (d : Desk C B). d.tally.accepted) rest) ≡ capped (sum_by (λ (d : Desk C B). d.tally.accepted) all)
  pub replayed : capped (tally.replayed + sum_by (λ (d : Desk C B). d.tally.replayed) rest) ≡ capped (sum_by (λ (d : Desk C B). d.tally.replayed) all)
  pub expired : capped (tally.expired + sum_by (λ (d : Desk C B). d.tally.expired) rest) ≡ capped (sum_by (λ (d : Desk C B). d.tally.expired) all)
  pub small : (tally.presented ≤ 2 ^ 64 - 1) × (tally.accepted ≤ 2 ^ 64 - 1) × (tally.replayed ≤ 2 ^ 64 - 1) × (tally.expired ≤ 2 ^ 64 - 1)

pub counting_none : {C B : Type 0} (all : List (Desk C B)) (tally : Tally) → CountedAll {C = C} {B = B} [] tally → Counting all all tally
counting_none all tally none = record {
  presented = (let e = none.presented in omega arith);
  accepted = (let e = none.accepted in omega arith);
  replayed = (let e = none.replayed in omega arith);
  expired = (let e = none.expired in omega arith);
  small =
      (let a = none.presented in let b = none.accepted in let c = none.replayed in let d = none.expired in
      (omega arith, omega arith, omega arith, omega arith));
}

pub counting_on : {C B : Type 0} (all xs rest : List (Desk C B)) (x : Desk C B) (old new : Tally) → xs ≡ rest ++ x ∷ [] → CountedBoth old x.tally new
    → Counting all xs old → Counting all rest new
counting_on {C} {B} all xs rest x old new split both had = record {
  presented = count_on (λ (d : Desk C B). d.tally.presented) xs rest x old.presented new.presented _ split both.presented had.presented;
  accepted = count_on (λ (d : Desk C B). d.tally.accepted) xs rest x old.accepted new.accepted _ split both.accepted had.accepted;
  replayed = count_on (λ (d : Desk C B). d.tally.replayed) xs rest x old.replayed new.replayed _ split both.replayed had.replayed;
  expired = count_on (λ (d : Desk C B). d.tally.expired) xs rest x old.expired new.expired _ split both.expired had.expired;
  small =
      (let a = both.presented in let b = both.accepted in let c = both.replayed in let d = both.expired in
      (omega arith, omega arith, omega arith, omega arith));
}

pub counting_all : {C B : Type 0} (all rest : List (Desk C B)) (tally : Tally) → rest ≡ [] → Counting all rest tally → CountedAll all tally
counting_all {C} {B} all rest tally none had =
    let is : Counting all [] tally = subst (λ l. Counting all l tally) none had in record {
      presented = (let e = is.presented in let s = is.small.0 in omega arith);
      accepted = (let e = is.accepted in let s = is.small.1 in omega arith);
      replayed = (let e = is.replayed in let s = is.small.2 in omega arith);
      expired = (let e = is.expired in let s = is.small.3 in omega arith);
    }

-- ---- the whole

-- some workers are still to be met, and these were
pub record Gathering {C B : Type 0} (gate : GateId) (home : PassState) (desks still : List (Desk C B)) (all : PassState) : Type 0 where
  pub of_gate : all.gate ≡ gate
  pub share : all.share + length still ≡ length desks + 1
  pub rest : All (λ d. IsSingle gate d.pass) still
  pub numbers : all.numbers ++ map (λ d. d.pass.number) (reverse still) ≡ home.number ∷ map (λ d. d.pass.number) (reverse desks)
  pub once : OnceEach all.numbers
  pub home_met : IsMetInto all home
  pub met : List (Desk C B)
  pub desks_are : desks ≡ still ++ met
  pub each_met : All (λ d. IsMetInto all d.pass) met

pub gathering_none : {C B : Type 0} (gate : GateId) (home : PassState) (desks : List (Desk C B)) → IsSingle gate home
    → All (λ d. IsSingle gate d.pass) desks → Gathering gate home desks desks home
gathering_none {C} {B} gate home desks single each = record {
  of_gate = single.of_gate;
  share = (let s = single.share in omega arith);
  rest = each;
  numbers = ap (λ l. l ++ map (λ (d : Desk C B). d.pass.number) (reverse desks)) single.alone;
  once = subst OnceEach (sym single.alone) (once_more [] home.number (λ number has. absurd (true≢false (sym has))) (λ number has mine. absurd (true≢false (sym has))));
  home_met = met_alone gate home single;
  met = [];
  desks_are = sym (append-nil desks);
  each_met = All-nil (λ (d : Desk C B). IsMetInto home d.pass);
}

pub gathering_on : {C B : Type 0} (gate : GateId) (home : PassState) (desks xs rest : List (Desk C B)) (x : Desk C B) (all new : PassState)
    → xs ≡ rest ++ x ∷ [] → Meets all x.pass new → Gathering gate home desks xs all → Gathering gate home desks rest new
gathering_on {C} {B} gate home desks xs rest x all new split meets had =
    let parts = All-pop (λ (d : Desk C B). IsSingle gate d.pass) xs rest (Some x) split had.rest in
    let single = parts.1 in
    let numbers : new.numbers ≡ all.numbers ++ x.pass.number ∷ [] = meets.numbers ∙ ap (λ l. all.numbers ++ l) single.alone in
    record {
      of_gate = meets.gate ∙ had.of_gate;
      share =
          (let a = had.share in
          let b = meets.share in
          let c = single.share in
          let n : length xs ≡ length rest + 1 = ap length split ∙ length-append rest (x ∷ []) in omega arith);
      rest = parts.0;
      numbers = ap (λ l. l ++ map (λ (d : Desk C B). d.pass.number) (reverse rest)) numbers
          ∙ handed_on (λ (d : Desk C B). d.pass.number) all.numbers xs rest x _ split had.numbers;
      once = subst OnceEach (sym numbers) (once_more all.numbers x.pass.number had.once (subst (λ l. AreApart all.numbers l) single.alone meets.apart));
      home_met = met_still all x.pass new home meets had.home_met;
      met = x ∷ had.met;
      desks_are = had.desks_are ∙ (ap (λ l. l ++ had.met) split ∙ append_assoc rest (x ∷ []) had.met);
      each_met = All-cons (λ (d : Desk C B). IsMetInto new d.pass) x had.met (met_now gate all x.pass new single meets)
          (All-weaker (λ (d : Desk C B). IsMetInto all d.pass) (λ (d : Desk C B). IsMetInto new d.pass) (λ d m. met_still all x.pass new d.pass meets m)
          had.met had.each_met);
    }

pub next_gate : {C B : Type 0} (gate : GateId) (home : PassState) (desks xs rest : List (Desk C B)) (x : Desk C B) (all : PassState)
    → xs ≡ rest ++ x ∷ [] → Gathering gate home desks xs all → (all.gate ≡ gate) × (x.pass.gate ≡ gate)
next_gate {C} {B} gate home desks xs rest x all split had =
    (had.of_gate, (All-pop (λ (d : Desk C B). IsSingle gate d.pass) xs rest (Some x) split had.rest).1.of_gate)

pub desks_met : {C B : Type 0} (gate : GateId) (home : PassState) (desks still : List (Desk C B)) (all : PassState) → still ≡ []
    → Gathering gate home desks still all → All (λ d. IsMetInto all d.pass) desks
desks_met {C} {B} gate home desks still all none had =
    subst (All (λ (d : Desk C B). IsMetInto all d.pass)) (sym (had.desks_are ∙ ap (λ l. l ++ had.met) none)) had.each_met
