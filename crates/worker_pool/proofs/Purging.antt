-- What a purger has made of its ticks, tick by tick, and in longer histories.
use Rattle.std.proofs.Common.{◌≡◌, ℕ, ◌+◌, ◌-◌, ◌^◌, ◌≤◌, min, inl, inr, nat_eq, Bool, true, false, cond, List, [], ◌∷◌, ◌++◌, length, Option, Some, None, sym, ap, ◌∙◌, refl, subst, arith, append_assoc, length-append, IfSome, ◌<◌}
use Rattle.std.specs.List.{All, count_by}
use Rattle.std.specs.Io.KnownBytes.{Consumes, Keeps}
use Rattle.std.proofs.lemmas.Bool.{true≢false}
use Rattle.std.proofs.lemmas.Bool.Decides.{Decides-eqb}
use Rattle.std.proofs.lemmas.List.{append-nil}
use Rattle.std.proofs.lemmas.List.Elements.{All-nil, All-cons, All-append, All-push, All-head, All-tail}
use Rattle.std.proofs.lemmas.List.Sums.{sum_by-cons}
use Rattle.byte_io.specs.Counts.{Rose}
use Rattle.byte_io.specs.Ticks.{Ticks}
use Rattle.byte_io.specs.declared.ticker.Tick.TheVariants.{Due}
use mathlib.Core.Logic.{dite}
use native.Mathlib.Decide.{ℕ_discrete}
use Rattle.munge_types.specs.declared.history.Event.{Event}
use Rattle.munge_types.specs.declared.history.Event.TheVariants.{Admit, Idle, Purge}
use Rattle.replay_gate.specs.Enters.{Enters}
use Rattle.replay_gate.specs.GoesOn.{GoesOn}
use Rattle.replay_gate.specs.Makers.{maker, is_of, any_by}
use Rattle.replay_gate.specs.PassState.{GateId, PassState}
use Rattle.replay_gate.specs.Worn.{IsWorn, worn_at}
use Rattle.worker_pool.specs.Account.{made_by}
use Rattle.worker_pool.specs.Purging.{ClockSight, HasPurged, IsNewPurger, IsPartOf, OneMore, PurgesStand, Spends, TickerSight, Ticking, moments_by}
use Rattle.worker_pool.specs.Single.{ArePurges, IsSingle, IsWornWithin, RoseBy, capped, is_purge}
use Rattle.worker_pool.specs.declared.purger.Purger.{Purger}
use Rattle.worker_pool.proofs.Account.{neither, made_by-append, made_by-others}

-- ---- what is told

consumes_nothing : (told : Option (List ℕ)) → Consumes told told []
consumes_nothing None = tt
consumes_nothing (Some xs) = refl

consumes_more : (a b c : Option (List ℕ)) (xs ys : List ℕ) → Consumes a b xs → Consumes b c ys → Consumes a c (xs ++ ys)
consumes_more None b c xs ys one two = tt
consumes_more (Some p) None c xs ys one two = absurd one
consumes_more (Some p) (Some q) None xs ys one two = absurd two
consumes_more (Some p) (Some q) (Some r) xs ys one two = one ∙ (ap (λ l. xs ++ l) two ∙ sym (append_assoc xs ys r))

consumes_kept : (a b c : Option (List ℕ)) (xs : List ℕ) → Consumes a b xs → Keeps b c → Consumes a c xs
consumes_kept None b c xs one kept = tt
consumes_kept (Some p) None c xs one kept = absurd one
consumes_kept (Some p) (Some q) None xs one kept = absurd kept
consumes_kept (Some p) (Some q) (Some r) xs one kept = one ∙ ap (λ l. xs ++ l) (sym kept)

spends_none : (told : Option ℕ) → Spends told told 0
spends_none None = tt
spends_none (Some n) = omega arith

spends_more : (a b c : Option ℕ) (dues : ℕ) → Spends a b dues → Ticks b c Due → Spends a c (dues + 1)
spends_more None b c dues spends ticks = tt
spends_more (Some n) None c dues spends ticks = absurd spends
spends_more (Some n) (Some m) None dues spends ticks = absurd ticks
spends_more (Some n) (Some m) (Some k) dues spends ticks = omega arith

-- ---- counts

cap_more : (old made new : ℕ) → old ≡ capped made → new ≡ min (old + 1) (2 ^ 64 - 1) → new ≡ capped (made + 1)
cap_more old made new was is = omega arith

rose_none : (count : ℕ) → RoseBy 0 count count
rose_none count = omega arith

rose_more : (by first old new : ℕ) → RoseBy by first old → Rose old new → RoseBy (by + 1) first new
rose_more by first old new was rose = omega arith

-- ---- parts

part_wider : (xs ys : List ℕ) (z : ℕ) → IsPartOf xs ys → IsPartOf xs (ys ++ z ∷ [])
part_wider [] [] z part = tt
part_wider [] (y ∷ ys) z part = tt
part_wider (x ∷ xs) [] z part = absurd part
part_wider (x ∷ xs) (y ∷ ys) z (inl p) = inl (p.0, part_wider xs ys z p.1)
part_wider (x ∷ xs) (y ∷ ys) z (inr p) = inr (part_wider (x ∷ xs) ys z p)

part_push : (xs ys : List ℕ) (z : ℕ) → IsPartOf xs ys → IsPartOf (xs ++ z ∷ []) (ys ++ z ∷ [])
part_push [] [] z part = inl (refl, tt)
part_push [] (y ∷ ys) z part = inr (part_push [] ys z (none ys))
  where
    none : (l : List ℕ) → IsPartOf [] l
    none [] = tt
    none (w ∷ ws) = tt
part_push (x ∷ xs) [] z part = absurd part
part_push (x ∷ xs) (y ∷ ys) z (inl p) = inl (p.0, part_push xs ys z p.1)
part_push (x ∷ xs) (y ∷ ys) z (inr p) = inr (part_push (x ∷ xs) ys z p)

-- ---- moments

moments_by-append : (number : ℕ) (xs ys : List Event) → moments_by number (xs ++ ys) ≡ moments_by number xs ++ moments_by number ys
moments_by-append number [] ys = refl
moments_by-append number (Admit pass pair moment ∷ xs) ys = moments_by-append number xs ys
moments_by-append number (Idle pass ∷ xs) ys = moments_by-append number xs ys
moments_by-append number (Purge pass moment ∷ xs) ys = by_case (nat_eq pass number) (moments_by-append number xs ys)
  where
    by_case : (b : Bool) → moments_by number (xs ++ ys) ≡ moments_by number xs ++ moments_by number ys
        → cond b (moment ∷ moments_by number (xs ++ ys)) (moments_by number (xs ++ ys))
        ≡ cond b (moment ∷ moments_by number xs) (moments_by number xs) ++ moments_by number ys
    by_case true rest = ap (λ l. moment ∷ l) rest
    by_case false rest = rest

not_its : (number : ℕ) (event : Event) (events : List Event) → any_by (number ∷ []) (event ∷ events) ≡ false
    → (nat_eq (maker event) number ≡ false) × (any_by (number ∷ []) events ≡ false)
not_its number event events none =
    let parts = neither (is_of (number ∷ []) (maker event)) (any_by (number ∷ []) events) none in
    ((neither (nat_eq (maker event) number) false parts.0).0, parts.1)

moments_by-others : (number : ℕ) (events : List Event) → any_by (number ∷ []) events ≡ false → moments_by number events ≡ []
moments_by-others number [] none = refl
moments_by-others number (Admit pass pair moment ∷ events) none =
    moments_by-others number events (not_its number (Admit pass pair moment) events none).1
moments_by-others number (Idle pass ∷ events) none = moments_by-others number events (not_its number (Idle pass) events none).1
moments_by-others number (Purge pass moment ∷ events) none =
    let parts = not_its number (Purge pass moment) events none in
    ap (λ b. cond b (moment ∷ moments_by number events) (moments_by number events)) parts.0 ∙ moments_by-others number events parts.1

-- ---- purges in a longer history, and within a higher bound

others_only : (number : ℕ) (events : List Event) → any_by (number ∷ []) events ≡ false → ArePurges number events
others_only number [] none = All-nil (λ (e : Event). maker e ≡ number → is_purge e ≡ true)
others_only number (event ∷ events) none =
    let parts = not_its number event events none in
    All-cons (λ (e : Event). maker e ≡ number → is_purge e ≡ true) event events
    (λ mine. absurd (true≢false (sym ((Decides-eqb (maker event) number).1 mine) ∙ parts.0))) (others_only number events parts.1)

worn_higher : (bound higher : ℕ) (worn : Option ℕ) → bound ≤ higher → IsWornWithin bound worn → IsWornWithin higher worn
worn_higher bound higher None below worn = tt
worn_higher bound higher (Some ticket) below worn = let high = worn.1 in (worn.0, omega arith)

pub purges_longer : (number : ℕ) (seen longer : List Event) (bound higher made : ℕ) (readings : List ℕ) (worn : Option ℕ) → bound ≤ higher
    → GoesOn (number ∷ []) seen longer → PurgesStand number seen bound made readings worn → PurgesStand number longer higher made readings worn
purges_longer number seen longer bound higher made readings worn below on stand =
    subst (λ l. PurgesStand number l higher made readings worn) (sym on.longer_is) record {
      only = All-append (λ (e : Event). maker e ≡ number → is_purge e ≡ true) seen on.others stand.only (others_only number on.others on.of_others);
      made_is =
          (let a = stand.made_is in
          let b = made_by-append (λ place. 1) number 0 seen on.others in
          let c = made_by-others (λ place. 1) number (0 + length seen) on.others on.of_others in
          omega arith);
      in_order =
          (let same = moments_by-append number seen on.others
          ∙ (ap (λ l. moments_by number seen ++ l) (moments_by-others number on.others on.of_others) ∙ append-nil (moments_by number seen)) in
          subst (λ l. IsPartOf l readings) (sym same) stand.in_order);
      worn_is = worn_higher bound higher worn below stand.worn_is;
    }

purges_more : (number : ℕ) (before : List Event) (bound made moment : ℕ) (readings : List ℕ) (worn : Option ℕ) → PurgesStand number before bound made readings worn
    → PurgesStand number (before ++ Purge number moment ∷ []) bound (made + 1) (readings ++ moment ∷ []) worn
purges_more number before bound made moment readings worn stand =
    let same : nat_eq number number ≡ true = (Decides-eqb number number).1 refl in record {
      only = All-push (λ (e : Event). maker e ≡ number → is_purge e ≡ true) before (Purge number moment) stand.only (λ mine. refl);
      made_is =
          (let a = stand.made_is in
          let b = made_by-append (λ place. 1) number 0 before (Purge number moment ∷ []) in
          let one : made_by (λ place. 1) number (0 + length before) (Purge number moment ∷ []) ≡ 1 = rw same refl in
          omega arith);
      in_order =
          (let now : moments_by number (Purge number moment ∷ []) ≡ moment ∷ [] = ap (λ b. cond b (moment ∷ []) []) same in
          let all = moments_by-append number before (Purge number moment ∷ []) ∙ ap (λ l. moments_by number before ++ l) now in
          subst (λ l. IsPartOf l (readings ++ moment ∷ [])) (sym all) (part_push (moments_by number before) readings moment stand.in_order));
      worn_is = stand.worn_is;
    }

purges_worn : (number : ℕ) (seen : List Event) (bound made moment ticket : ℕ) (readings : List ℕ) (worn : Option ℕ) → worn_at ≤ ticket
    → PurgesStand number seen bound made readings worn → PurgesStand number seen ticket made (readings ++ moment ∷ []) (Some ticket)
purges_worn number seen bound made moment ticket readings worn is stand = record {
  only = stand.only;
  made_is = stand.made_is;
  in_order = part_wider (moments_by number seen) readings moment stand.in_order;
  worn_is = (is, omega arith);
}

-- ---- a purger

module _ {C : Type 0} (sight : ClockSight C) (gate : GateId) where
  numbers_are : (number : ℕ) (first : C) (purger : Purger C) (dues : ℕ) → HasPurged sight gate number first purger dues
      → purger.pass.numbers ≡ number ∷ []
  numbers_are number first purger dues has = has.single.alone ∙ ap (λ n. n ∷ []) has.number_is

  stand_of : (number : ℕ) (first : C) (purger : Purger C) (dues : ℕ) (has : HasPurged sight gate number first purger dues)
      → PurgesStand number purger.pass.seen purger.pass.highest has.made has.readings purger.worn
  stand_of number first purger dues has =
      record { only = has.only; made_is = has.made_is; in_order = has.in_order; worn_is = has.worn_is }

  -- what it has purged stands in every longer history, as that of a pass which it was met into
  pub stand_longer : (number : ℕ) (first : C) (purger : Purger C) (dues : ℕ) (longer : List Event) (higher : ℕ) → purger.pass.highest ≤ higher
      → GoesOn purger.pass.numbers purger.pass.seen longer → (has : HasPurged sight gate number first purger dues)
      → PurgesStand number longer higher has.made has.readings purger.worn
  stand_longer number first purger dues longer higher below on has =
      purges_longer number purger.pass.seen longer purger.pass.highest higher has.made has.readings purger.worn below
      (subst (λ l. GoesOn l purger.pass.seen longer) (numbers_are number first purger dues has) on) (stand_of number first purger dues has)

  pub purger_new : (purger : Purger C) → IsNewPurger gate purger → HasPurged sight gate purger.pass.number purger.clock purger 0
  purger_new purger new = record {
    single = new.single;
    number_is = refl;
    only = subst (ArePurges purger.pass.number) (sym new.seen) (All-nil (λ (e : Event). maker e ≡ purger.pass.number → is_purge e ≡ true));
    made = 0;
    missed = 0;
    unmade = 0;
    dues_are = omega arith;
    made_is = subst (λ l. made_by (λ place. 1) purger.pass.number 0 l ≡ 0) (sym new.seen) refl;
    purges_is = (let e = new.purges in omega arith);
    missed_is = (let e = new.missed in omega arith);
    unmade_is = λ none. refl;
    worn_is = subst (IsWornWithin purger.pass.highest) (sym new.worn) tt;
    readings = [];
    readings_are = omega arith;
    read = consumes_nothing (sight.timing purger.clock).readings;
    in_order = subst (λ l. IsPartOf (moments_by purger.pass.number l) []) (sym new.seen) tt;
    given = rose_none (sight.timing purger.clock).given;
    faults = rose_none (sight.faults purger.clock);
  }

  -- a tick whose clock failed
  pub tick_missed : (old new : Purger C) → new.pass ≡ old.pass → new.purges ≡ old.purges → new.missed ≡ min (old.missed + 1) (2 ^ 64 - 1)
      → new.worn ≡ old.worn → Keeps (sight.timing old.clock).readings (sight.timing new.clock).readings
      → (sight.timing new.clock).given ≡ (sight.timing old.clock).given → Rose (sight.faults old.clock) (sight.faults new.clock)
      → OneMore sight gate old new
  tick_missed old new pass purges missed worn kept given rose number first dues has = record {
    single = subst (IsSingle gate) (sym pass) has.single;
    number_is = ap (λ (p : PassState). p.number) pass ∙ has.number_is;
    only = subst (λ (p : PassState). ArePurges number p.seen) (sym pass) has.only;
    made = has.made;
    missed = has.missed + 1;
    unmade = has.unmade;
    dues_are = (let e = has.dues_are in omega arith);
    made_is = subst (λ (p : PassState). made_by (λ place. 1) number 0 p.seen ≡ has.made) (sym pass) has.made_is;
    purges_is = purges ∙ has.purges_is;
    missed_is = cap_more old.missed has.missed new.missed has.missed_is missed;
    unmade_is = λ none. has.unmade_is (sym worn ∙ none);
    worn_is = subst (λ (p : PassState). IsWornWithin p.highest new.worn) (sym pass) (subst (IsWornWithin old.pass.highest) (sym worn) has.worn_is);
    readings = has.readings;
    readings_are = has.readings_are;
    read = consumes_kept (sight.timing first).readings (sight.timing old.clock).readings (sight.timing new.clock).readings has.readings has.read kept;
    in_order = subst (λ (p : PassState). IsPartOf (moments_by number p.seen) has.readings) (sym pass) has.in_order;
    given = subst (RoseBy (length has.readings) (sight.timing first).given) (sym given) has.given;
    faults = rose_more has.missed (sight.faults first) (sight.faults old.clock) (sight.faults new.clock) has.faults rose;
  }

  longer_by_one : (readings : List ℕ) (moment : ℕ) → length (readings ++ moment ∷ []) ≡ length readings + 1
  longer_by_one readings moment = omega (arith, length-append readings (moment ∷ []))

  given_more : (first old new : C) (readings : List ℕ) (moment : ℕ) → RoseBy (length readings) (sight.timing first).given (sight.timing old).given
      → Rose (sight.timing old).given (sight.timing new).given
      → RoseBy (length (readings ++ moment ∷ [])) (sight.timing first).given (sight.timing new).given
  given_more first old new readings moment was rose =
      subst (λ n. RoseBy n (sight.timing first).given (sight.timing new).given) (sym (longer_by_one readings moment))
      (rose_more (length readings) (sight.timing first).given (sight.timing old).given (sight.timing new).given was rose)

  -- a tick whose clock gave a moment
  module _ (old new : Purger C) (moment : ℕ) (missed : new.missed ≡ old.missed)
      (read : Consumes (sight.timing old.clock).readings (sight.timing new.clock).readings (moment ∷ []))
      (given : Rose (sight.timing old.clock).given (sight.timing new.clock).given)
      (sound : sight.faults new.clock ≡ sight.faults old.clock) where
    -- and the purge was made
    pub tick_made : (before : List Event) → Enters old.pass new.pass before (Purge old.pass.number moment)
        → new.purges ≡ min (old.purges + 1) (2 ^ 64 - 1) → new.worn ≡ old.worn → OneMore sight gate old new
    tick_made before enters purges worn number first dues has =
        let on = subst (λ l. GoesOn l old.pass.seen before) (numbers_are number first old dues has) enters.goes_on in
        let longer = purges_longer number old.pass.seen before old.pass.highest new.pass.highest has.made has.readings old.worn enters.not_below on
        (stand_of number first old dues has) in
        let all = purges_more number before new.pass.highest has.made moment has.readings old.worn longer in
        let seen : new.pass.seen ≡ before ++ Purge number moment ∷ [] =
        ap (λ (p : PassState). p.seen) enters.after_is ∙ ap (λ n. before ++ Purge n moment ∷ []) has.number_is in
        let here = subst (λ l. PurgesStand number l new.pass.highest (has.made + 1) (has.readings ++ moment ∷ []) old.worn) (sym seen) all in
        let stand = subst (PurgesStand number new.pass.seen new.pass.highest (has.made + 1) (has.readings ++ moment ∷ [])) (sym worn) here in record {
          single = subst (IsSingle gate) (sym enters.after_is)
              record { of_gate = has.single.of_gate; alone = has.single.alone; share = has.single.share };
          number_is = ap (λ (p : PassState). p.number) enters.after_is ∙ has.number_is;
          only = stand.only;
          made = has.made + 1;
          missed = has.missed;
          unmade = has.unmade;
          dues_are = (let e = has.dues_are in omega arith);
          made_is = stand.made_is;
          purges_is = cap_more old.purges has.made new.purges has.purges_is purges;
          missed_is = missed ∙ has.missed_is;
          unmade_is = λ none. has.unmade_is (sym worn ∙ none);
          worn_is = stand.worn_is;
          readings = has.readings ++ moment ∷ [];
          readings_are = (let e = has.readings_are in let f = longer_by_one has.readings moment in omega arith);
          read = consumes_more (sight.timing first).readings (sight.timing old.clock).readings (sight.timing new.clock).readings has.readings (moment ∷ [])
              has.read read;
          in_order = stand.in_order;
          given = given_more first old.clock new.clock has.readings moment has.given given;
          faults = subst (RoseBy has.missed (sight.faults first)) (sym sound) has.faults;
        }

    -- and the gate was worn
    pub tick_worn : (ticket : ℕ) → IsWorn old.pass new.pass ticket → new.purges ≡ old.purges → new.worn ≡ Some ticket → OneMore sight gate old new
    tick_worn ticket is purges worn number first dues has =
        let there = purges_worn number old.pass.seen old.pass.highest has.made moment ticket has.readings old.worn is.worn (stand_of number first old dues has) in
        let here = subst (λ (p : PassState). PurgesStand number p.seen p.highest has.made (has.readings ++ moment ∷ []) (Some ticket)) (sym is.after_is) there in
        let stand = subst (PurgesStand number new.pass.seen new.pass.highest has.made (has.readings ++ moment ∷ [])) (sym worn) here in record {
          single = subst (IsSingle gate) (sym is.after_is)
              record { of_gate = has.single.of_gate; alone = has.single.alone; share = has.single.share };
          number_is = ap (λ (p : PassState). p.number) is.after_is ∙ has.number_is;
          only = stand.only;
          made = has.made;
          missed = has.missed;
          unmade = has.unmade + 1;
          dues_are = (let e = has.dues_are in omega arith);
          made_is = stand.made_is;
          purges_is = purges ∙ has.purges_is;
          missed_is = missed ∙ has.missed_is;
          unmade_is = λ none. let e : ◌≡◌ {A = Option ℕ} (Some ticket) None = sym worn ∙ none in absurd (cc);
          worn_is = stand.worn_is;
          readings = has.readings ++ moment ∷ [];
          readings_are = (let e = has.readings_are in let f = longer_by_one has.readings moment in omega arith);
          read = consumes_more (sight.timing first).readings (sight.timing old.clock).readings (sight.timing new.clock).readings has.readings (moment ∷ [])
              has.read read;
          in_order = stand.in_order;
          given = given_more first old.clock new.clock has.readings moment has.given given;
          faults = subst (RoseBy has.missed (sight.faults first)) (sym sound) has.faults;
        }

  -- ---- all ticks

  few_first : (first now : Option ℕ) (dues n : ℕ) → first ≡ Some n → Spends first now dues → IfSome now (λ m. m < 2 ^ 64) → dues ≡ 0 → n < 2 ^ 64
  few_first None now dues n told spends small none = absurd (cc)
  few_first (Some k) None dues n told spends small none = absurd spends
  few_first (Some k) (Some m) dues n told spends small none = let same : k ≡ n = cc in omega arith

  module _ {T : Type 0} (ticks : TickerSight T) where
    pub ticks_begin : (purger : Purger C) (ticker : T) → IsNewPurger gate purger → Ticking sight ticks gate purger purger ticker ticker
    ticks_begin purger ticker new = record {
      dues = 0;
      purged = purger_new purger new;
      told = spends_none (ticks.due ticker);
      few = λ n told some. absurd (omega arith);
      faults = omega arith;
      going = new.failed;
    }

    pub ticks_go_on : (old now new : Purger C) (ticker before after : T) → IfSome (ticks.due before) (λ n. n < 2 ^ 64)
        → Ticks (ticks.due before) (ticks.due after) Due → ticks.faults before ≤ ticks.faults after → OneMore sight gate now new → new.failed ≡ now.failed
        → Ticking sight ticks gate old now ticker before → Ticking sight ticks gate old new ticker after
    ticks_go_on old now new ticker before after small due faults more same at = record {
      dues = at.dues + 1;
      purged = more old.pass.number old.clock at.dues at.purged;
      told = spends_more (ticks.due ticker) (ticks.due before) (ticks.due after) at.dues at.told due;
      few = λ n told some.
          dite (ℕ_discrete at.dues 0) (λ none. few_first (ticks.due ticker) (ticks.due before) at.dues n told at.told small none)
          (λ more. at.few n told (omega arith));
      faults = (let e = at.faults in omega arith);
      going = same ∙ at.going;
    }

-- ---- all purges of a history

-- where all of them are this number's, and nothing else is, they are counted
pub purges_counted : (number at : ℕ) (history : List Event) → ArePurges number history
    → All (λ event. is_purge event ≡ true → maker event ≡ number) history → count_by is_purge history ≡ made_by (λ place. 1) number at history
purges_counted number at [] only by = refl
purges_counted number at (event ∷ events) only by =
    let rest = purges_counted number (at + 1) events (All-tail (λ (e : Event). maker e ≡ number → is_purge e ≡ true) event events only)
    (All-tail (λ (e : Event). is_purge e ≡ true → maker e ≡ number) event events by) in
    let one = sum_by-cons (λ (e : Event). cond {A = ℕ} (is_purge e) 1 0) event events in
    let there = All-head (λ (e : Event). maker e ≡ number → is_purge e ≡ true) event events only in
    let back = All-head (λ (e : Event). is_purge e ≡ true → maker e ≡ number) event events by in
    let same : is_purge event ≡ nat_eq (maker event) number =
    both_ways (is_purge event) (nat_eq (maker event) number) (λ p. (Decides-eqb (maker event) number).1 (back p)) (λ q. there ((Decides-eqb (maker event) number).0 q)) in
    let here : cond {A = ℕ} (is_purge event) 1 0 ≡ cond {A = ℕ} (nat_eq (maker event) number) 1 0 = ap (λ b. cond {A = ℕ} b 1 0) same in
    omega arith
  where
    both_ways : (a b : Bool) → (a ≡ true → b ≡ true) → (b ≡ true → a ≡ true) → a ≡ b
    both_ways true b f g = sym (f refl)
    both_ways false true f g = g refl
    both_ways false false f g = refl

pub all_purges : (number : ℕ) (history : List Event) (bound made : ℕ) (readings : List ℕ) (worn : Option ℕ) → PurgesStand number history bound made readings worn
    → All (λ event. is_purge event ≡ true → maker event ≡ number) history → count_by is_purge history ≡ made
all_purges number history bound made readings worn stand by = purges_counted number 0 history stand.only by ∙ stand.made_is
