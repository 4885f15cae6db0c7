-- What one more event does to a history's floor, its accepted pairs and its verdicts, and what never
-- changes: the floor does not fall, accepted pairs stay, and none is accepted twice.
use Rattle.std.proofs.Common.{◌≡◌, ℕ, max, ◌≤◌, ◌<◌, nat_lt, Bool, true, false, ◌||◌, cond, List, [], ◌∷◌, ◌++◌, reverse, ap, sym, ◌∙◌, refl, arith, append_assoc, ◌≢◌}
use Rattle.std.proofs.lemmas.Bool.{true≢false, lt-ltb, le-ltb}
use Rattle.std.proofs.Math.Bool.{or-true}
use Rattle.std.proofs.lemmas.List.{append-nil, reverse-append}
use Rattle.std.proofs.lemmas.List.Folds.{list_any-append}
use Rattle.std.specs.List.{list_any, IsDistinct}
use Rattle.munge_types.proofs.Distinct.{IsDistinct-push}
use Rattle.munge_types.proofs.PairLemmas.{pair_eq-equiv}
use Rattle.munge_types.specs.History.{floor_among, verdict_among, with_accepted, accepted_back, floor, accepted, verdict}
use Rattle.munge_types.specs.Pair.{pair_eq}
use Rattle.munge_types.specs.StandsFor.{IsAmong}
use Rattle.munge_types.specs.declared.pair.Pair.{Pair}
use Rattle.munge_types.specs.declared.history.Event.{Event}
use Rattle.munge_types.specs.declared.history.Event.TheVariants.{Admit, Purge, Idle}
use Rattle.munge_types.specs.declared.history.Verdict.{Verdict}
use Rattle.munge_types.specs.declared.history.Verdict.TheVariants.{Accepted, Expired, Replayed}

-- one more event is the first of the reversed history
last_first : (history : List Event) (event : Event) → reverse (history ++ event ∷ []) ≡ event ∷ reverse history
last_first history event = reverse-append history (event ∷ [])

pub floor-admit : (history : List Event) (pass : ℕ) (pair : Pair) (moment : ℕ)
    → floor (history ++ Admit pass pair moment ∷ []) ≡ floor history
floor-admit history pass pair moment = ap floor_among (last_first history (Admit pass pair moment))

pub floor-purge : (history : List Event) (pass moment : ℕ)
    → floor (history ++ Purge pass moment ∷ []) ≡ max moment (floor history)
floor-purge history pass moment = ap floor_among (last_first history (Purge pass moment))

pub floor-idle : (history : List Event) (pass : ℕ) → floor (history ++ Idle pass ∷ []) ≡ floor history
floor-idle history pass = ap floor_among (last_first history (Idle pass))

pub accepted-admit : (history : List Event) (pass : ℕ) (pair : Pair) (moment : ℕ)
    → accepted (history ++ Admit pass pair moment ∷ []) ≡ with_accepted (verdict history pair moment) (accepted history) pair
accepted-admit history pass pair moment = ap accepted_back (last_first history (Admit pass pair moment))

pub accepted-purge : (history : List Event) (pass moment : ℕ)
    → accepted (history ++ Purge pass moment ∷ []) ≡ accepted history
accepted-purge history pass moment = ap accepted_back (last_first history (Purge pass moment))

pub accepted-idle : (history : List Event) (pass : ℕ) → accepted (history ++ Idle pass ∷ []) ≡ accepted history
accepted-idle history pass = ap accepted_back (last_first history (Idle pass))

pub verdict-admit : (history : List Event) (pass : ℕ) (pair : Pair) (moment : ℕ) (other : Pair) (later : ℕ)
    → verdict (history ++ Admit pass pair moment ∷ []) other later
    ≡ verdict_among (floor history) (with_accepted (verdict history pair moment) (accepted history) pair) other later
verdict-admit history pass pair moment other later =
    ap (λ floor. verdict_among floor (accepted (history ++ Admit pass pair moment ∷ [])) other later) (floor-admit history pass pair moment)
    ∙ ap (λ pairs. verdict_among (floor history) pairs other later) (accepted-admit history pass pair moment)

pub verdict-purge : (history : List Event) (pass moment : ℕ) (pair : Pair) (later : ℕ)
    → verdict (history ++ Purge pass moment ∷ []) pair later
    ≡ verdict_among (max moment (floor history)) (accepted history) pair later
verdict-purge history pass moment pair later =
    ap (λ floor. verdict_among floor (accepted (history ++ Purge pass moment ∷ [])) pair later) (floor-purge history pass moment)
    ∙ ap (λ pairs. verdict_among (max moment (floor history)) pairs pair later) (accepted-purge history pass moment)

pub verdict-idle : (history : List Event) (pass : ℕ) (pair : Pair) (moment : ℕ)
    → verdict (history ++ Idle pass ∷ []) pair moment ≡ verdict history pair moment
verdict-idle history pass pair moment =
    ap (λ floor. verdict_among floor (accepted (history ++ Idle pass ∷ [])) pair moment) (floor-idle history pass)
    ∙ ap (λ pairs. verdict_among (floor history) pairs pair moment) (accepted-idle history pass)

-- ---- when each verdict is given

pub verdict_among-expired : (floor : ℕ) (pairs : List Pair) (pair : Pair) (moment : ℕ)
    → pair.expiry < max moment floor → verdict_among floor pairs pair moment ≡ Expired
verdict_among-expired floor pairs pair moment below = rw (lt-ltb pair.expiry (max moment floor) below)

pub verdict_among-replayed : (floor : ℕ) (pairs : List Pair) (pair : Pair) (moment : ℕ)
    → max moment floor ≤ pair.expiry → IsAmong pairs pair → verdict_among floor pairs pair moment ≡ Replayed
verdict_among-replayed floor pairs pair moment above among = rw (le-ltb pair.expiry (max moment floor) above, among)

pub verdict_among-accepted : (floor : ℕ) (pairs : List Pair) (pair : Pair) (moment : ℕ)
    → max moment floor ≤ pair.expiry → list_any (pair_eq pair) pairs ≡ false → verdict_among floor pairs pair moment ≡ Accepted
verdict_among-accepted floor pairs pair moment above new = rw (le-ltb pair.expiry (max moment floor) above, new)

-- ---- what one more event leaves

-- the pairs with what a verdict adds to them begin with the pairs
pub with_accepted-begins : (said : Verdict) (pairs : List Pair) (pair : Pair)
    → (added : List Pair) × (with_accepted said pairs pair ≡ pairs ++ added)
with_accepted-begins Accepted pairs pair = (pair ∷ [], refl)
with_accepted-begins Expired pairs pair = ([], sym (append-nil pairs))
with_accepted-begins Replayed pairs pair = ([], sym (append-nil pairs))

-- one more event adds at the end of the accepted pairs
accepted_more : (history : List Event) (event : Event)
    → (added : List Pair) × (accepted (history ++ event ∷ []) ≡ accepted history ++ added)
accepted_more history (Admit pass pair moment) =
    let begins = with_accepted-begins (verdict history pair moment) (accepted history) pair in
    (begins.0, accepted-admit history pass pair moment ∙ begins.1)
accepted_more history (Purge pass moment) =
    ([], accepted-purge history pass moment ∙ sym (append-nil (accepted history)))
accepted_more history (Idle pass) = ([], accepted-idle history pass ∙ sym (append-nil (accepted history)))

-- the pairs that a history accepted only grow, at their end
pub accepted-append : (history more : List Event)
    → (added : List Pair) × (accepted (history ++ more) ≡ accepted history ++ added)
accepted-append history [] =
    ([], ap accepted (append-nil history) ∙ sym (append-nil (accepted history)))
accepted-append history (event ∷ more) =
    let first = accepted_more history event in
    let rest = accepted-append (history ++ event ∷ []) more in (
      first.0 ++ rest.0,
      ap accepted (sym (append_assoc history (event ∷ []) more)) ∙ rest.1 ∙ ap (λ pairs. pairs ++ rest.0) first.1
          ∙ append_assoc (accepted history) first.0 rest.0,
    )

-- a pair that was accepted stays accepted
pub IsAmong-grows : (history more : List Event) (pair : Pair)
    → IsAmong (accepted history) pair → IsAmong (accepted (history ++ more)) pair
IsAmong-grows history more pair among =
    let grown = accepted-append history more in
    rw grown.1 (list_any-append (pair_eq pair) (accepted history) grown.0 ∙ ap (λ found. found || list_any (pair_eq pair) grown.0) among)

floor_more : (history : List Event) (event : Event) → floor history ≤ floor (history ++ event ∷ [])
floor_more history (Admit pass pair moment) = omega (arith, floor-admit history pass pair moment)
floor_more history (Purge pass moment) = omega (arith, floor-purge history pass moment)
floor_more history (Idle pass) = omega (arith, floor-idle history pass)

-- the floor never falls
pub floor-append : (history more : List Event) → floor history ≤ floor (history ++ more)
floor-append history [] = omega (arith, ap floor (append-nil history))
floor-append history (event ∷ more) =
    omega (arith, floor_more history event, floor-append (history ++ event ∷ []) more, ap floor (append_assoc history (event ∷ []) more))

-- ---- no pair twice

-- a pair is accepted only where it is not among these
pub new_where_accepted : (floor : ℕ) (pairs : List Pair) (pair : Pair) (moment : ℕ)
    → verdict_among floor pairs pair moment ≡ Accepted → list_any (pair_eq pair) pairs ≡ false
new_where_accepted floor pairs pair moment = decided (nat_lt pair.expiry (max moment floor)) (list_any (pair_eq pair) pairs)
  where
    decided : (expired found : Bool) → cond expired Expired (cond found Replayed Accepted) ≡ Accepted → found ≡ false
    decided true found h = cc
    decided false true h = cc
    decided false false h = refl

-- pairs of which none is twice, with what the verdict on them adds
pub IsDistinct-with_accepted : (said : Verdict) (floor : ℕ) (pairs : List Pair) (pair : Pair) (moment : ℕ)
    → verdict_among floor pairs pair moment ≡ said → IsDistinct pair_eq pairs → IsDistinct pair_eq (with_accepted said pairs pair)
IsDistinct-with_accepted Accepted floor pairs pair moment is distinct =
    IsDistinct-push pair_eq pair_eq-equiv.symm pairs pair (new_where_accepted floor pairs pair moment is) distinct
IsDistinct-with_accepted Expired floor pairs pair moment is distinct = distinct
IsDistinct-with_accepted Replayed floor pairs pair moment is distinct = distinct

accepted_back-distinct : (events : List Event) → IsDistinct pair_eq (accepted_back events)
unfolding IsDistinct
accepted_back-distinct [] = tt
accepted_back-distinct (Admit pass pair moment ∷ earlier) =
    IsDistinct-with_accepted _ (floor_among earlier) (accepted_back earlier) pair moment refl (accepted_back-distinct earlier)
accepted_back-distinct (Purge pass moment ∷ earlier) = accepted_back-distinct earlier
accepted_back-distinct (Idle pass ∷ earlier) = accepted_back-distinct earlier

-- no pair is accepted twice
pub accepted-distinct : (history : List Event) → IsDistinct pair_eq (accepted history)
accepted-distinct history = accepted_back-distinct (reverse history)

-- a pair that a verdict adds is among those that it was added to
added_among : (said : Verdict) (pairs : List Pair) (pair : Pair) → said ≡ Accepted → IsAmong (with_accepted said pairs pair) pair
added_among said pairs pair is =
    let last : (pair_eq pair pair || false) ≡ true = ap (λ found. found || false) (pair_eq-equiv.refl pair) in
    rw (is, list_any-append (pair_eq pair) pairs (pair ∷ []), last) (or-true (list_any (pair_eq pair) pairs))

-- after a look-up that accepted a pair no later one accepts it
pub accepted_once : (history more : List Event) (pass : ℕ) (pair : Pair) (moment later : ℕ) → verdict history pair moment ≡ Accepted
    → verdict ((history ++ Admit pass pair moment ∷ []) ++ more) pair later ≢ Accepted
accepted_once history more pass pair moment later is again =
    let among : IsAmong (accepted (history ++ Admit pass pair moment ∷ [])) pair =
    rw (accepted-admit history pass pair moment) (added_among (verdict history pair moment) (accepted history) pair is) in
    let still = IsAmong-grows (history ++ Admit pass pair moment ∷ []) more pair among in
    true≢false (sym still ∙ new_where_accepted _ (accepted ((history ++ Admit pass pair moment ∷ []) ++ more)) pair later again)
