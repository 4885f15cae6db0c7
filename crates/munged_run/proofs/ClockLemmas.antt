-- The clocks of a daemon, one by one.
use Rattle.std.proofs.Common.{◌≡◌, ℕ, List, [], ◌∷◌, ◌++◌, Option, refl, sym, subst}
use Rattle.byte_io.specs.TakesFirst.{TakesFirst}
use Rattle.worker_pool.specs.Purging.{ClockSight}
use Rattle.munged_run.specs.ServeClocks.{ClocksTaken, IsNewClock}

-- one clock more
pub clocks_more : {C : Type 0} (sight : ClockSight C) (clocks : List C) (clock : C)
    (before between after : Option (List (List ℕ))) → ClocksTaken sight clocks before between
    → IsNewClock sight clock → TakesFirst between after (sight.timing clock).readings
    → ClocksTaken sight (clocks ++ clock ∷ []) before after
clocks_more sight [] clock before between after so fresh takes =
    (after, fresh, subst (λ b. TakesFirst b after (sight.timing clock).readings) so takes, refl)
clocks_more sight (c ∷ clocks) clock before between after so fresh takes =
    (so.0, so.1, so.2, clocks_more sight clocks clock so.0 between after so.3 fresh takes)

pub clocks_next : {C : Type 0} (sight : ClockSight C) (clocks new : List C) (clock : C)
    (before between after : Option (List (List ℕ))) → ClocksTaken sight clocks before between
    → IsNewClock sight clock → TakesFirst between after (sight.timing clock).readings
    → new ≡ clocks ++ clock ∷ [] → ClocksTaken sight new before after
clocks_next sight clocks new clock before between after so fresh takes new_is =
    subst (λ l. ClocksTaken sight l before after) (sym new_is)
    (clocks_more sight clocks clock before between after so fresh takes)
