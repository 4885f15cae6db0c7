use Rattle.worker_pool.specs.Purging.{Ticking, clock_sight, ticker_sight}
use Rattle.worker_pool.proofs.purger.purge_all.Given as goal

abbrev pub invariant-loop : goal.invariant-loop
invariant-loop g l =
    Ticking (clock_sight g.C.Clock.readings g.C.Clock.last_reading g.C.Clock.given g.C.Clock.clock_faults)
    (ticker_sight g.T.Ticker.due g.T.Ticker.tick_faults g.T.Ticker.is_over) l.gate l.fn.purger l.purger l.fn.ticker l.ticker
