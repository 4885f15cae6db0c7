use Rattle.std.proofs.Common.{arith}
use Rattle.std.proofs.lemmas.Result.{IfOk-weaker}
use Rattle.munged_run.proofs.ClockLemmas.{clocks_more}
use Rattle.munged_run.proofs.serve.serve_posts.Goals as goal

pub returns-clause-served : goal.returns-clause-served
returns-clause-served g c = λ made.
    let one = c.one-purge_clock.ensures in
    IfOk-weaker c.daemon_pool.result _ _
    (λ pool ran. record {
      clocks = c.in_ok-worker_clocks.worker_clocks.items;
      as_many = omega (
        arith,
        c.in_ok-worker_clocks.ensures.count,
        c.len-workers.ensures,
        c.args.provided.seeds.ok.0,
      );
      purge_clock = c.one-purge_clock.result;
      taken = clocks_more _ c.in_ok-worker_clocks.worker_clocks.items c.one-purge_clock.result _
          (g.C.Clocks.clocks c.take_clocks.new.clocks) _ c.in_ok-worker_clocks.ensures.taken
          (record { last = one.last; given = one.given; faults = one.faults }) one.first;
      ran = ran;
    })
    (c.daemon_pool.ensures.ran made)
