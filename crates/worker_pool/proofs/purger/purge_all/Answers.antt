use Rattle.worker_pool.proofs.Purging.{ticks_begin, ticks_go_on}
use Rattle.worker_pool.proofs.purger.purge_all.Goals as goal

pub loop-init : goal.loop-init
loop-init g c = ticks_begin _ c.args.gate.now _ c.args.purger.now c.args.ticker.now c.requires

pub loop-preserved : goal.loop-preserved
loop-preserved g c =
    ticks_go_on _ c.args.gate.now _ c.args.purger.now c.loop.purger c.tick.new.self c.args.ticker.now c.loop.ticker c.next-in-loop.new.self
    c.in-Due.ensures.few c.in-Due.ensures.told c.in-Due.ensures.faults_stay c.tick.ensures.one_more c.tick.ensures.failed c.loop.invariant
