use Rattle.std.proofs.Common.{arith, length-append}
use Rattle.std.proofs.lemmas.List.Sorted.{length_permutation}
use Rattle.crossbeam_queue.specs.Passes.{view}
use Rattle.worker_pool.proofs.Queues.{learns}
use Rattle.worker_pool.proofs.moves.count_left.Goals as goal

pub len_as-requires-clause-rule : goal.len_as-requires-clause-rule
len_as-requires-clause-rule g c = learns _ _

pub returns-clause-count : goal.returns-clause-count
returns-clause-count g c =
    let r = c.len_as.ensures.rule.1 in
    let v = view c.args.pass.now in
    let n = length_permutation _ _ (r.2 c.requires.whole) in
    let a = length-append v.taken r.0 in
    let l = r.1 in omega arith
