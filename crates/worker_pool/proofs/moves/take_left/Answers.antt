use Rattle.std.proofs.Common.{◌∙◌, ap, length, arith, length-append}
use Rattle.std.proofs.lemmas.List.Sorted.{length_permutation}
use Rattle.crossbeam_queue.specs.Passes.{view}
use Rattle.worker_pool.specs.declared.queue.Ledger.{Ledger}
use Rattle.worker_pool.proofs.Queues.{takes, learns}
use Rattle.worker_pool.proofs.moves.take_left.Goals as goal

pub pop_as-requires-clause-rule : goal.pop_as-requires-clause-rule
pop_as-requires-clause-rule g c = (takes _ _ c.requires.some_part, learns _ _)

pub learn_as-requires-clause-rule : goal.learn_as-requires-clause-rule
learn_as-requires-clause-rule g c = learns _ _

pub returns-in-Some-clause-taken : goal.returns-in-Some-clause-taken
returns-in-Some-clause-taken g c =
    let T = g.row.T.Denot in
    let same = c.learn_as.ensures.queue.1 in
    let took = c.in-Some.ensures.rule in
    let known = c.learn_as.ensures.rule in
    let popped : Ledger T = view c.pop_as.new.pass in (
      same ∙ took,
      λ all.
          let n = length_permutation _ _ (known.1 (ap (λ (v : Ledger T). v.parts) took ∙ all)) in
          let a = length-append popped.taken known.0 in
          let t = ap (λ (v : Ledger T). length v.taken) same in
          let p = ap (λ (v : Ledger T). length v.put) same in
          omega arith,
    )
