use Rattle.std.proofs.Common.{◌≡◌, [], ◌∷◌, ◌+◌, List, ◌++◌, length, get_or, set, reverse, ◌-◌, ◌%◌, sym, ap, ◌∙◌, refl, subst, arith, rules}
use Rattle.std.specs.List.{All, sum_by, range_with_len}
use Rattle.worker_pool.specs.Dealing.{share_of}
use Rattle.worker_pool.specs.Drawing.{done_by}
use Rattle.worker_pool.specs.Joining.{InOrder}
use Rattle.worker_pool.specs.Lanes.{numbers_of}
use Rattle.worker_pool.specs.Pool.{Gathered}
use Rattle.worker_pool.specs.Standing.{HasServed}
use Rattle.worker_pool.specs.declared.job.Done.{Done}
use Rattle.worker_pool.specs.declared.pool.Batch.{Batch}
use Rattle.worker_pool.proofs.Gathers.{its_share, never_empty, order_less, weighs_less, each_less, by_worker_less, numbers_less, all_gathered}
use Rattle.worker_pool.proofs.pool.gather.Goals as goal

pub unreachable-requires : goal.unreachable-requires
unreachable-requires g c =
    let batches : List (Batch g.row.L.Denot g.row.C.Denot) = c.loop-left.batches in
    let workers = length c.args.batches.now in
    let n = c.loop-left.left - 1 in
    let was : Batch g.row.L.Denot g.row.C.Denot = c.index-batches-at.result in
    let at = workers - 1 - n % workers in
    let more : c.loop-left.left ≡ n + 1 = (let t = c.loop-left-test.true in omega arith) in
    let full = its_share batches workers n at c.loop-left.left was refl c.requires.some more c.loop-left.invariant.in_order in
    let none : length (get_or batches at was).done.items ≡ 0 = omega (arith, c.in_default.ensures.cases, (get_or batches at was).done.ok.0) in
    never_empty (get_or batches at was).done.items (share_of (n % workers) workers n) n none full

pub loop-left-preserved : goal.loop-left-preserved
loop-left-preserved g c =
    let batches : List (Batch g.row.L.Denot g.row.C.Denot) = c.loop-left.batches in
    let workers = length c.args.batches.now in
    let left = c.loop-left.left in
    let n = left - 1 in
    let more : left ≡ n + 1 = (let t = c.loop-left-test.true in omega arith) in
    let was : Batch g.row.L.Denot g.row.C.Denot = c.index-batches-at.result in
    let new : Batch g.row.L.Denot g.row.C.Denot = record { done = c.pop.new.self } in
    let one : Done g.row.L.Denot g.row.C.Denot = c.in-Some.one in
    let at = workers - 1 - n % workers in
    let invariant = c.loop-left.invariant in
    let popped : (get_or batches at was).done.items ≡ new.done.items ++ one ∷ [] = c.in-Some.ensures.items in
    let pushed : c.push_reserved.new.self.items ≡ c.loop-left.done.items ++ one ∷ [] = c.push_reserved.ensures.items in
    let order = order_less batches workers n at was new one invariant.same_len refl c.requires.some left more popped invariant.in_order in record {
      same_len = search rules;
      workers = refl;
      in_order = order.0;
      numbers = subst (λ (l : List (Done g.row.L.Denot g.row.C.Denot)). range_with_len 0 n ++ reverse (numbers_of l) ≡ range_with_len 0 c.args.count) (sym pushed)
          (numbers_less n c.args.count c.loop-left.done.items one order.1
          (subst (λ m. range_with_len 0 m ++ reverse (numbers_of c.loop-left.done.items) ≡ range_with_len 0 c.args.count) more invariant.numbers));
      each = λ work history bound all.
          let h = each_less batches workers n at was new one invariant.same_len refl c.requires.some (HasServed work history bound) c.loop-left.done.items popped (invariant.each work history bound all) in
          (h.0, subst (All (HasServed work history bound)) (sym pushed) h.1);
      weighs = λ weight.
          ap (λ l. sum_by weight l + sum_by (λ (b : Batch g.row.L.Denot g.row.C.Denot). sum_by weight b.done.items) (set batches at new)) pushed
          ∙ (weighs_less batches workers n at was new one invariant.same_len refl c.requires.some weight c.loop-left.done.items popped ∙ invariant.weighs weight);
      by_worker = λ k e within.
          ap (λ (l : List (Done g.row.L.Denot g.row.C.Denot)). (get_or (set batches at new) (workers - 1 - k) e).done.items ++ reverse (done_by k workers l)) pushed
          ∙ by_worker_less batches workers n at was new one invariant.same_len refl c.requires.some k e (get_or c.args.batches.now (workers - 1 - k) e).done.items
          c.loop-left.done.items within order.1 popped (invariant.by_worker k e within);
      room = (let len = c.push_reserved.ensures.len in let capacity = c.push_reserved.ensures.capacity in let room = invariant.room in omega arith);
    }

pub returns : goal.returns
returns g c =
    let none : c.loop-left.left ≡ 0 = (let f = c.loop-left-test.false in omega arith) in
    let invariant = c.loop-left.invariant in
    let h = all_gathered c.args.count c.args.batches.now c.loop-left.batches c.loop-left.done.items invariant.same_len
    (subst (λ m. InOrder m (length c.args.batches.now) 0 c.loop-left.batches) none invariant.in_order)
    (subst (λ m. range_with_len 0 m ++ reverse (numbers_of c.loop-left.done.items) ≡ range_with_len 0 c.args.count) none invariant.numbers)
    invariant.each invariant.weighs invariant.by_worker in
    subst (Gathered c.args.count c.args.batches.now) (sym c.reverse.ensures.items) h
