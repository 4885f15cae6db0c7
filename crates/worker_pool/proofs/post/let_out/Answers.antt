use Rattle.std.proofs.Common.{rules, ◌≡◌, ◌++◌, List, [], map, reverse, sym, ◌∙◌, subst, arith}
use Rattle.worker_pool.specs.declared.post.Queued.{Queued}
use Rattle.worker_pool.specs.declared.post.Waiting.{Waiting}
use Rattle.worker_pool.proofs.Handing.{let_out_all, let_out_none, let_out_one}
use Rattle.worker_pool.proofs.post.let_out.Goals as goal

pub loop-one-init : goal.loop-one-init
loop-one-init g c = record { room = c.requires.room; in_order = let_out_none (λ (q : Queued g.row.L.Denot). q.waiting) c.args.queued.items c.args.left.now.items c.requires.none }

pub loop-one-preserved : goal.loop-one-preserved
loop-one-preserved g c =
    let i = c.loop-one.invariant in
    let rest : List (Queued g.row.L.Denot) = c.pop.new.self.items in record {
      room = (let r = i.room in let n = c.in-Some.ensures.cases in let a = c.push_reserved.ensures.len in let b = c.push_reserved.ensures.capacity in omega arith);
      in_order = subst (λ (l : List (Waiting g.row.L.Denot)). map (λ (q : Queued g.row.L.Denot). q.waiting) rest ++ reverse l ≡ map (λ (q : Queued g.row.L.Denot). q.waiting) c.args.queued.items)
          (sym c.push_reserved.ensures.items)
          (let_out_one (λ (q : Queued g.row.L.Denot). q.waiting) c.loop-one.queued.items rest c.in-Some.one c.loop-one.left.items _ c.in-Some.ensures.items i.in_order);
    }

pub returns : goal.returns
returns g c =
    let none : c.loop-one.queued.items ≡ [] = search rules in
    c.reverse.ensures.items ∙ let_out_all (λ (q : Queued g.row.L.Denot). q.waiting) c.loop-one.queued.items c.loop-one.left.items _ none c.loop-one.invariant.in_order
