use Rattle.std.proofs.Common.{◌≡◌, List, [], ◌∷◌, ◌++◌, ap, ◌∙◌, sym, subst, arith, map, reverse, Some}
use Rattle.std.proofs.lemmas.List.Elements.{All-pop}
use Rattle.crossbeam_queue.specs.Passes.{view, IsPassOf}
use Rattle.worker_pool.specs.declared.holders.Holder.{Holder}
use Rattle.worker_pool.specs.declared.queue.Ledger.{Ledger}
use Rattle.worker_pool.proofs.Queues.{merges}
use Rattle.worker_pool.proofs.Handing.{moved_out, flat_out, sum_out}
use Rattle.worker_pool.proofs.holders.gather.Goals as goal

pub absorb-requires-clause-rule : goal.absorb-requires-clause-rule
absorb-requires-clause-rule g c = merges _ _ _ _ c.loop-holder.invariant.has_parts.some_part

pub loop-holder-preserved : goal.loop-holder-preserved
loop-holder-preserved g c =
    let i = c.loop-holder.invariant in
    let T = g.row.T.Denot in
    let S = g.row.S.Denot in
    let rest : List (Holder T S) = c.pop.new.self.items in
    let holder : Holder T S = c.in-Some.holder in
    let holders : List (Holder T S) = c.loop-holder.holders.items in
    let split : holders ≡ rest ++ holder ∷ [] = c.in-Some.ensures.items in
    let same = c.absorb.ensures.queue in
    let both = c.absorb.ensures.rule in
    let some_part = i.has_parts.some_part in
    let part = ap (λ (v : Ledger T). v.parts) both in
    let fits = All-pop (λ (h : Holder T S). IsPassOf c.args.queue.now h.pass) holders rest
    (Some holder) split i.each in record {
      has_parts = record {
        of_queue = (same.0 ∙ i.has_parts.of_queue.0, same.2 ∙ i.has_parts.of_queue.1);
        some_part = omega arith;
      };
      each = fits.0;
      parts = sum_out (λ (h : Holder T S). (view h.pass).parts) (view c.loop-holder.home).parts
          (view c.absorb.new.pass).parts holders rest holder _ split part i.parts;
      put = flat_out (λ (h : Holder T S). (view h.pass).put) (view c.loop-holder.home).put
          (view c.absorb.new.pass).put holders rest holder _ split
          (ap (λ (v : Ledger T). v.put) both) i.put;
      taken = flat_out (λ (h : Holder T S). (view h.pass).taken) (view c.loop-holder.home).taken
          (view c.absorb.new.pass).taken holders rest holder _ split
          (ap (λ (v : Ledger T). v.taken) both) i.taken;
      states =
          subst (λ l. l ++ map (λ h. h.state) (reverse rest)
          ≡ map (λ h. h.state) (reverse c.args.holders.items))
          (sym c.push_reserved.ensures.items)
          (moved_out (λ (h : Holder T S). h.state) c.loop-holder.states.items holders rest holder _
          split i.states);
      room =
          (let r = i.room in
          let n = c.in-Some.ensures.cases in
          let a = c.push_reserved.ensures.len in
          let b = c.push_reserved.ensures.capacity in omega arith);
    }
