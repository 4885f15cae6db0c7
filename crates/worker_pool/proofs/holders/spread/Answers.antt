use Rattle.std.proofs.Common.{◌≡◌, ◌+◌, List, [], ◌∷◌, ◌++◌, length, ap, ◌∙◌, refl, sym, subst, arith, map, reverse}
use Rattle.std.specs.List.{All, range_with_len}
use Rattle.std.proofs.lemmas.List.Elements.{All-push}
use Rattle.worker_pool.specs.Holders.{IsNewLedger}
use Rattle.worker_pool.specs.declared.holders.Holder.{Holder}
use Rattle.worker_pool.specs.declared.queue.Ledger.{Ledger}
use Rattle.worker_pool.proofs.Queues.{forks}
use Rattle.worker_pool.proofs.Handing.{range_last, moved_back}
use Rattle.worker_pool.proofs.holders.spread.Goals as goal

pub another-pass-requires-clause-rule : goal.another-pass-requires-clause-rule
another-pass-requires-clause-rule g c =
    let i = c.loop-state.invariant in
    let p = i.parts in
    let q = c.requires.parts in
    let n = c.in-Some.ensures.cases in
    let few = i.fewer in forks _ _ (omega arith)

pub loop-state-preserved : goal.loop-state-preserved
loop-state-preserved g c =
    let i = c.loop-state.invariant in
    let T = g.row.T.Denot in
    let S = g.row.S.Denot in
    let rest : List S = c.pop.new.self.items in
    let holders : List (Holder T S) = c.loop-state.holders.items in
    let holder : Holder T S = record {
      number = c.len-number.result;
      pass = c.another-pass.result;
      state = c.in-Some.state;
    } in
    let split : c.loop-state.states.items ≡ rest ++ c.in-Some.state ∷ [] =
    c.in-Some.ensures.items in
    let pushed : c.push_reserved.new.self.items ≡ holders ++ holder ∷ [] =
    c.push_reserved.ensures.items in
    let same = c.another-pass.ensures.queue in
    let left = c.another-pass.ensures.rule in
    let n = c.in-Some.ensures.cases in
    let q = c.requires.parts in
    let p = i.parts in
    let few = i.fewer in
    let number_is : c.len-number.result ≡ length rest = omega (arith, c.len-number.ensures) in
    let part = ap (λ (v : Ledger T). v.parts) left.0 in
    let count : length c.loop-state.states.items ≡ length rest + 1 = omega arith in record {
      of_queue = (same.0.0 ∙ i.of_queue.0, same.0.2 ∙ i.of_queue.1);
      parts = omega arith;
      put = ap (λ (v : Ledger T). v.put) left.0 ∙ i.put;
      taken = ap (λ (v : Ledger T). v.taken) left.0 ∙ i.taken;
      each = subst (All (IsNewLedger c.args.queue.now)) (sym pushed)
          (All-push (IsNewLedger c.args.queue.now) holders holder i.each
          record { of_queue = same.1; is_new = left.1 });
      states = subst (λ l. rest ++ map (λ h. h.state) (reverse l) ≡ c.args.states.items)
          (sym pushed)
          (moved_back (λ (h : Holder T S). h.state) c.loop-state.states.items rest c.in-Some.state
          holders holder c.args.states.items refl split i.states);
      numbers =
          subst (λ l. range_with_len 0 (length rest) ++ map (λ h. h.number) (reverse l)
          ≡ range_with_len 0 (length c.args.states.items)) (sym pushed)
          (moved_back (λ (h : Holder T S). h.number)
          (range_with_len 0 (length c.loop-state.states.items)) (range_with_len 0 (length rest))
          (length rest) holders holder (range_with_len 0 (length c.args.states.items)) number_is
          (range_last (length c.loop-state.states.items) (length rest) count) i.numbers);
      room =
          (let r = i.room in
          let a = c.push_reserved.ensures.len in
          let b = c.push_reserved.ensures.capacity in omega arith);
      fewer = omega arith;
    }
