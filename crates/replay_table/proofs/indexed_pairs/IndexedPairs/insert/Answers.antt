use Rattle.std.proofs.Common.{true, cond, Result, Ok, Err, IsOk, OnOk, ap, ◌∙◌, arith}
use Rattle.munge_types.specs.Pair.{pair_eq}
use Rattle.replay_table.proofs.SetLemmas.{IsSetOf-inserted}
use Rattle.replay_table.proofs.indexed_pairs.IndexedPairs.insert.Goals as goal
use Rattle.replay_table.specs.Groups.{pairs_of}

at_ok : {T E P : Type 0} (r : Result T E) → IsOk r → OnOk r P → P
at_ok (Ok x) is p = p
at_ok (Err e) is p = cc

pub invariant_of-self-in_err-put_mac : goal.invariant_of-self-in_err-put_mac
invariant_of-self-in_err-put_mac g c = record {
  grouped = c.in_err-put_mac.ensures.grouped;
  pairs = rw c.in_err-put_mac.ensures.err (record {
    once = c.self.invariant.pairs.once;
    same = λ pair. c.in_ok-reserve.ensures.keys.2 pair ∙ c.self.invariant.pairs.same pair;
  });
}

pub invariant_of-self-2 : goal.invariant_of-self-2
invariant_of-self-2 g c = record {
  grouped = c.in_ok-put_mac.ensures.grouped;
  pairs =
      let put = at_ok c.insert.result (c.insert.ensures.succeeds (omega (arith, c.in_ok-reserve.ensures.ok))) c.insert.ensures.updates in
      IsSetOf-inserted (pairs_of c.self.inside.by_expiry.entries) _ c.args.pair.now c.self.inside.set.keys c.insert.new.self.keys
      (rw (← c.self.view_is) at c.requires) c.in_ok-put_mac.ensures.put
      (λ sought. put.0 sought ∙ ap (cond (pair_eq c.args.pair.now sought) true) (c.in_ok-reserve.ensures.keys.2 sought))
      c.self.invariant.pairs;
}
