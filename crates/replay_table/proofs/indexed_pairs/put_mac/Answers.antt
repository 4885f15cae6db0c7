use Rattle.std.proofs.Common.{◌≡◌, ◌<◌, ◌++◌, ◌∷◌, [], List, ℕ, Result, Ok, Err, OnErr, length, sym, ◌∙◌, arith, length-append}
use Rattle.std.proofs.lemmas.Map.Steps.{set_value_same}
use Rattle.std.specs.BTreeMap.{is_at}
use Rattle.std.specs.Ordering.{nat_cmp}
use Rattle.replay_table.proofs.GroupLemmas.{pairs_of-set_value, pairs_of-insert_entry, filled-set_value, filled-insert_entry}
use Rattle.replay_table.proofs.indexed_pairs.put_mac.Goals as goal
use Rattle.replay_table.proofs.indexed_pairs.put_mac.Goals.{After-from_residual}

held : {T E Q : Type 0} (r : Result T E) → Q → OnErr r Q
held (Ok x) q = tt
held (Err e) q = q

-- what was found and not written stays
same : (c : After-from_residual) → (c.get_mut.follows.lender c.push.new.self).entries ≡ c.args.by_expiry.now.entries
same c =
    (c.get_mut.follows.holds c.push.new.self).0
    ∙ set_value_same (is_at (nat_cmp c.args.pair.now.expiry)) c.args.by_expiry.now.entries c.push.new.self
    (sym (rw (← c.in_err-push.ensures.err) at c.in-Some.ensures.value))

pub returns-in_err-push-clause-err : goal.returns-in_err-push-clause-err
returns-in_err-push-clause-err c = held c.from_residual.result (same c)

pub returns-in_err-push-clause-grouped : goal.returns-in_err-push-clause-grouped
returns-in_err-push-clause-grouped c = rw (same c) c.requires

some_more : (macs : List (List ℕ)) (mac : List ℕ) → 0 < length (macs ++ mac ∷ [])
some_more macs mac = omega (arith, length-append macs (mac ∷ []))

pub returns-in-Some-clause-grouped : goal.returns-in-Some-clause-grouped
returns-in-Some-clause-grouped c = record {
  rising = (c.get_mut.follows.holds c.push.new.self).4;
  filled = rw ((c.get_mut.follows.holds c.push.new.self).0, c.in_ok-push.ensures.pushed)
      (filled-set_value (is_at (nat_cmp c.args.pair.now.expiry)) c.args.by_expiry.now.entries (c.in-Some.macs.now ++ c.args.pair.now.mac ∷ [])
      (some_more c.in-Some.macs.now c.args.pair.now.mac) c.requires.filled);
}

pub returns-in-Some-clause-put : goal.returns-in-Some-clause-put
returns-in-Some-clause-put c =
    rw ((c.get_mut.follows.holds c.push.new.self).0, c.in_ok-push.ensures.pushed)
    (pairs_of-set_value c.args.pair.now.expiry c.args.pair.now.mac c.args.by_expiry.now.entries c.in-Some.macs.now (sym c.in-Some.ensures.value))

pub returns-clause-grouped : goal.returns-clause-grouped
returns-clause-grouped c = record {
  rising = c.in_ok-insert.ensures.ordered;
  filled = rw (c.in_ok-insert.ensures.entries, c.in_ok-push-2.ensures.pushed, c.new-macs.ensures, c.get_mut.follows.holds-at-none)
      (filled-insert_entry c.args.pair.now.expiry c.args.by_expiry.now.entries (c.args.pair.now.mac ∷ []) (omega arith) c.requires.filled);
}

pub returns-clause-put : goal.returns-clause-put
returns-clause-put c =
    rw (c.in_ok-insert.ensures.entries, c.in_ok-push-2.ensures.pushed, c.new-macs.ensures, c.get_mut.follows.holds-at-none)
    (pairs_of-insert_entry c.args.pair.now.expiry c.args.pair.now.mac c.args.by_expiry.now.entries (sym c.in_default.ensures.value))
