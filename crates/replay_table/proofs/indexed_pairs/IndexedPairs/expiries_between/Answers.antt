use Rattle.std.proofs.Common.{◌≡◌, arith, length}
use Rattle.std.proofs.lemmas.Iterator.Consumers.{count_from_yields_List, YieldsList-from_rest}
use Rattle.std.specs.BTreeMap.Range.{entries_between}
use Rattle.std.specs.Ordering.{nat_cmp}
use Rattle.std.specs.declared.ops.Bound.TheVariants.{Included, Excluded}
use Rattle.replay_table.proofs.GroupLemmas.{count-between, expiries_below-pairs_of}
use Rattle.replay_table.proofs.indexed_pairs.IndexedPairs.expiries_between.Goals as goal

pub returns-clause-counted : goal.returns-clause-counted
returns-clause-counted g c =
    let groups = c.self.inside.by_expiry.entries in
    let is = c.self.invariant.grouped in
    let counted : c.count.result ≡ length (entries_between nat_cmp (Included c.args.from) (Excluded c.args.to) groups) =
    count_from_yields_List c.range.result c.count.result c.count.ensures.ran
    (YieldsList-from_rest (entries_between nat_cmp (Included c.args.from) (Excluded c.args.to) groups) (c.range.ensures.between tt)) in
    rw (← c.self.view_is)
    (omega (
      arith,
      counted,
      expiries_below-pairs_of c.args.from groups is,
      expiries_below-pairs_of c.args.to groups is,
      count-between c.args.from c.args.to groups c.requires,
    ))
