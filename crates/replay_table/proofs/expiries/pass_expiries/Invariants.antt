use Rattle.std.proofs.Common.{◌≡◌, ◌+◌, ◌≤◌}
use Rattle.munge_types.specs.Purge.{expiries_below}
use Rattle.replay_table.proofs.expiries.pass_expiries.Given as goal

abbrev pub invariant-expiries : goal.invariant-expiries
invariant-expiries l = record {
  from : l.from ≤ l.until;
  bound : l.until ≤ l.bound;
  counted : expiries_below l.until l.pairs ≡ expiries_below l.from l.pairs + l.count;
  few : l.count ≤ l.until;
}
