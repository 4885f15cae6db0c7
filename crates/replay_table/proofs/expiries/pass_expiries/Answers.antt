use Rattle.std.proofs.Common.{arith}
use Rattle.munge_types.proofs.PurgeLemmas.{next_is, counted_to_next, counted_to_bound}
use Rattle.replay_table.proofs.expiries.pass_expiries.Goals as goal

pub returns-then-expiry-bound-clause-all : goal.returns-then-expiry-bound-clause-all
returns-then-expiry-bound-clause-all c = λ less.
    let next = rw (← c.next_expiry-expiry.ensures) at (next_is c.expiries.until c.args.bound c.args.pairs.now c.expiries.invariant.bound) in
    omega (arith, counted_to_bound c.expiries.until c.args.bound c.next_expiry-expiry.result c.args.pairs.now next (omega arith))

pub overflow_add-until : goal.overflow_add-until
overflow_add-until c =
    let next = rw (← c.next_expiry-expiry.ensures) at (next_is c.expiries.until c.args.bound c.args.pairs.now c.expiries.invariant.bound) in
    omega (arith, next.high, c.ranges.bound.fits)

pub expiries-preserved : goal.expiries-preserved
expiries-preserved c =
    let next = rw (← c.next_expiry-expiry.ensures) at (next_is c.expiries.until c.args.bound c.args.pairs.now c.expiries.invariant.bound) in
    let counted = counted_to_next c.expiries.until c.args.bound c.next_expiry-expiry.result c.args.pairs.now next (omega (arith, next.high)) in
    record {
      from = omega (arith, next.low);
      bound = omega (arith, next.high);
      counted = omega (arith, counted);
      few = omega (arith, next.low);
    }
