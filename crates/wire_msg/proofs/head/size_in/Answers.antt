use Rattle.std.proofs.Common.{arith, refl, ◌≤◌, length, drop, inl, inr}
use Rattle.std.proofs.lemmas.Bool.{cases_lt}
use Rattle.munge_types.specs.BigEndian.{be32}
use Rattle.wire_msg.proofs.Sizes.{between, begins_so, exactly}
use Rattle.wire_msg.proofs.Spelled.{allowed_within}
use Rattle.wire_msg.proofs.head.size_in.Goals as goal

pub returns-in-Some : goal.returns-in-Some
returns-in-Some c = λ size more rest allowed same.
    let limit = allowed_within c.args.kind size allowed in
    let within = between c.args.bytes.now more rest size c.requires (omega arith) same in
    let least : c.size_with-least.result ≤ size = rw c.size_with-least.ensures within.not_below in
    let most : size ≤ c.size_with-most.result = rw c.size_with-most.ensures within.not_above in
    let above = c.if-size-most.true in
    let first = c.in-Some.ensures.least size least allowed in
    omega arith

pub returns-in-Some-2 : goal.returns-in-Some-2
returns-in-Some-2 c =
    let least = rw c.size_with-least.ensures at c.in-Some.ensures.not_below in
    let most = rw c.size_with-most.ensures at c.if-size-most.false in (
      refl,
      c.in-Some.ensures.allowed,
      exactly c.args.bytes.now c.in-Some.size (λ i. omega (arith, c.type_inv.bytes i)) c.if-bytes-eq4.true least most,
    )

pub returns-in-Some-3 : goal.returns-in-Some-3
returns-in-Some-3 c =
    let least = rw c.size_with-least.ensures at c.in-Some.ensures.not_below in
    let most = rw c.size_with-most.ensures at c.if-size-most.false in
    let short = c.requires in (
      elim (cases_lt (length c.args.bytes.now) 4) [ inl fewer ↦ fewer | inr four ↦ absurd (c.if-bytes-eq4.false (omega arith)) ],
      record {
        size = c.in-Some.size;
        rest = drop (length c.args.bytes.now) (be32 c.in-Some.size);
        allowed = c.in-Some.ensures.allowed;
        completed = begins_so c.args.bytes.now c.in-Some.size (λ i. omega (arith, c.type_inv.bytes i)) c.requires least most;
      },
    )

pub returns-in-None : goal.returns-in-None
returns-in-None c = λ size more rest allowed same.
    let limit = allowed_within c.args.kind size allowed in
    let within = between c.args.bytes.now more rest size c.requires (omega arith) same in
    c.in-None.ensures.none size (rw c.size_with-least.ensures within.not_below) allowed
