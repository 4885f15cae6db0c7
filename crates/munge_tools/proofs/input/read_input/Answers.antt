use Rattle.std.proofs.Common.{◌<◌, ◌≤◌, length, take, arith, refl}
use Rattle.std.proofs.lemmas.List.{length-take}
use Rattle.munge_tools.specs.InputRead.{too_long, unread}
use Rattle.munge_tools.proofs.input.read_input.Goals as goal

pub returns-in-Full-clause-none : goal.returns-in-Full-clause-none
returns-in-Full-clause-none g c =
    too_long c.read_full.new.into (omega (arith, c.read_full.auto.into, c.as_mut_slice.ensures.len, c.in-Ok.ensures.len)) c.in-Full.ensures.consumed refl

pub returns-in-Failed-clause-none : goal.returns-in-Failed-clause-none
returns-in-Failed-clause-none g c =
    let below : c.in-Failed.field-0 < length c.read_full.new.into = c.in-Failed.ensures.below in
    let within : length (take c.in-Failed.field-0 c.read_full.new.into) ≤ c.args.limit =
    simp length-take (omega (arith, below, c.read_full.auto.into, c.as_mut_slice.ensures.len, c.in-Ok.ensures.len)) in
    unread (take c.in-Failed.field-0 c.read_full.new.into) within c.in-Failed.ensures.consumed refl
