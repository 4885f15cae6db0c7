-- What a meeting of two passes makes.
use Rattle.std.specs.Prelude.{◌≡◌, ◌+◌, max, ◌++◌}
use Rattle.replay_gate.specs.GoesOn.{GoesOn, longer_of}
use Rattle.replay_gate.specs.Makers.{AreApart}
use Rattle.replay_gate.specs.PassState.{PassState}

-- the first of two passes has taken the second in
pub record Meets (first second new : PassState) : Type 0 where
  pub gate : new.gate ≡ first.gate
  pub number : new.number ≡ first.number
  pub numbers : new.numbers ≡ first.numbers ++ second.numbers
  pub spare : new.spare ≡ first.spare
  pub share : new.share ≡ first.share + second.share
  pub highest : new.highest ≡ max first.highest second.highest
  pub seen : new.seen ≡ longer_of first.seen second.seen
  pub first_goes_on : GoesOn first.numbers first.seen new.seen
  pub second_goes_on : GoesOn second.numbers second.seen new.seen
  -- no number belongs to both
  pub apart : AreApart first.numbers second.numbers
