-- The seed of a session, and the place of the next word of it, where it has dice.
use Rattle.std.specs.Prelude.{ℕ, List}
use Rattle.std.specs.declared.option.Option.{Option}
use Rattle.std.specs.declared.option.Option.TheVariants.{None, Some}
use Rattle.cred_seal.specs.Dice.{DiceState}

-- the seed of the dice, if there are any
abbrev pub seed_of : Option DiceState → Option (List ℕ)
seed_of None = None
seed_of (Some dice) = Some dice.seed

-- the place of the next word; without a seed no word is drawn
abbrev pub place_of : Option DiceState → ℕ
place_of None = 0
place_of (Some dice) = dice.place
