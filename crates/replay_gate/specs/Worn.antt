-- A gate that gives no more tickets.
use Rattle.std.specs.Prelude.{◌≡◌, ℕ, ◌≤◌}
use Rattle.replay_gate.specs.PassState.{PassState}

-- the ticket word at which a gate is worn: 2^62
abbrev pub worn_at : ℕ
worn_at = 4611686018427387904

-- the call read this ticket word, which is worn, and made no entry
pub record IsWorn (old new : PassState) (ticket : ℕ) : Type 0 where
  pub worn : worn_at ≤ ticket
  pub not_below : old.highest ≤ ticket
  pub after_is : new ≡ record old { highest = ticket }
