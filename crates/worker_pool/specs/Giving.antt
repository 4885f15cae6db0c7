-- What a door gives, and what its acceptor puts into the queue.
use Rattle.std.specs.Prelude.{◌≡◌, ℕ, ◌+◌, ◌-◌, ◌<◌, ◌^◌, min, List, [], ◌∷◌, ◌++◌, length, slice_index_or}
use Rattle.std.specs.List.{All}
use Rattle.std.specs.declared.option.Option.{Option}
use Rattle.std.specs.declared.option.Option.TheVariants.{Some}
use Rattle.munge_types.specs.declared.identity.Identity.{Identity}
use Rattle.worker_pool.specs.declared.post.Queued.{Queued}

-- the connection of this post that its door gave at this turn, for this caller
abbrev pub queued : {C : Type 0} → (who : Identity) → (post turn : ℕ) → C → Queued C
queued who post turn conn =
    record { who = who; waiting = record { post = post; turn = turn; conn = conn } }

-- connections of a post, in order, which have this turn and those behind it
abbrev pub numbered : {C : Type 0} → (who : Identity) → (post turn : ℕ) → List C → List (Queued C)
numbered who post turn [] = []
numbered who post turn (conn ∷ conns) =
    queued who post turn conn ∷ numbered who post (turn + 1) conns

-- it is a connection of this post, for this caller
pub record IsOfPost {C : Type 0} (who : Identity) (post : ℕ) (item : Queued C) : Type 0 where
  pub who_is : item.who ≡ who
  pub post_is : item.waiting.post ≡ post

-- A door that had these connections to come has given the first of them, and just these were put.
pub record Gave {C : Type 0} (who : Identity) (post : ℕ) (conns : List C)
    (after : Option (List C)) (put : List (Queued C)) : Type 0 where
  pub gave : List C
  pub rest : List C
  pub conns_are : conns ≡ gave ++ rest
  pub after_is : after ≡ Some rest
  pub put_is : put ≡ numbered who post 0 gave

-- the turns count from 0, and stand still at their largest number
abbrev pub HasTurns : {C : Type 0} → (put : List (Queued C)) → Type 0
HasTurns {C} put = (k : ℕ) (item : Queued C) → k < length put
    → (slice_index_or put k item).waiting.turn ≡ min k (2 ^ 64 - 1)

-- What an acceptor has put: connections of its post alone, each with its turn, and, where its door
-- tells, just those that it gave, in order.
pub record Accepted {C : Type 0} (who : Identity) (post : ℕ) (before after : Option (List C))
    (put : List (Queued C)) : Type 0 where
  pub of_post : All (IsOfPost who post) put
  pub turns : HasTurns put
  pub told : (conns : List C) → before ≡ Some conns → Gave who post conns after put

-- the same while it works, when the next turn is this one
pub record Accepting {C : Type 0} (who : Identity) (post turn : ℕ) (before now : Option (List C))
    (put : List (Queued C)) : Type 0 where
  pub accepted : Accepted who post before now put
  pub turn_is : turn ≡ min (length put) (2 ^ 64 - 1)
  pub few : (conns : List C) → before ≡ Some conns → 0 < length put → length conns < 2 ^ 64
