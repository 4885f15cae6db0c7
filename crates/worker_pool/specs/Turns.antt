-- Which connections the doors gave.
use Rattle.std.specs.Prelude.{◌≡◌, ℕ, ◌+◌, ◌<◌, nat_eq, ◌&&◌, Bool, List, length, slice_get, slice_index_or}
use Rattle.std.specs.declared.option.Option.TheVariants.{Some}
use Rattle.worker_pool.specs.Accepting.{DoorSight}
use Rattle.worker_pool.specs.declared.handled.Handled.{Handled}
use Rattle.worker_pool.specs.declared.post.Post.{Post}
use Rattle.worker_pool.specs.declared.post.Queued.{Queued}
use Rattle.worker_pool.specs.declared.post.Waiting.{Waiting}

-- it is the connection of that post and turn
abbrev pub is_turn : {C : Type 0} → (post turn : ℕ) → Queued C → Bool
is_turn post turn item = nat_eq item.waiting.post post && nat_eq item.waiting.turn turn

-- the same of a connection that was kept
abbrev pub is_kept : {C : Type 0} → (post turn : ℕ) → Handled C → Bool
is_kept post turn handled = nat_eq handled.post post && nat_eq handled.turn turn

-- and of one that is left
abbrev pub is_left : {C : Type 0} → (post turn : ℕ) → Waiting C → Bool
is_left post turn waiting = nat_eq waiting.post post && nat_eq waiting.turn turn

-- A connection of one of these posts, with that post's caller. Where its door tells before and
-- after, it is the one that the door gave at its turn.
pub record IsGiven {D C : Type 0} (doors : DoorSight D C) (old new : List (Post D))
    (item : Queued C) : Type 0 where
  pub is_post : item.waiting.post < length old
  pub who_is : (post : Post D) → item.who ≡ (slice_index_or old item.waiting.post post).who
  -- those to come had it at this place, and this place is among those that came
  pub told : (post : Post D) (conns rest : List C)
      → doors.coming (slice_index_or old item.waiting.post post).door ≡ Some conns
      → doors.coming (slice_index_or new item.waiting.post post).door ≡ Some rest
      → (slice_get conns item.waiting.turn ≡ Some item.waiting.conn)
      × (item.waiting.turn + length rest < length conns)
