-- The doors of a daemon.
use Rattle.std.specs.Prelude.{◌≡◌, ℕ, ◌<◌, Bool, List, [], ◌∷◌, ◌++◌}
use Rattle.std.specs.List.{list_any}
use Rattle.std.specs.declared.option.Option.{Option}
use Rattle.std.specs.declared.result.Result.TheVariants.{Ok, Err}
use Rattle.byte_io.specs.OpensDoor.{OpensDoor}
use Rattle.byte_io.specs.declared.files.FileFail.{FileFail}
use Rattle.byte_io.specs.declared.files.FileFail.TheVariants.{Failed, NoMemory}
use Rattle.option_file.specs.declared.sockets.SocketLine.{SocketLine}
use Rattle.worker_pool.specs.declared.post.Post.{Post}
use Rattle.munged_files.specs.Ending.{Ending}
use Rattle.munged_files.specs.Ending as ending

-- There is a post for each of these sockets, in order: it has the socket's caller, and the door
-- that the hall had for its path, where the hall tells its doors; and that door has had no fault.
abbrev pub PostsOpened : {D : Type 0} → (faults : D → ℕ) → List SocketLine → List (Post D)
    → (before after : Option (List (List ℕ × D))) → Type 0
PostsOpened faults [] [] before after = after ≡ before
PostsOpened faults [] (post ∷ posts) before after = ⊥
PostsOpened faults (line ∷ lines) [] before after = ⊥
PostsOpened {D} faults (line ∷ lines) (post ∷ posts) before after =
    (between : Option (List (List ℕ × D))) × (post.who ≡ line.who)
    × OpensDoor before between line.path (Ok post.door) × (faults post.door ≡ 0)
    × PostsOpened faults lines posts between after

-- how the program ends where a door is not opened
abbrev pub ending_after : FileFail → Ending
ending_after Failed = ending.socket_failed
ending_after NoMemory = ending.no_memory

-- Not all of these sockets have a door, and the program ends so.
pub data Unopened {D : Type 0} (faults : D → ℕ) (lines : List SocketLine)
    (before after : Option (List (List ℕ × D))) (how : Ending) : Type 0 where
  -- there was no memory before the first
  no_room : after ≡ before → how ≡ ending.no_memory → Unopened faults lines before after how
  -- those before this one have, and it was not opened
  stuck : (front : List SocketLine) (line : SocketLine) (rest : List SocketLine)
      → lines ≡ front ++ line ∷ rest → (posts : List (Post D))
      → (between : Option (List (List ℕ × D))) → PostsOpened faults front posts before between
      → (why : FileFail) → OpensDoor between after line.path (Err why)
      → how ≡ ending_after why → Unopened faults lines before after how

-- a door of these posts has failed
abbrev pub has_failed : {D : Type 0} → List (Post D) → Bool
has_failed posts = list_any (λ post. post.failed) posts

-- a door of these posts has faults
pub record HasFaultyDoor {D : Type 0} (faults : D → ℕ) (posts : List (Post D)) : Type 0 where
  pub front : List (Post D)
  pub post : Post D
  pub rest : List (Post D)
  pub posts_are : posts ≡ front ++ post ∷ rest
  pub faulty : 0 < faults post.door
