-- The doors of a daemon, one by one.
use Rattle.std.proofs.Common.{◌≡◌, ℕ, ◌+◌, ◌<◌, List, [], ◌∷◌, ◌++◌, length, get_or, take, drop, Option, Ok, Err, refl, sym, ap, ◌∙◌, subst, take-append-drop}
use Rattle.std.proofs.lemmas.List.{take_more, append_assoc}
use Rattle.byte_io.specs.OpensDoor.{OpensDoor}
use Rattle.byte_io.specs.declared.files.FileFail.{FileFail}
use Rattle.option_file.specs.declared.sockets.SocketLine.{SocketLine}
use Rattle.worker_pool.specs.declared.post.Post.{Post}
use Rattle.munged_files.specs.Ending.{Ending}
use Rattle.munged_run.specs.ServeDoors.{PostsOpened, Unopened, ending_after, stuck}

-- one door more
pub posts_more : {D : Type 0} (faults : D → ℕ) (lines : List SocketLine) (posts : List (Post D)) (line : SocketLine)
    (post : Post D) (before between after : Option (List (List ℕ × D)))
    → PostsOpened faults lines posts before between → post.who ≡ line.who
    → OpensDoor between after line.path (Ok post.door) → faults post.door ≡ 0
    → PostsOpened faults (lines ++ line ∷ []) (posts ++ post ∷ []) before after
posts_more faults [] [] line post before between after so who opens none =
    (after, who, subst (λ d. OpensDoor d after line.path (Ok post.door)) so opens, none, refl)
posts_more faults [] (p ∷ posts) line post before between after so who opens none = absurd so
posts_more faults (l ∷ lines) [] line post before between after so who opens none = absurd so
posts_more faults (l ∷ lines) (p ∷ posts) line post before between after so who opens none = (
  so.0,
  so.1,
  so.2,
  so.3,
  posts_more faults lines posts line post so.0 between after so.4 who opens none,
)

-- the first of a list, one more of them
pub posts_next : {D : Type 0} (faults : D → ℕ) (lines : List SocketLine) (i : ℕ) (line : SocketLine)
    (posts new : List (Post D)) (post : Post D) (before between after : Option (List (List ℕ × D)))
    → i < length lines → get_or lines i line ≡ line
    → PostsOpened faults (take i lines) posts before between → post.who ≡ line.who
    → OpensDoor between after line.path (Ok post.door) → faults post.door ≡ 0
    → new ≡ posts ++ post ∷ []
    → PostsOpened faults (take (i + 1) lines) new before after
posts_next faults lines i line posts new post before between after within is so who opens none new_is =
    let front = take_more lines i line within ∙ ap (λ x. take i lines ++ x ∷ []) is in
    subst (λ l. PostsOpened faults l new before after) (sym front)
    (subst (λ p. PostsOpened faults (take i lines ++ line ∷ []) p before after) (sym new_is)
    (posts_more faults (take i lines) posts line post before between after so who opens none))

-- a list, cut at one of them
pub cut_at : (lines : List SocketLine) (i : ℕ) (line : SocketLine) → i < length lines
    → get_or lines i line ≡ line → lines ≡ take i lines ++ line ∷ drop (i + 1) lines
cut_at lines i line within is =
    let front = take_more lines i line within ∙ ap (λ x. take i lines ++ x ∷ []) is in
    sym (take-append-drop (i + 1) lines) ∙ ap (λ l. l ++ drop (i + 1) lines) front
    ∙ append_assoc (take i lines) (line ∷ []) (drop (i + 1) lines)

-- a door that was not opened
pub stuck_at : {D : Type 0} (faults : D → ℕ) (lines : List SocketLine) (i : ℕ) (line : SocketLine)
    (posts : List (Post D)) (before between after : Option (List (List ℕ × D))) (why : FileFail)
    (how : Ending) → i < length lines → get_or lines i line ≡ line
    → PostsOpened faults (take i lines) posts before between → OpensDoor between after line.path (Err why)
    → how ≡ ending_after why → Unopened faults lines before after how
stuck_at faults lines i line posts before between after why how within is so opens how_is =
    stuck (take i lines) line (drop (i + 1) lines) (cut_at lines i line within is) posts between so
    why opens how_is
