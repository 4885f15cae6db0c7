-- What became of all posts, from what each acceptor leaves.
use Rattle.std.proofs.Common.{◌≡◌, ℕ, ◌+◌, ◌-◌, ◌<◌, List, [], ◌∷◌, length, map, reverse, get_or, Option, sym, ap, ◌∙◌, subst, arith}
use Rattle.std.specs.List.{range_with_len}
use Rattle.std.proofs.lemmas.List.{length-map, length-reverse, get_or-reverse, get_or-map}
use Rattle.std.proofs.lemmas.List.FromFn.{get_or-range_with_len}
use Rattle.crossbeam_queue.specs.declared.array_queue.Doing.{Doing}
use Rattle.crossbeam_queue.specs.declared.array_queue.Slotted.{Slotted}
use Rattle.worker_pool.specs.Accepting.{DoorSight, PostRan, PostsRan, EachAccepted}
use Rattle.worker_pool.specs.Holders.{put_by}
use Rattle.worker_pool.specs.declared.holders.Holder.{Holder}
use Rattle.worker_pool.specs.declared.post.Post.{Post}
use Rattle.worker_pool.specs.declared.post.Queued.{Queued}
use Rattle.worker_pool.specs.declared.queue.Ledger.{Ledger}

module _ {D C Q A : Type 0} (doors : DoorSight D C)
    (queue : Slotted (Option (Queued C)) (Doing (Queued C) (Ledger (Queued C))) Q A) where
  state : Holder (Queued C) (Post D) → Post D
  state h = h.state

  number : Holder (Queued C) (Post D) → ℕ
  number h = h.number

  puts : Holder (Queued C) (Post D) → List (Queued C)
  puts h = put_by h

  post_at : (posts back : List (Post D)) (old new : List (Holder (Queued C) (Post D)))
      (h : Holder (Queued C) (Post D)) (p : ℕ) (post : Post D) (l : List (Queued C))
      → map (λ h. h.state) (reverse old) ≡ posts
      → map (λ h. h.number) (reverse old) ≡ range_with_len 0 (length posts)
      → back ≡ map (λ h. h.state) (reverse new)
      → length new ≡ length old → length posts ≡ length old
      → EachAccepted doors queue old new → p < length old
      → PostRan doors p (get_or posts p post) (get_or back p post)
      (get_or (map put_by (reverse new)) p l)
  unfolding state number puts
  post_at posts back old new h p post l states numbers back_is same count each within =
      let k = length old - 1 - p in
      let ro = length-reverse old in
      let rn = length-reverse new in
      let at_old : get_or (reverse old) p h ≡ get_or old k h = get_or-reverse old p h within in
      let j : length new - 1 - p ≡ k = omega arith in
      let at_new : get_or (reverse new) p h ≡ get_or new k h =
      get_or-reverse new p h (omega arith) ∙ ap (λ i. get_or new i h) j in
      let post_old : get_or posts p post ≡ (get_or old k h).state =
      ap (λ z. get_or z p post) (sym states)
      ∙ (get_or-map state (reverse old) p h post (omega arith) ∙ ap state at_old) in
      let post_new : get_or back p post ≡ (get_or new k h).state =
      ap (λ z. get_or z p post) back_is
      ∙ (get_or-map state (reverse new) p h post (omega arith) ∙ ap state at_new) in
      let put_new : get_or (map put_by (reverse new)) p l ≡ put_by (get_or new k h) =
      get_or-map puts (reverse new) p h l (omega arith) ∙ ap puts at_new in
      let zero_p : 0 + p ≡ p = omega arith in
      let is_p : (get_or old k h).number ≡ p =
      sym (ap number at_old) ∙ (sym (get_or-map number (reverse old) p h 0 (omega arith))
      ∙ (ap (λ z. get_or z p 0) numbers
      ∙ (get_or-range_with_len 0 (length posts) p 0 (omega arith) ∙ zero_p))) in
      let did = each k h (omega arith) in
      subst (λ n. PostRan doors n (get_or posts p post) (get_or back p post)
      (get_or (map put_by (reverse new)) p l)) is_p
      (subst (λ x. PostRan doors (get_or old k h).number x (get_or back p post)
      (get_or (map put_by (reverse new)) p l)) (sym post_old)
      (subst (λ x. PostRan doors (get_or old k h).number (get_or old k h).state x
      (get_or (map put_by (reverse new)) p l)) (sym post_new)
      (subst (λ x. PostRan doors (get_or old k h).number (get_or old k h).state
      (get_or new k h).state x) (sym put_new) did.ran)))

  pub posts_ran : (posts back : List (Post D)) (old new : List (Holder (Queued C) (Post D)))
      → map (λ h. h.state) (reverse old) ≡ posts
      → map (λ h. h.number) (reverse old) ≡ range_with_len 0 (length posts)
      → back ≡ map (λ h. h.state) (reverse new)
      → length new ≡ length old → EachAccepted doors queue old new
      → PostsRan doors posts back (map put_by (reverse new))
  unfolding state puts
  posts_ran posts back old new states numbers back_is same each =
      let a = length-map (reverse old) state in
      let b = length-reverse old in
      let e = length-reverse new in
      let f = length-map (reverse new) puts in
      let g = length-map (reverse new) state in
      let s = ap length states in
      let t = ap length back_is in record {
        posts_stay = omega arith;
        puts_each = omega arith;
        each = λ p post l within.
            at old new states numbers back_is same (omega arith) each p post l (omega arith);
      }
    where
      at : (old new : List (Holder (Queued C) (Post D))) → map (λ h. h.state) (reverse old) ≡ posts
          → map (λ h. h.number) (reverse old) ≡ range_with_len 0 (length posts)
          → back ≡ map (λ h. h.state) (reverse new) → length new ≡ length old
          → length posts ≡ length old → EachAccepted doors queue old new
          → (p : ℕ) (post : Post D) (l : List (Queued C)) → p < length old
          → PostRan doors p (get_or posts p post) (get_or back p post)
          (get_or (map put_by (reverse new)) p l)
      at [] new states numbers back_is same count each p post l within = absurd (omega arith)
      at (h ∷ old) new states numbers back_is same count each p post l within =
          post_at posts back (h ∷ old) new h p post l states numbers back_is same count each within
