-- An acceptor's run.
use Rattle.std.proofs.Common.{◌≡◌, ℕ, ◌+◌, ◌<◌, ◌^◌, ◌-◌, min, suc, List, [], ◌∷◌, ◌++◌, length, get_or, Option, Some, None, IfSome, IsSomeAnd, sym, ap, ◌∙◌, refl, subst, arith, append_assoc, length-append}
use Rattle.std.proofs.lemmas.List.{get_or_append_left, get_or_push, length_push}
use Rattle.std.proofs.lemmas.List.Elements.{All-nil, All-push}
use mathlib.Core.Logic.{dite}
use native.Mathlib.Decide.{ℕ_discrete}
use Rattle.munge_types.specs.declared.identity.Identity.{Identity}
use Rattle.byte_io.specs.Doors.{Accepts}
use Rattle.byte_io.specs.declared.door.Next.{Next}
use Rattle.byte_io.specs.declared.door.Next.TheVariants.{Conn, Over, Failed}
use Rattle.worker_pool.specs.declared.post.Queued.{Queued}
use Rattle.worker_pool.specs.declared.queue.Ledger.{Ledger}
use Rattle.worker_pool.specs.Queue.{HasPut}
use Rattle.worker_pool.specs.Giving.{queued, numbered, IsOfPost, Gave, HasTurns, Accepted, Accepting}

-- a pass with one part that has taken nothing, after one more was put by it
pub put_more : {T : Type 0} (old new : Ledger T) (item : T) → HasPut old item new → old.parts ≡ 1
    → old.taken ≡ []
    → (new.parts ≡ 1) × (new.taken ≡ []) × (new.put ≡ old.put ++ item ∷ [])
put_more old new item is one none = (
  ap (λ (v : Ledger _). v.parts) is ∙ one,
  ap (λ (v : Ledger _). v.taken) is ∙ none,
  ap (λ (v : Ledger _). v.put) is,
)

turns_push : {C : Type 0} (put : List (Queued C)) (item : Queued C) → HasTurns put
    → item.waiting.turn ≡ min (length put) (2 ^ 64 - 1) → HasTurns (put ++ item ∷ [])
turns_push put item turns turn k none within =
    let long = length_push put item in
    dite (ℕ_discrete (length put) k)
    (λ last. subst (λ n. (get_or (put ++ item ∷ []) k none).waiting.turn ≡ min n (2 ^ 64 - 1)) last
    (ap (λ (x : Queued _). x.waiting.turn) (get_or_push put item none k last) ∙ turn))
    (λ apart.
    let inside : k < length put = omega arith in
    ap (λ (x : Queued _). x.waiting.turn) (get_or_append_left put (item ∷ []) none k inside)
    ∙ turns k none inside)

module _ {C : Type 0} (who : Identity) (post : ℕ) where
  length_numbered : (turn : ℕ) (conns : List C)
      → length (numbered who post turn conns) ≡ length conns
  length_numbered turn [] = refl
  length_numbered turn (conn ∷ conns) = ap suc (length_numbered (turn + 1) conns)

  numbered_push : (turn : ℕ) (conns : List C) (conn : C)
      → numbered who post turn (conns ++ conn ∷ [])
      ≡ numbered who post turn conns ++ queued who post (turn + length conns) conn ∷ []
  numbered_push turn [] conn =
      let e : turn ≡ turn + 0 = omega arith in ap (λ n. queued who post n conn ∷ []) e
  numbered_push turn (x ∷ conns) conn =
      let first : Queued C = queued who post turn x in
      let e : turn + 1 + length conns ≡ turn + suc (length conns) = omega arith in
      ap (λ l. first ∷ l) (numbered_push (turn + 1) conns conn
      ∙ ap (λ n. numbered who post (turn + 1) conns ++ queued who post n conn ∷ []) e)

  pub accepting_none : (coming : Option (List C)) → Accepting who post 0 coming coming []
  accepting_none coming = record {
    accepted = record {
      of_post = All-nil (IsOfPost {C = C} who post);
      turns = λ k item within. absurd (omega arith);
      told = λ conns is. record {
        gave = [];
        rest = conns;
        conns_are = refl;
        after_is = is;
        put_is = refl;
      };
    };
    turn_is = refl;
    few = λ conns is some. absurd (omega arith);
  }

  first_of : (rest : List C) (new : Option (List C)) (conn : C)
      → IsSomeAnd new (λ left. rest ≡ conn ∷ left)
      → (after : List C) × (rest ≡ conn ∷ after) × (new ≡ Some after)
  first_of rest None conn is = absurd is
  first_of rest (Some left) conn is = (left, is, refl)

  gives_some : (rest : List C) (now new : Option (List C)) (conn : C) → now ≡ Some rest
      → Accepts now new (Conn conn)
      → (after : List C) × (rest ≡ conn ∷ after) × (new ≡ Some after)
  gives_some rest now new conn is told =
      first_of rest new conn (subst (λ (z : Option (List C)). Accepts z new (Conn conn)) is told)

  stays : (rest : List C) (now new : Option (List C)) (answer : Next C) → now ≡ Some rest
      → Accepts now new answer → ((conn : C) → answer ≡ Conn conn → ⊥) → new ≡ Some rest
  stays rest now new answer is told none =
      by_case answer none (subst (λ (z : Option (List C)). Accepts z new answer) is told)
    where
      by_case : (a : Next C) → ((conn : C) → a ≡ Conn conn → ⊥) → Accepts (Some rest) new a
          → new ≡ Some rest
      by_case (Conn conn) none told = absurd (none conn refl)
      by_case Over none told = told
      by_case Failed none told = told

  few_some : (rest : List C) (now : Option (List C)) → now ≡ Some rest
      → IfSome now (λ conns. length conns < 2 ^ 64) → length rest < 2 ^ 64
  few_some rest now is few =
      subst (λ (z : Option (List C)). IfSome z (λ conns. length conns < 2 ^ 64)) is few

  module _ (turn next : ℕ) (first now new : Option (List C)) (put : List (Queued C)) (conn : C)
      (next_is : next ≡ min (turn + 1) (2 ^ 64 - 1))
      (few : IfSome now (λ conns. length conns < 2 ^ 64)) (told : Accepts now new (Conn conn))
      (before : Accepting who post turn first now put) where
    small : (conns : List C) → first ≡ Some conns → length conns < 2 ^ 64
    small conns is =
        let had = before.accepted.told conns is in
        let n = ap length had.conns_are in
        let a = length-append had.gave had.rest in
        let l = ap length had.put_is in
        let m = length_numbered 0 had.gave in
        let f = few_some had.rest now had.after_is few in
        dite (ℕ_discrete (length put) 0) (λ none. omega arith)
        (λ some. before.few conns is (omega arith))

    gave_more : (conns : List C) → first ≡ Some conns
        → Gave who post conns new (put ++ queued who post turn conn ∷ [])
    gave_more conns is =
        let had = before.accepted.told conns is in
        let more = gives_some had.rest now new conn had.after_is told in
        let n = ap length had.conns_are in
        let a = length-append had.gave had.rest in
        let l = ap length had.put_is in
        let m = length_numbered 0 had.gave in
        let s = small conns is in
        let t = before.turn_is in
        let place : 0 + length had.gave ≡ turn = omega arith in record {
          gave = had.gave ++ conn ∷ [];
          rest = more.0;
          conns_are = had.conns_are ∙ (ap (λ l. had.gave ++ l) more.1
              ∙ sym (append_assoc had.gave (conn ∷ []) more.0));
          after_is = more.2;
          put_is = ap (λ l. l ++ queued who post turn conn ∷ []) had.put_is
              ∙ (ap (λ n. numbered who post 0 had.gave ++ queued who post n conn ∷ []) (sym place)
              ∙ sym (numbered_push 0 had.gave conn));
        }

    accepting_more :
        Accepting who post next first new (put ++ queued who post turn conn ∷ [])
    unfolding gave_more
    accepting_more = record {
      accepted = record {
        of_post = All-push (IsOfPost {C = C} who post) put (queued who post turn conn)
            before.accepted.of_post (record { who_is = refl; post_is = refl });
        turns = turns_push put (queued who post turn conn) before.accepted.turns before.turn_is;
        told = gave_more;
      };
      turn_is =
          let l = length_push put (queued who post turn conn) in
          let t = before.turn_is in
          next_is ∙ omega arith;
      few = λ conns is some. small conns is;
    }

    -- where the post is named by what was kept of it
    pub accepting_put : (who' : Identity) (post' : ℕ) (put' : List (Queued C)) → who' ≡ who
        → post' ≡ post → put' ≡ put ++ queued who' post' turn conn ∷ []
        → Accepting who post next first new put'
    accepting_put who' post' put' who_is post_is put_is =
        subst (Accepting who post next first new)
        (sym (put_is ∙ (ap (λ w. put ++ queued w post' turn conn ∷ []) who_is
        ∙ ap (λ n. put ++ queued who n turn conn ∷ []) post_is))) accepting_more

  pub accepted_all : (turn : ℕ) (first now new : Option (List C)) (put : List (Queued C))
      (answer : Next C) → ((conn : C) → answer ≡ Conn conn → ⊥) → Accepts now new answer
      → Accepting who post turn first now put → Accepted who post first new put
  accepted_all turn first now new put answer none told before = record {
    of_post = before.accepted.of_post;
    turns = before.accepted.turns;
    told = λ conns is.
        let had = before.accepted.told conns is in record {
          gave = had.gave;
          rest = had.rest;
          conns_are = had.conns_are;
          after_is = stays had.rest now new answer had.after_is told none;
          put_is = had.put_is;
        };
  }
