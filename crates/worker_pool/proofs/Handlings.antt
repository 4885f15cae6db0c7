-- One connection that a worker took, in a longer history and within a higher bound.
use Rattle.std.proofs.Common.{◌≡◌, ℕ, ◌≤◌, false, nat_eq, List, [], ◌∷◌, ◌++◌, Option, Some, None, sym, ap, ◌∙◌, refl, subst}
use Rattle.std.proofs.lemmas.Bool.{true≢false}
use Rattle.std.proofs.lemmas.Bool.Decides.{Decides-eqb}
use Rattle.std.proofs.lemmas.List.{append-nil}
use Rattle.std.proofs.lemmas.List.Elements.{All-append, All-cons, All-nil, All-push}
use Rattle.munge_types.specs.declared.history.Event.{Event}
use Rattle.munge_types.specs.declared.history.Event.TheVariants.{Admit, Idle, Purge}
use Rattle.decode_rules.specs.Terms.{terms_of}
use Rattle.decode_rules.specs.declared.world.World.{World}
use Rattle.replay_gate.specs.GoesOn.{GoesOn}
use Rattle.replay_gate.specs.Makers.{any_by, is_of, maker}
use Rattle.replay_gate.specs.PassState.{PassState}
use Rattle.session_core.specs.OnGate.{StandsIn}
use Rattle.session_core.specs.Service.{service_of}
use Rattle.worker_pool.specs.Cases.{Bench, Case, HasHandled, bench_of, case_of, entry_of}
use Rattle.worker_pool.specs.Desks.{DeskSight, Handles, Works}
use Rattle.worker_pool.specs.Entering.{Moves, TellsRule}
use Rattle.worker_pool.specs.Single.{AreNoPurges, is_purge}
use Rattle.worker_pool.specs.Standing.{Marks}
use Rattle.worker_pool.specs.Work.{IsMade}
use Rattle.worker_pool.specs.declared.desk.Desk.{Desk}
use Rattle.worker_pool.specs.declared.post.Queued.{Queued}
use Rattle.worker_pool.proofs.Account.{account_longer, account_more, account_none, neither}
use Rattle.worker_pool.proofs.Accounts.{marks_longer, marks_now, moves_by, same_number, stands_longer, stands_now}

-- ---- in a longer history

pub handled_longer : {L : Type 0} (bench : Bench L) (seen more : List Event) (bound higher : ℕ) (c : Case L) → bound ≤ higher
    → HasHandled bench seen bound c → HasHandled bench (seen ++ more) higher c
handled_longer bench seen more bound higher c below h = record {
  post_is = h.post_is;
  turn_is = h.turn_is;
  marks = marks_longer c.kept.pass seen more c.kept.served.rule c.kept.served.place h.marks;
  stands = λ files made.
      stands_longer (service_of (terms_of bench.world c.taken.who files) bench.seed c.kept.pass) seen more bound higher
      (bench.sight.connection c.taken.waiting.conn) (bench.sight.connection c.kept.conn) c.kept.served c.kept.served.place below
      (h.stands files made);
  caused = h.caused;
  complete = h.complete;
}

pub handled_higher : {L : Type 0} (bench : Bench L) (seen : List Event) (bound higher : ℕ) (c : Case L) → bound ≤ higher
    → HasHandled bench seen bound c → HasHandled bench seen higher c
handled_higher bench seen bound higher c below h =
    subst (λ l. HasHandled bench l higher c) (append-nil seen) (handled_longer bench seen [] bound higher c below h)

-- entries of others are no entries of this number
plain_others : (number : ℕ) (events : List Event) → any_by (number ∷ []) events ≡ false → AreNoPurges number events
plain_others number [] none = All-nil (λ (event : Event). maker event ≡ number → is_purge event ≡ false)
plain_others number (event ∷ events) none =
    let parts = neither (is_of (number ∷ []) (maker event)) (any_by (number ∷ []) events) none in
    let other = (neither (nat_eq (maker event) number) false parts.0).0 in
    All-cons (λ (event : Event). maker event ≡ number → is_purge event ≡ false) event events
    (λ mine. absurd (true≢false (sym ((Decides-eqb (maker event) number).1 mine) ∙ other))) (plain_others number events parts.1)

pub plain_longer : (number : ℕ) (seen longer : List Event) → GoesOn (number ∷ []) seen longer → AreNoPurges number seen → AreNoPurges number longer
plain_longer number seen longer on plain =
    subst (AreNoPurges number) (sym on.longer_is)
    (All-append (λ (event : Event). maker event ≡ number → is_purge event ≡ false) seen on.others plain
    (plain_others number on.others on.of_others))

pub works_longer : {L : Type 0} (bench : Bench L) (number : ℕ) (seen longer : List Event) (bound higher : ℕ) (cases : List (Case L))
    → bound ≤ higher → GoesOn (number ∷ []) seen longer → Works bench number seen bound cases → Works bench number longer higher cases
works_longer bench number seen longer bound higher cases below on works = record {
  account = account_longer entry_of (HasHandled bench) (handled_longer bench) number seen longer bound higher cases below on works.account;
  no_purge = plain_longer number seen longer on works.no_purge;
}

-- ---- one call

told_plain : (before : List Event) (entry : Event) (rule : Option ℕ) → TellsRule before entry rule → is_purge entry ≡ false
told_plain before (Admit pass pair moment) rule told = refl
told_plain before (Idle pass) rule told = refl
told_plain before (Purge pass moment) rule told = absurd told

plain_more : (old new : PassState) (rule place : Option ℕ) → old.numbers ≡ old.number ∷ [] → Moves old new rule place
    → AreNoPurges old.number old.seen → AreNoPurges old.number new.seen
plain_more old new rule (Some place) alone moves plain =
    let on = subst (λ l. GoesOn l old.seen moves.before) alone moves.enters.goes_on in
    let before = plain_longer old.number old.seen moves.before on plain in
    subst (AreNoPurges old.number) (sym (ap (λ (z : PassState). z.seen) moves.enters.after_is))
    (All-push (λ (event : Event). maker event ≡ old.number → is_purge event ≡ false) moves.before moves.entry before
    (λ mine. told_plain moves.before moves.entry rule moves.told))
plain_more old new rule None alone moves plain =
    subst (AreNoPurges old.number) (sym (ap (λ (z : PassState). z.seen) moves.after_is)) plain

pub works_none : {L : Type 0} (bench : Bench L) (number bound : ℕ) → Works bench number [] bound []
works_none {L} bench number bound = record {
  account = account_none entry_of (HasHandled bench) (handled_longer bench) number bound;
  no_purge = All-nil (λ (event : Event). maker event ≡ number → is_purge event ≡ false);
}

module _ {L C B : Type 0} (sight : DeskSight L C B) (world : World) (old : Desk C B) (taken : Queued L) (new : Desk C B)
    (h : Handles sight world old taken new) (made : IsMade world) where
  moves_then : Moves old.pass new.pass h.kept.served.rule h.kept.served.place
  moves_then =
      moves_by (service_of (terms_of world taken.who made.files) old.dice.seed old.pass.number) old.pass new.pass
      (sight.link.connection taken.waiting.conn) (sight.link.connection h.kept.conn) h.kept.served h.kept.served.place refl
      (h.serves made.files made.made)

  number_then : new.pass.number ≡ old.pass.number
  number_then = same_number old.pass new.pass h.kept.served.rule h.kept.served.place moves_then

  handled_now : HasHandled (bench_of sight.link world old.dice.seed) new.pass.seen new.pass.highest (case_of taken h.kept)
  handled_now = record {
    post_is = h.post_is;
    turn_is = h.turn_is;
    marks = subst (λ n. Marks n new.pass.seen h.kept.served.rule h.kept.served.place) (number_then ∙ sym h.pass_is)
        (marks_now old.pass new.pass h.kept.served.rule h.kept.served.place moves_then);
    stands = λ files files_made.
        subst (λ n. StandsIn (service_of (terms_of world taken.who files) old.dice.seed n) new.pass.seen new.pass.highest
        (sight.link.connection taken.waiting.conn) (sight.link.connection h.kept.conn) h.kept.served h.kept.served.place) (sym h.pass_is)
        (stands_now (service_of (terms_of world taken.who files) old.dice.seed old.pass.number) old.pass new.pass
        (sight.link.connection taken.waiting.conn) (sight.link.connection h.kept.conn) h.kept.served h.kept.served.place
        (h.serves files files_made));
    caused = h.caused;
    complete = h.complete;
  }

  pub works_more : (cases : List (Case L)) → old.pass.numbers ≡ old.pass.number ∷ []
      → Works (bench_of sight.link world old.dice.seed) old.pass.number old.pass.seen old.pass.highest cases
      → Works (bench_of sight.link world old.dice.seed) new.pass.number new.pass.seen new.pass.highest (cases ++ case_of taken h.kept ∷ [])
  unfolding moves_then number_then handled_now
  works_more cases alone works =
      let bench : Bench L = bench_of sight.link world old.dice.seed in record {
        account = account_more entry_of (HasHandled bench) (handled_longer bench) old.pass new.pass cases (case_of taken h.kept)
            h.kept.served.rule h.kept.served.place refl alone moves_then handled_now works.account;
        no_purge = subst (λ n. AreNoPurges n new.pass.seen) (sym number_then)
            (plain_more old.pass new.pass h.kept.served.rule h.kept.served.place alone moves_then works.no_purge);
      }
