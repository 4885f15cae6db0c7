-- What is known of rounds that ran.
use Rattle.std.proofs.Common.{◌≡◌, ◌∙◌, ℕ, ◌+◌, ◌<◌, ◌≤◌, ◌⊎◌, zero, suc, List, [], ◌∷◌, None, Some, Bool, true, false, ◌&&◌, cond, count_by, nat_eq, refl, sym, ap, subst, inl, inr, arith}
use Rattle.std.proofs.lemmas.Bool.Decides.{nat_tests}
use Rattle.std.proofs.lemmas.List.Sums.{sum_by-cons}
use Rattle.byte_io.specs.Counts.{Rose}
use Rattle.wire_msg.specs.declared.message.DecodeSaid.{DecodeSaid}
use Rattle.wire_msg.specs.declared.message.EncodeSaid.{EncodeSaid}
use Rattle.wire_msg.specs.declared.message.Message.TheVariants.{DecodeReply}
use Rattle.munge_tools.specs.Exchange.{Heard, NotHeard}
use Rattle.munge_tools.specs.Fitting.{FitsDecode, FitsDecodeSaid}
use Rattle.munge_tools.specs.RemungeWords.{AskedRemunge}
use Rattle.munge_tools.specs.Rounds.{Adds, Counts, Made, Round, RoundAdds, RoundStopped, SoFar, Stops, is_to_open, unopened, is_made, is_opened, is_unmade, is_unopened, one_if}
use Rattle.munge_tools.specs.Unmunge.{opening_frame}
use Rattle.munge_tools.specs.Wire.{WireFailed, WireSeen, WireSound}
use Rattle.munge_tools.specs.declared.exchange.Unheard.{Unheard}
use Rattle.munge_tools.specs.declared.totals.Totals.{Totals}

-- a fault after sound calls is one since before them
pub failed_since : (a b c : WireSeen) → WireSound a b → WireFailed b c → WireFailed a c
failed_since a b c sound (inl rose) = inl (subst (λ n. Rose n c.dial_faults) sound.dials rose)
failed_since a b c sound (inr (inl rose)) = inr (inl (subst (λ n. Rose n c.read_faults) sound.reads rose))
failed_since a b c sound (inr (inr rose)) = inr (inr (subst (λ n. Rose n c.write_faults) sound.writes rose))

pub sound_since : (a b c : WireSeen) → WireSound a b → WireSound b c → WireSound a c
sound_since a b c first second =
    record {
      dials = second.dials ∙ first.dials;
      reads = second.reads ∙ first.reads;
      writes = second.writes ∙ first.writes;
    }

pub sound_still : (a : WireSeen) → WireSound a a
sound_still a = record { dials = refl; reads = refl; writes = refl }

-- one more element is counted
counted_one : {X : Type 0} (p : X → Bool) (x : X) (xs : List X) → count_by p (x ∷ xs) ≡ count_by p xs + one_if (p x)
counted_one p x xs =
    let e : count_by p (x ∷ xs) ≡ one_if (p x) + count_by p xs = sum_by-cons (λ y. cond (p y) 1 0) x xs in
    omega (arith, e)

-- one more round is counted
pub counts_more : (rounds : List Round) (round : Round) (totals totals' : Totals) → Counts rounds totals → Adds round totals totals'
    → Counts (round ∷ rounds) totals'
counts_more rounds round totals totals' counts adds =
    record {
      encoded = adds.encoded ∙ (ap (λ n. n + one_if (is_made round)) counts.encoded ∙ sym (counted_one is_made round rounds));
      decoded = adds.decoded ∙ (ap (λ n. n + one_if (is_opened round)) counts.decoded ∙ sym (counted_one is_opened round rounds));
      failed =
          let first = counted_one is_unmade round rounds in
          let second = counted_one is_unopened round rounds in
          omega (arith, adds.failed, counts.failed, first, second);
    }

-- ---- one round

at_most_one : (t : Bool) → one_if t ≤ 1
at_most_one true = omega arith
at_most_one false = omega arith

zero_or_not : (n : ℕ) → (n ≡ 0) ⊎ (n ≡ 0 → ⊥)
zero_or_not zero = inl refl
zero_or_not (suc n) = inr (λ is. omega (arith, is))

is_zero : (n : ℕ) → n ≡ 0 → nat_eq n 0 ≡ true
is_zero n none = grind (arith, nat_tests)

is_not_zero : (n : ℕ) → (n ≡ 0 → ⊥) → nat_eq n 0 ≡ false
is_not_zero n other = grind (arith, nat_tests)

and_false : (b : Bool) → (b && false) ≡ false
and_false true = refl
and_false false = refl

-- none was made
pub round_unmade : (asked : AskedRemunge) (a b : WireSeen) (totals totals' : Totals) (made : EncodeSaid) → Made asked a b made
    → (made.status ≡ 0 → ⊥) → totals' ≡ record totals { failed = totals.failed + 1 } → RoundAdds asked a b totals totals'
round_unmade asked a b totals totals' made is_made_by other same =
    let test = is_not_zero made.status other in
    let e = ap (λ (t : Totals). t.encoded) same in
    let d = ap (λ (t : Totals). t.decoded) same in
    let f = ap (λ (t : Totals). t.failed) same in
    record {
      round = record { made = made; opened = None };
      ran = record { between = b; made = is_made_by; opened = (rw test (and_false asked.decode), refl) };
      adds = record { encoded = rw test (omega (arith, e)); decoded = omega (arith, d); failed = rw test (omega (arith, f)) };
    }

-- one was made, and none is to be opened
pub round_made : (asked : AskedRemunge) (a b : WireSeen) (totals totals' : Totals) (made : EncodeSaid) → Made asked a b made
    → made.status ≡ 0 → asked.decode ≡ false → totals' ≡ record totals { encoded = totals.encoded + 1 } → RoundAdds asked a b totals totals'
round_made asked a b totals totals' made is_made_by none0 closed same =
    let test = is_zero made.status none0 in
    let e = ap (λ (t : Totals). t.encoded) same in
    let d = ap (λ (t : Totals). t.decoded) same in
    let f = ap (λ (t : Totals). t.failed) same in
    record {
      round = record { made = made; opened = None };
      ran = record { between = b; made = is_made_by; opened = (rw closed refl, refl) };
      adds = record { encoded = rw test (omega (arith, e)); decoded = omega (arith, d); failed = rw test (omega (arith, f)) };
    }

to_open : (asked : AskedRemunge) (made : EncodeSaid) → made.status ≡ 0 → asked.decode ≡ true → is_to_open asked.decode made ≡ true
to_open asked made none0 opens = rw (opens, is_zero made.status none0) refl

-- one was made and opened, or not opened
pub round_opened : (asked : AskedRemunge) (a b c : WireSeen) (totals between totals' : Totals) (made : EncodeSaid) (said : DecodeSaid)
    → Made asked a b made → made.status ≡ 0 → asked.decode ≡ true → FitsDecodeSaid said
    → Heard asked.socket (opening_frame made.text) b c (DecodeReply said)
    → between ≡ record totals { encoded = totals.encoded + 1 }
    → (said.status ≡ 0 → totals' ≡ record between { decoded = between.decoded + 1 })
    → ((said.status ≡ 0 → ⊥) → totals' ≡ record between { failed = between.failed + 1 })
    → RoundAdds asked a c totals totals'
round_opened asked a b c totals between totals' made said is_made_by none0 opens fits heard first well unwell =
    let test = is_zero made.status none0 in
    let e = ap (λ (t : Totals). t.encoded) first in
    let d = ap (λ (t : Totals). t.decoded) first in
    let f = ap (λ (t : Totals). t.failed) first in
    record {
      round = record { made = made; opened = Some said };
      ran = record { between = b; made = is_made_by; opened = (to_open asked made none0 opens, fits, heard) };
      adds = elim (zero_or_not said.status) [
        | inl is ↦
            let test' = is_zero said.status is in
            let e' = ap (λ (t : Totals). t.encoded) (well is) in
            let d' = ap (λ (t : Totals). t.decoded) (well is) in
            let f' = ap (λ (t : Totals). t.failed) (well is) in
            record {
              encoded = rw test (omega (arith, e, e'));
              decoded = rw test' (omega (arith, d, d'));
              failed = rw (test, test') (omega (arith, f, f'));
            }
        | inr other ↦
            let test' = is_not_zero said.status other in
            let e' = ap (λ (t : Totals). t.encoded) (unwell other) in
            let d' = ap (λ (t : Totals). t.decoded) (unwell other) in
            let f' = ap (λ (t : Totals). t.failed) (unwell other) in
            record {
              encoded = rw test (omega (arith, e, e'));
              decoded = rw test' (omega (arith, d, d'));
              failed = rw (test, test') (omega (arith, f, f'));
            }
      ];
    }

-- one was made, and no fitting reply came to the decode request
pub round_stopped : (asked : AskedRemunge) (a b c : WireSeen) (made : EncodeSaid) (why : Unheard) → Made asked a b made → made.status ≡ 0
    → asked.decode ≡ true → NotHeard FitsDecode asked.socket (opening_frame made.text) b c why → RoundStopped asked a c why
round_stopped asked a b c made why is_made_by none0 opens none = unopened b made is_made_by (to_open asked made none0 opens) none

-- ---- rounds

pub none_yet : (asked : AskedRemunge) (a : WireSeen) (totals : Totals) → totals.encoded ≡ 0 → totals.decoded ≡ 0 → totals.failed ≡ 0
    → SoFar asked a a 0 totals
none_yet asked a totals e d f =
    record { rounds = []; ran = refl; all = refl; counts = record { encoded = e; decoded = d; failed = f } }

pub one_more : (asked : AskedRemunge) (a b c : WireSeen) (done : ℕ) (totals totals' : Totals) → SoFar asked a b done totals
    → RoundAdds asked b c totals totals' → SoFar asked a c (done + 1) totals'
one_more asked a b c done totals totals' so_far adds =
    record {
      rounds = adds.round ∷ so_far.rounds;
      ran = (b, so_far.ran, adds.ran);
      all = let size = so_far.all in omega (arith, size);
      counts = counts_more so_far.rounds adds.round totals totals' so_far.counts adds.adds;
    }

pub stops_there : (asked : AskedRemunge) (a b c : WireSeen) (done : ℕ) (totals : Totals) (why : Unheard) → SoFar asked a b done totals
    → done < asked.count → RoundStopped asked b c why → Stops asked a c why
stops_there asked a b c done totals why so_far fewer stopped =
    record {
      rounds = so_far.rounds;
      between = b;
      ran = so_far.ran;
      fewer = let size = so_far.all in omega (arith, size, fewer);
      stopped = stopped;
    }

-- what one round adds at most
pub adds_some : (asked : AskedRemunge) (a b : WireSeen) (totals totals' : Totals) → RoundAdds asked a b totals totals'
    → (totals'.encoded ≤ totals.encoded + 1) × (totals'.decoded ≤ totals.decoded + 1) × (totals'.failed ≤ totals.failed + 2)
adds_some asked a b totals totals' adds =
    let e = adds.adds.encoded in
    let d = adds.adds.decoded in
    let f = adds.adds.failed in
    let one : (t : Bool) → one_if t ≤ 1 = at_most_one in (
      omega (arith, e, one (is_made adds.round)),
      omega (arith, d, one (is_opened adds.round)),
      omega (arith, f, one (is_unmade adds.round), one (is_unopened adds.round)),
    )
