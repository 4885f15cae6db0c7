-- A session over whole requests that no fault stops ends with all of them answered, or for want of
-- memory.
use Rattle.std.proofs.Common.{◌≡◌, ◌≢◌, ℕ, ◌+◌, ◌≤◌, ◌⊎◌, inl, inr, false, List, [], ◌∷◌, ◌++◌, length, take, Option, None, Some, refl, sym, ap, ◌∙◌, subst, arith}
use Rattle.std.proofs.lemmas.List.{append_assoc, append-nil, length-append, length-take, take_all}
use Rattle.std.specs.Io.KnownBytes.{Consumes, Appends, IsAtEnd}
use Rattle.std.specs.Option.{IsSomeAnd}
use Rattle.byte_io.specs.Counts.{Rose}
use Rattle.byte_io.specs.Files.{file_of, ReadsFile}
use Rattle.wire_msg.specs.declared.message.Message.{Message}
use Rattle.session_core.specs.Answering.{Own, Run, nothing_done}
use Rattle.session_core.specs.Requests.{frames}
use Rattle.session_core.specs.Session.{Session}
use Rattle.session_core.specs.SessionRan.{Beyond, Ends, Leaves, request_limit, stopped, left}
use Rattle.session_core.specs.Things.{CameToEnd, Outside}
use Rattle.session_core.specs.declared.end.HowEnded.{HowEnded}
use Rattle.session_core.specs.declared.end.HowEnded.TheVariants as how
use Rattle.munged_run.specs.CommandLine.{AskedSession, command_of}
use Rattle.munged_run.specs.CommandLine as command
use Rattle.munged_files.specs.Ending.{Ending, status_of}
use Rattle.munged_run.specs.AfterSession.{after_session}
use Rattle.munged_files.specs.Ending as ending
use Rattle.munged_files.specs.Faults.{FaultOf}
use Rattle.munged_files.specs.KeyFile.{GivesNoKey, IsKey, key_room}
use Rattle.munged_files.specs.KeyFile as no_key
use Rattle.munged_run.specs.Program.{Answered, Given, SessionCame, answered, session_under, unkeyed, unseeded}
use Rattle.munged_files.specs.SeedFile.{GivesNoSeed, IsSeedOf, TellsSeed, seed_size}
use Rattle.munged_files.specs.SeedFile as no_seed
use Rattle.munged_files.specs.Status.{success, want_of_memory}
use Rattle.munged_run.specs.WholeRequests.{AnswersAll, AnswersWhole, WholeRequests, WholeSession}
use Rattle.munged_run.proofs.StreamOfRequests.{AllFit, Continues, FrameLaws, continues, never_malformed}

-- what was consumed of told bytes
record Rest (told now : Option (List ℕ)) (all bytes : List ℕ) : Type 0 where
  rest : List ℕ
  now_is : now ≡ Some rest
  split : all ≡ bytes ++ rest

rest_of : (told now : Option (List ℕ)) (all bytes : List ℕ) → told ≡ Some all
    → Consumes told now bytes → Rest told now all bytes
rest_of None now all bytes is read = absurd (cc)
rest_of (Some xs) None all bytes is read = absurd read
rest_of (Some xs) (Some ys) all bytes is read =
    record { rest = ys; now_is = refl; split = let same : xs ≡ all = cc in sym same ∙ read }

at_end_none : (now : Option (List ℕ)) (rest : List ℕ) → now ≡ Some rest → IsAtEnd now → rest ≡ []
at_end_none None rest is end = absurd (cc)
at_end_none (Some xs) rest is end = let same : xs ≡ rest = cc in sym same ∙ end

-- a session that was not stopped answered all
data Finishes (requests read : List Message) (rest : List ℕ) (beyond : Beyond) (way : HowEnded)
    : Type 0 where
  wanted : way ≡ how.NoMemory → Finishes requests read rest beyond way
  done : way ≡ how.Done → requests ≡ read → rest ≡ [] → beyond.written ≡ []
      → beyond.readings ≡ [] → Finishes requests read rest beyond way

none_more : (requests read : List Message) → (going : Continues requests read [])
    → requests ≡ read
none_more requests read going =
    let none : going.more ≡ [] = nothing_requested going.more going.rest_is in
    going.requests_are ∙ ap (λ ts. read ++ ts) none ∙ append-nil read
  where
    nothing_requested : (more : List Message) → frames more ≡ [] → more ≡ []
    nothing_requested [] is = refl
    nothing_requested (request ∷ more) is = absurd (cc)

no_requests : (requests : List Message) → length requests ≡ 0 → frames requests ≡ []
no_requests [] none = refl
no_requests (request ∷ requests) none = absurd (omega arith)

-- a session that was left to itself
record Left (laws : FrameLaws) (requests read : List Message) (rest : List ℕ) (ended : Type 0)
    (beyond : Beyond) : Type 0 where
  within : AllFit requests
  read_within : AllFit read
  few : length requests ≤ request_limit
  same : frames requests ≡ (frames read ++ beyond.read) ++ rest
  at_end : ended → rest ≡ []

finishes : (laws : FrameLaws) (session : Session) (own : Own) (requests read : List Message)
    (rest : List ℕ) (ended : Type 0) (beyond : Beyond) (way : HowEnded)
    → Left laws requests read rest ended beyond
    → way ≢ how.ReadFault → way ≢ how.WriteFault → way ≢ how.ClockFault
    → Leaves session own (length read) (length (frames read)) ended way beyond
    → Finishes requests read rest beyond way
finishes laws session own requests read rest ended beyond how.Done it no_read no_write no_clock leaves =
    let end : rest ≡ [] = it.at_end leaves.1 in
    let all : frames requests ≡ frames read ++ [] =
    it.same ∙ ap (λ r. (frames read ++ beyond.read) ++ r) end
    ∙ append-nil (frames read ++ beyond.read) ∙ ap (λ r. frames read ++ r) leaves.0 in
    let going = continues laws requests read [] it.within it.read_within all in
    done refl (none_more requests read going) end leaves.2.written_none leaves.2.readings_none
finishes laws session own requests read rest ended beyond how.ReadFault it no_read no_write no_clock leaves = absurd (no_read refl)
finishes laws session own requests read rest ended beyond how.WriteFault it no_read no_write no_clock leaves = absurd (no_write refl)
finishes laws session own requests read rest ended beyond how.ClockFault it no_read no_write no_clock leaves = absurd (no_clock refl)
finishes laws session own requests read rest ended beyond (how.Malformed place) it no_read no_write no_clock leaves =
    let going = continues laws requests read (beyond.read ++ rest) it.within it.read_within
    (it.same ∙ append_assoc (frames read) beyond.read rest) in
    absurd (never_malformed going.more beyond.read rest ended going.fit going.rest_is it.at_end leaves.1)
finishes laws session own requests read rest ended beyond how.Budget it no_read no_write no_clock leaves =
    let going = continues laws requests read (beyond.read ++ rest) it.within it.read_within
    (it.same ∙ append_assoc (frames read) beyond.read rest) in
    let sizes : length requests ≡ length read + length going.more =
    ap length going.requests_are ∙ length-append read going.more in
    let none : length going.more ≡ 0 = omega (arith, leaves.0, it.few) in
    let nothing : beyond.read ++ rest ≡ [] = sym going.rest_is ∙ no_requests going.more none in
    let lengths : length beyond.read + length rest ≡ 0 =
    sym (length-append beyond.read rest) ∙ ap length nothing in
    absurd (omega (arith, leaves.1))
finishes laws session own requests read rest ended beyond how.NoMemory it no_read no_write no_clock leaves = wanted refl

-- what is read of a told file is its front
pub read_front : (files : Option (List (List ℕ × List ℕ))) (told : List (List ℕ × List ℕ))
    (name : List ℕ) (most : ℕ) (bytes whole : List ℕ) → files ≡ Some told
    → file_of told name ≡ Some whole → ReadsFile files name most bytes → bytes ≡ take most whole
read_front files told name most bytes whole files_told whole_told reads =
    let from_told : IsSomeAnd (file_of told name) (λ w. bytes ≡ take most w) =
    subst (λ fs. ReadsFile fs name most bytes) files_told reads in
    subst (λ w. IsSomeAnd w (λ v. bytes ≡ take most v)) whole_told from_told

-- a told file that holds a key is read whole
key_is : (files : Option (List (List ℕ × List ℕ))) (told : List (List ℕ × List ℕ))
    (name key whole : List ℕ) → files ≡ Some told → file_of told name ≡ Some whole
    → IsKey whole → ReadsFile files name key_room key → key ≡ whole
key_is files told name key whole files_told key_told fits reads =
    let front : key ≡ take key_room whole =
    read_front files told name key_room key whole files_told key_told reads in
    let long : length whole ≤ key_room = omega (arith, fits.not_long) in
    front ∙ take_all key_room whole long

-- a told file that holds a seed gives it
seed_is : (files : Option (List (List ℕ × List ℕ))) (told : List (List ℕ × List ℕ))
    (seed_file seed whole : Option (List ℕ)) → files ≡ Some told
    → TellsSeed told seed_file whole → IsSeedOf files seed_file seed → seed ≡ whole
seed_is files told None seed whole files_told tells seeded = seeded ∙ sym tells
seed_is files told (Some name) seed whole files_told tells seeded =
    let front : seeded.bytes ≡ take seed_size tells.bytes =
    read_front files told name seed_size seeded.bytes tells.bytes files_told
    tells.bytes_told seeded.read in
    seeded.seed_is ∙ ap (λ bytes. Some bytes) front ∙ sym tells.seed_is

-- a told file that holds a seed is not too short for one
seed_told : (files : Option (List (List ℕ × List ℕ))) (told : List (List ℕ × List ℕ))
    (seed_file seed : Option (List ℕ)) (name bytes : List ℕ) → files ≡ Some told
    → TellsSeed told seed_file seed → seed_file ≡ Some name
    → ReadsFile files name seed_size bytes → ¬ (length bytes + 1 ≤ seed_size)
seed_told files told None seed name bytes files_told tells named reads = absurd (cc)
seed_told files told (Some other) seed name bytes files_told tells named reads =
    let same : name ≡ other = cc in
    let read : ReadsFile files other seed_size bytes =
    subst (λ n. ReadsFile files n seed_size bytes) same reads in
    let front : bytes ≡ take seed_size tells.bytes =
    read_front files told other seed_size bytes tells.bytes files_told tells.bytes_told read in
    λ short. omega (arith, short, tells.long, ap length front, length-take seed_size tells.bytes)

-- the program ended with all requests answered, or for want of memory
abbrev pub Completes : (files : Option (List (List ℕ × List ℕ))) (asked : AskedSession)
    (before after : Outside) → Ending → WholeSession files asked before.input.left → Type 0
Completes files asked before after ended whole =
    (ended ≡ ending.no_memory)
    ⊎ ((ended ≡ ending.done) × AnswersAll asked whole.key whole.seed whole.requests before after)

complete_without_key : (files : Option (List (List ℕ × List ℕ))) (asked : AskedSession)
    (before after : Outside) (ended : Ending) (whole : WholeSession files asked before.input.left)
    → ((name : List ℕ) → ended ≢ ending.unread name) → GivesNoKey files asked.key_file ended
    → Completes files asked before after ended whole
complete_without_key files asked before after ended whole was_read (no_key.unread is) =
    absurd (was_read asked.key_file is)
complete_without_key files asked before after ended whole was_read (no_key.refused bytes reads unfit is) =
    let same : bytes ≡ whole.key = key_is files whole.told asked.key_file bytes whole.key
    whole.files_told whole.key_told whole.fits reads in
    absurd (unfit (subst IsKey (sym same) whole.fits))
complete_without_key files asked before after ended whole was_read (no_key.no_memory is) = inl is

complete_without_seed : (files : Option (List (List ℕ × List ℕ))) (asked : AskedSession)
    (before after : Outside) (ended : Ending) (whole : WholeSession files asked before.input.left)
    → ((name : List ℕ) → ended ≢ ending.unread name) → GivesNoSeed files asked.seed_file ended
    → Completes files asked before after ended whole
complete_without_seed files asked before after ended whole was_read (no_seed.unread name named is) =
    absurd (was_read name is)
complete_without_seed files asked before after ended whole was_read (no_seed.refused name bytes named reads short is) =
    absurd (seed_told files whole.told asked.seed_file whole.seed name bytes whole.files_told
    whole.seed_told named reads (omega (arith, short)))
complete_without_seed files asked before after ended whole was_read (no_seed.no_memory name named is) = inl is

-- it did not end by a fault
pub record NoFault (ended : Ending) : Type 0 where
  pub was_read : (name : List ℕ) → ended ≢ ending.unread name
  pub input : ended ≢ ending.input_failed
  pub output : ended ≢ ending.output_failed
  pub clock : ended ≢ ending.clock_failed

-- a caller without control does not stop a session
finish : (laws : FrameLaws) (session : Session) (own : Own) (requests read : List Message)
    (rest : List ℕ) (ended : Type 0) (beyond : Beyond) (way : HowEnded)
    → session.terms.who.control ≡ false → Left laws requests read rest ended beyond
    → way ≢ how.ReadFault → way ≢ how.WriteFault → way ≢ how.ClockFault
    → Ends session read own ended way beyond → Finishes requests read rest beyond way
finish laws session own requests read rest ended beyond way none it no_read no_write no_clock (stopped has) =
    absurd (cc (none, has.is_stopped.control))
finish laws session own requests read rest ended beyond way none it no_read no_write no_clock (left on leaves) =
    finishes laws session own requests read rest ended beyond way it no_read no_write no_clock leaves

complete_answered : FrameLaws → (files : Option (List (List ℕ × List ℕ))) (asked : AskedSession)
    (before after : Outside) (ended : Ending) (whole : WholeSession files asked before.input.left)
    → NoFault ended → Answered files asked before after ended
    → Completes files asked before after ended whole
complete_answered laws files asked before after ended whole sound it =
    let same_key : it.key ≡ whole.key = key_is files whole.told asked.key_file it.key whole.key
    whole.files_told whole.key_told whole.fits it.holds.read in
    let same_seed : it.seed ≡ whole.seed = seed_is files whole.told asked.seed_file it.seed
    whole.seed whole.files_told whole.seed_told it.seeded in
    let session = session_under asked it.key it.settings it.seed in
    let ran = it.ran in
    let read = rest_of before.input.left after.input.left (frames whole.requests)
    (frames ran.requests ++ ran.beyond.read) whole.left_told ran.moves.reads in
    let left_alone : Left laws whole.requests ran.requests read.rest (CameToEnd before.input after.input) ran.beyond = record {
      within = whole.within;
      read_within = ran.fit;
      few = whole.few;
      same = read.split;
      at_end = λ end. at_end_none after.input.left read.rest read.now_is end.nothing_left;
    } in
    let way = finish laws session ran.outcome.own whole.requests ran.requests read.rest
    (CameToEnd before.input after.input) ran.beyond it.end.how refl left_alone
    (λ e. sound.input (it.how_is ∙ ap after_session e))
    (λ e. sound.output (it.how_is ∙ ap after_session e))
    (λ e. sound.clock (it.how_is ∙ ap after_session e)) ran.ends in
    elim way as (λ _. Completes files asked before after ended whole) [
      | wanted e ↦ inl (it.how_is ∙ ap after_session e)
      | done e requests_same none written_none readings_none ↦ inr (
        it.how_is ∙ ap after_session e,
        record {
          settings = it.settings;
          usual = it.usual;
          outcome = ran.outcome;
          run = subst (λ rs. Run (session_under asked whole.key it.settings whole.seed) nothing_done rs ran.outcome)
              (sym requests_same)
              (subst (λ s. Run (session_under asked whole.key it.settings s) nothing_done ran.requests ran.outcome)
              same_seed
              (subst (λ k. Run (session_under asked k it.settings it.seed) nothing_done ran.requests ran.outcome)
              same_key ran.run));
          none_left = read.now_is ∙ ap (λ r. Some r) none;
          written = subst (λ w. Appends before.taken after.taken w)
              (ap (λ w. ran.outcome.replies ++ w) written_none ∙ append-nil ran.outcome.replies)
              ran.moves.writes;
          taken = subst (λ w. Consumes before.readings after.readings w)
              (ap (λ w. ran.outcome.readings ++ w) readings_none ∙ append-nil ran.outcome.readings)
              ran.moves.takes;
        },
      )
    ]

-- a session that no fault stops answers all, or wants memory
pub complete_session : FrameLaws → (files : Option (List (List ℕ × List ℕ))) (asked : AskedSession)
    (untouched : Type 0) (before after : Outside) (ended : Ending)
    (whole : WholeSession files asked before.input.left) → NoFault ended
    → SessionCame files asked untouched before after ended
    → Completes files asked before after ended whole
complete_session laws files asked untouched before after ended whole sound (unkeyed same gives) =
    complete_without_key files asked before after ended whole sound.was_read gives
complete_session laws files asked untouched before after ended whole sound (unseeded same key holds gives) =
    complete_without_seed files asked before after ended whole sound.was_read gives
complete_session laws files asked untouched before after ended whole sound (answered it) =
    complete_answered laws files asked before after ended whole sound it

-- a run over whole requests that no fault stops ends with all of them answered, or for want of memory
pub complete_run : FrameLaws → (given : Given) (asked : AskedSession) (untouched : Type 0)
    (before after : Outside) (ended : Ending) (number faults faults' : ℕ)
    (Reads Writes Clocks : Type 0) (whole : WholeRequests given before.input.left)
    → command_of given.words ≡ Some (command.session asked) → number ≡ status_of ended
    → FaultOf ended faults faults' → (ended ≡ ending.input_failed → Reads)
    → (ended ≡ ending.output_failed → Writes) → (ended ≡ ending.clock_failed → Clocks)
    → ¬ Rose faults faults' → ¬ Reads → ¬ Writes → ¬ Clocks
    → SessionCame given.files asked untouched before after ended
    → (number ≡ want_of_memory) ⊎ ((number ≡ success) × AnswersWhole given before after whole)
complete_run laws given asked untouched before after ended number faults faults' Reads Writes Clocks whole asked_for is counted reads writes clocks files_sound reads_sound writes_sound clock_sound came =
    let same : asked ≡ whole.asked = cc (asked_for, whole.asked_for) in
    let sound : NoFault ended = record {
      was_read = λ name unread. files_sound (subst (λ e. FaultOf e faults faults') unread counted);
      input = λ failed. reads_sound (reads failed);
      output = λ failed. writes_sound (writes failed);
      clock = λ failed. clock_sound (clocks failed);
    } in
    let completes = complete_session laws given.files whole.asked untouched before after ended
    whole.whole sound
    (subst (λ a. SessionCame given.files a untouched before after ended) same came) in
    elim completes as (λ _. (number ≡ want_of_memory) ⊎ ((number ≡ success) × AnswersWhole given before after whole)) [
      | inl none ↦ inl (is ∙ ap status_of none)
      | inr answers ↦ inr (is ∙ ap status_of answers.0, answers.1)
    ]
