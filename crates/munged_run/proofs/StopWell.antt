-- A request to stop that meets the right answer, or another.
use Rattle.std.proofs.Common.{◌≡◌, ◌≢◌, ◌∙◌, ℕ, ◌<◌, ◌≤◌, ◌⊎◌, inl, inr, Bool, true, false, bytes_eq, codes, if◌then◌else◌, List, [], ◌∷◌, ◌++◌, length, take, Option, None, Some, refl, sym, ap, subst, arith}
use Rattle.std.proofs.lemmas.Bool.{ltb-false}
use Rattle.std.proofs.lemmas.Slice.Eq.{bytes_eq-Decides}
use Rattle.std.proofs.lemmas.List.{append-nil, length-append, length-take, take_all}
use Rattle.std.proofs.Math.Seq.{take-append_seam}
use Rattle.std.specs.Io.KnownBytes.{Appends, Consumes, IsAtEnd}
use Rattle.byte_io.specs.Files.{file_of, ReadsFile}
use Rattle.byte_io.specs.TakesFirst.{TakesFirst}
use Rattle.option_file.specs.Configuration.{configuration_of}
use Rattle.option_file.specs.Limits.{file_limit}
use Rattle.option_file.specs.Refusals.{first_refusal}
use Rattle.option_file.specs.Rules.{first_of}
use Rattle.option_file.specs.declared.refused.OptionRefused.{OptionRefused}
use Rattle.worker_pool.specs.declared.tally.Tally.{Tally}
use Rattle.munged_run.specs.Check.{GivesNoOptions, HoldsOptions, options_room}
use Rattle.munged_run.specs.Check as gives
use Rattle.munged_run.specs.Daemon.{DaemonCame}
use Rattle.munged_run.specs.Daemon as daemon
use Rattle.munged_files.specs.Ending.{Ending, status_of}
use Rattle.munged_files.specs.Ending as ending
use Rattle.munged_run.specs.ExerciseWords.{exercise_of}
use Rattle.munged_run.specs.Output.{Output}
use Rattle.munged_run.specs.Program.{Given}
use Rattle.munged_run.specs.Stop.{StopAsked, StopCame, StoppedBy, after_asking, control_path, stop_answer, stop_request}
use Rattle.munged_run.specs.Stop as stop
use Rattle.munged_run.specs.ServeWords.{serve_of}
use Rattle.munged_files.specs.Status.{bad_message, failed_socket, success, unread_file, want_of_memory}
use Rattle.munged_run.specs.StopWords.{stop_of}
use Rattle.munged_run.specs.Stoppable.{BeginsWithAnswer, CanStop, MeetsAnother, next_reply}
use Rattle.munged_run.specs.Wire.{Dialled, WireFailed, WireSeen}
use Rattle.munged_run.specs.declared.exercise_words.AskedExercise.{AskedExercise}
use Rattle.munged_run.specs.declared.stop_request.AskedToStop.{AskedToStop}
use Rattle.munged_run.proofs.Completeness.{read_front}

-- no words ask for a load and for a stop
pub apart : (words : List (List ℕ)) (config : List ℕ) → stop_of words ≡ Some config
    → exercise_of words ≡ None
apart [] config is = refl
apart (name ∷ []) config is = refl
apart (name ∷ one ∷ []) config is = refl
apart (name ∷ one ∷ two ∷ words) config is = absurd (cc)

-- a word that is compared is that word
is_named : (b : Bool) (one config : List ℕ) → (if b then Some one else None) ≡ Some config → b ≡ true
is_named true one config is = refl
is_named false one config is = absurd (cc)

is_word : (name word one config : List ℕ)
    → (if bytes_eq name word then Some one else None) ≡ Some config → name ≡ word
is_word name word one config is =
    (bytes_eq-Decides name word).0 (is_named (bytes_eq name word) one config is)

-- no words ask that a daemon stops and that one serves
pub not_stop_and_serve : (words : List (List ℕ)) (config other : List ℕ)
    → stop_of words ≡ Some config → serve_of words ≡ Some other → ⊥
not_stop_and_serve [] config other stops serves = absurd (cc)
not_stop_and_serve (name ∷ []) config other stops serves = absurd (cc)
not_stop_and_serve (name ∷ one ∷ []) config other stops serves =
    let same : codes "stop" ≡ codes "serve" =
    sym (is_word name (codes "stop") one config stops) ∙ is_word name (codes "serve") one other serves in
    cc
not_stop_and_serve (name ∷ one ∷ two ∷ words) config other stops serves = absurd (cc)

-- ---- what was read of a told reply

record Behind (reply read : List ℕ) (left : Option (List ℕ)) : Type 0 where
  rest : List ℕ
  joined : reply ≡ read ++ rest
  at_end : IsAtEnd left → rest ≡ []

behind : (reply read : List ℕ) (left : Option (List ℕ)) → Consumes (Some reply) left read
    → Behind reply read left
behind reply read None consumed = absurd consumed
behind reply read (Some rest) consumed =
    record { rest = rest; joined = consumed; at_end = λ none. none }

-- the next reply is opened
opened_next : (told : List (List ℕ)) (replies' : Option (List (List ℕ))) (opened : Option (List ℕ))
    → TakesFirst (Some told) replies' opened → opened ≡ Some (next_reply told)
opened_next [] replies' opened takes = takes.1
opened_next (reply ∷ more) replies' opened takes = takes.1

behind_dial : (path sent read : List ℕ) (before after : WireSeen) (told : List (List ℕ))
    → before.replies ≡ Some told → Dialled path before after sent read
    → Behind (next_reply told) read after.left
behind_dial path sent read before after told is dialled =
    let takes = subst (λ replies. TakesFirst replies after.replies dialled.opened) is dialled.reply in
    let next = opened_next told after.replies dialled.opened takes in
    behind (next_reply told) read after.left
    (subst (λ opened. Consumes opened after.left read) next dialled.reads)

-- a reply that begins with the answer, of which fewer bytes are there
too_few : (reply read rest : List ℕ) → BeginsWithAnswer reply → reply ≡ read ++ rest → rest ≡ []
    → length read < length stop_answer → ⊥
too_few reply read rest begins joined none few =
    let whole : reply ≡ read = joined ∙ ap (λ l. read ++ l) none ∙ append-nil read in
    omega (arith, few, ap length begins, ap length whole, length-take (length stop_answer) reply)

-- one of which the first bytes are others
differs : (reply read rest : List ℕ) → BeginsWithAnswer reply → reply ≡ read ++ rest
    → length read ≡ length stop_answer → read ≢ stop_answer → ⊥
differs reply read rest begins joined many differ =
    differ (sym (take-append_seam read rest) ∙ ap (λ n. take n (read ++ rest)) many
    ∙ ap (λ l. take (length stop_answer) l) (sym joined) ∙ begins)

-- one that begins so
begins_so : (reply rest : List ℕ) → reply ≡ stop_answer ++ rest → BeginsWithAnswer reply
begins_so reply rest joined =
    ap (λ l. take (length stop_answer) l) joined ∙ take-append_seam stop_answer rest

-- ---- the option file

first_none : (b : Bool) (one : OptionRefused) (more later : Option OptionRefused)
    → first_of ((if b then Some one else more) ∷ later ∷ []) ≡ None → b ≡ false
first_none true one more later is = absurd (cc)
first_none false one more later is = refl

-- one that is not refused is not too long
not_too_long : (text : List ℕ) → first_refusal text ≡ None → length text ≤ file_limit
not_too_long text accepted = ltb-false file_limit (length text) (first_none _ _ _ _ accepted)

-- it is read whole
pub whole_text : (files : Option (List (List ℕ × List ℕ))) (told : List (List ℕ × List ℕ))
    (config bytes text : List ℕ) → files ≡ Some told → file_of told config ≡ Some text
    → first_refusal text ≡ None → ReadsFile files config options_room bytes → bytes ≡ text
whole_text files told config bytes text files_told text_told accepted reads =
    let within = not_too_long text accepted in
    let room : length text ≤ options_room = omega (arith, within) in
    read_front files told config options_room bytes text files_told text_told reads
    ∙ take_all options_room text room

-- ---- the right answer

-- it was done, or no memory was left for it
abbrev pub Well : Ending → Type 0
Well how = (how ≡ ending.done) ⊎ (how ≡ ending.no_memory)

asked_well : (path : List ℕ) (untouched : Type 0) (before after : WireSeen) (how : AskedToStop)
    (told : List (List ℕ)) → before.replies ≡ Some told → BeginsWithAnswer (next_reply told)
    → (after_asking how ≡ ending.socket_failed → ⊥) → StopAsked path untouched before after how
    → Well (after_asking how)
asked_well path untouched before after how told is begins sound (stop.unmade same how_is) =
    inr (ap after_asking how_is)
asked_well path untouched before after how told is begins sound (stop.undialled same how_is) =
    absurd (sound (ap after_asking how_is))
asked_well path untouched before after how told is begins sound (stop.cut front short dialled how_is) =
    absurd (sound (ap after_asking how_is))
asked_well path untouched before after how told is begins sound (stop.unread bytes few dialled how_is) =
    absurd (sound (ap after_asking how_is))
asked_well path untouched before after how told is begins sound (stop.short bytes few dialled ended how_is) =
    let it = behind_dial path stop_request bytes before after told is dialled in
    absurd (too_few (next_reply told) bytes it.rest begins it.joined (it.at_end ended.nothing_left) few)
asked_well path untouched before after how told is begins sound (stop.other bytes many differ dialled how_is) =
    let it = behind_dial path stop_request bytes before after told is dialled in
    absurd (differs (next_reply told) bytes it.rest begins it.joined many differ)
asked_well path untouched before after how told is begins sound (stop.stops dialled how_is) =
    inl (ap after_asking how_is)

no_options_well : (given : Given) (before : WireSeen) (can : CanStop given before) (how : Ending)
    → ((name : List ℕ) → how ≡ ending.unread name → ⊥)
    → GivesNoOptions given.files can.config how → Well how
no_options_well given before can how was_read (gives.unread (inl is)) = absurd (was_read can.config is)
no_options_well given before can how was_read (gives.unread (inr is)) = inr is
no_options_well given before can how was_read (gives.refused bytes reads why first is) =
    let same = whole_text given.files can.files can.config bytes can.text can.files_told
    can.text_told can.accepted reads in
    let both : ◌≡◌ {A = Option OptionRefused} (Some why) None =
    sym first ∙ ap first_refusal same ∙ can.accepted in
    absurd (cc)
no_options_well given before can how was_read (gives.no_memory is) = inr is

stopped_well : (given : Given) (before after : WireSeen) (can : CanStop given before)
    (untouched : Type 0) (how : AskedToStop)
    → (after_asking how ≡ ending.socket_failed → ⊥)
    → StoppedBy (configuration_of can.text).sockets untouched before after how
    → Well (after_asking how)
stopped_well given before after can untouched how sound (stop.no_control same none is) =
    let both : ◌≡◌ {A = Option (List ℕ)} None (Some can.path) = sym none ∙ can.controls in absurd (cc)
stopped_well given before after can untouched how sound (stop.asked path controls came) =
    asked_well path untouched before after how can.replies can.replies_told can.answers sound came

came_well : (given : Given) (before after : WireSeen) (can : CanStop given before)
    (untouched : Type 0) (how : Ending)
    → ((name : List ℕ) → how ≡ ending.unread name → ⊥) → (how ≡ ending.socket_failed → ⊥)
    → StopCame given.files can.config untouched before after how → Well how
came_well given before after can untouched how was_read sound (stop.no_options same none) =
    no_options_well given before can how was_read none
came_well given before after can untouched how was_read sound (stop.by_options said holds asked came is) =
    let same = whole_text given.files can.files can.config holds.bytes can.text can.files_told
    can.text_told can.accepted holds.read in
    let lines = ap (λ c. c.sockets) (holds.said_is ∙ ap configuration_of same) in
    let well = stopped_well given before after can untouched asked (λ failed. sound (is ∙ failed))
    (subst (λ l. StoppedBy l untouched before after asked) lines came) in
    subst Well (sym is) well

-- a request to stop that meets the right answer
pub stop_well : (given : Given) (tally : Tally) (kept : ℕ) (silent untouched : Type 0)
    (serves : List ℕ → Ending → Type 0) (out : Output) (before after : WireSeen) (how : Ending) → CanStop given before
    → ((name : List ℕ) → how ≡ ending.unread name → ⊥) → (how ≡ ending.socket_failed → ⊥)
    → DaemonCame given tally kept silent untouched serves out before after how → Well how
stop_well given tally kept silent untouched serves out before after how can was_read sound (daemon.no_command no_load none no_serve a b c is) =
    let both : ◌≡◌ {A = Option (List ℕ)} None (Some can.config) = sym none ∙ can.asked_for in absurd (cc)
stop_well given tally kept silent untouched serves out before after how can was_read sound (daemon.exercise asked is a came) =
    let both : ◌≡◌ {A = Option AskedExercise} None (Some asked) =
    sym (apart given.words can.config can.asked_for) ∙ is in absurd (cc)
stop_well given tally kept silent untouched serves out before after how can was_read sound (daemon.stop config asks a b came) =
    let both : Some config ≡ Some can.config = sym asks ∙ can.asked_for in
    let same : config ≡ can.config = cc in
    came_well given before after can untouched how was_read sound
    (subst (λ c. StopCame given.files c untouched before after how) same came)
stop_well given tally kept silent untouched serves out before after how can was_read sound (daemon.serve config asks same came) =
    absurd (not_stop_and_serve given.words can.config config can.asked_for asks)

-- ---- another answer

-- what a told sink took
took : (taken taken' : Option (List ℕ)) (told bytes : List ℕ) → taken ≡ Some told
    → Appends taken taken' bytes → taken' ≡ Some (told ++ bytes)
took taken None told bytes is appended =
    absurd (subst (λ taken. Appends taken None bytes) is appended)
took taken (Some now) told bytes is appended =
    ap (λ l. Some l) (subst (λ taken. Appends taken (Some now) bytes) is appended)

-- as much went out as the whole request
sent_all : (before after : WireSeen) (it : MeetsAnother before after) (bytes : List ℕ)
    → after.taken ≡ Some (it.taken ++ bytes) → length bytes ≡ length stop_request
sent_all before after it bytes now =
    let both : Some (it.taken ++ bytes) ≡ Some (it.taken ++ stop_request) = sym now ∙ it.sent in
    let same : it.taken ++ bytes ≡ it.taken ++ stop_request = cc in
    omega (arith, ap length same, length-append it.taken bytes, length-append it.taken stop_request)

-- nothing went out
-- words that ask that a daemon stops do not ask that one serves
pub stop_no_serve : (words : List (List ℕ)) (config : List ℕ) → stop_of words ≡ Some config
    → serve_of words ≡ None
stop_no_serve words config stops = by (serve_of words) refl
  where
    by : (asked : Option (List ℕ)) → serve_of words ≡ asked → serve_of words ≡ None
    by None is = is
    by (Some other) is = absurd (not_stop_and_serve words config other stops is)

pub none_sent : (before after : WireSeen) → after.taken ≡ before.taken → MeetsAnother before after → ⊥
none_sent before after stays it =
    let now = stays ∙ it.taken_told ∙ ap (λ l. Some l) (sym (append-nil it.taken)) in
    let none : 0 ≡ length stop_request = sent_all before after it [] now in
    cc

asked_another : (path : List ℕ) (untouched : Type 0) (before after : WireSeen) (how : AskedToStop)
    → MeetsAnother before after → (untouched → after.taken ≡ before.taken)
    → (after_asking how ≡ ending.socket_failed → ⊥) → StopAsked path untouched before after how
    → after_asking how ≡ ending.unanswered
asked_another path untouched before after how it stays sound (stop.unmade same is) =
    absurd (none_sent before after (stays same) it)
asked_another path untouched before after how it stays sound (stop.undialled same is) =
    absurd (sound (ap after_asking is))
asked_another path untouched before after how it stays sound (stop.cut front short dialled is) =
    absurd (sound (ap after_asking is))
asked_another path untouched before after how it stays sound (stop.unread bytes few dialled is) =
    absurd (sound (ap after_asking is))
asked_another path untouched before after how it stays sound (stop.short bytes few dialled ended is) =
    ap after_asking is
asked_another path untouched before after how it stays sound (stop.other bytes many differ dialled is) =
    ap after_asking is
asked_another path untouched before after how it stays sound (stop.stops dialled is) =
    let read = behind_dial path stop_request stop_answer before after it.replies it.replies_told dialled in
    absurd (it.another (begins_so (next_reply it.replies) read.rest read.joined))

-- a request to stop that went out whole and meets another answer
pub stop_another : (given : Given) (tally : Tally) (kept : ℕ) (silent untouched : Type 0)
    (serves : List ℕ → Ending → Type 0) (out : Output) (before after : WireSeen) (how : Ending) → MeetsAnother before after
    → (untouched → after.taken ≡ before.taken) → (how ≡ ending.socket_failed → ⊥)
    → DaemonCame given tally kept silent untouched serves out before after how → how ≡ ending.unanswered
stop_another given tally kept silent untouched serves out before after how it stays sound (daemon.no_command a b no_serve c same d is) =
    absurd (none_sent before after (stays same) it)
stop_another given tally kept silent untouched serves out before after how it stays sound (daemon.exercise asked is same came) =
    absurd (none_sent before after (stays same) it)
stop_another given tally kept silent untouched serves out before after how it stays sound (daemon.stop config asks a b (stop.no_options same none)) =
    absurd (none_sent before after (stays same) it)
stop_another given tally kept silent untouched serves out before after how it stays sound (daemon.stop config asks a b (stop.by_options said holds asked (stop.no_control same none how_is) is)) =
    absurd (none_sent before after (stays same) it)
stop_another given tally kept silent untouched serves out before after how it stays sound (daemon.stop config asks a b (stop.by_options said holds asked (stop.asked path controls came) is)) =
    is ∙ asked_another path untouched before after asked it stays (λ failed. sound (is ∙ failed)) came
stop_another given tally kept silent untouched serves out before after how it stays sound (daemon.serve config asks same came) =
    absurd (none_sent before after (ap (λ (seen : WireSeen). seen.taken) same) it)

-- ---- both, by the status

-- what came of the words, and what the status tells of faults
pub record Known (given : Given) (tally : Tally) (kept : ℕ) (silent untouched : Type 0)
    (serves : List ℕ → Ending → Type 0) (out : Output) (before after : WireSeen) (file_failed : Type 0) (status : ℕ) : Type 0 where
  pub how : Ending
  pub came : DaemonCame given tally kept silent untouched serves out before after how
  pub number : status ≡ status_of how
  pub file : status ≡ unread_file → file_failed
  pub wire : status ≡ failed_socket → WireFailed before after

pub complete_by : (given : Given) (tally : Tally) (kept : ℕ) (silent untouched : Type 0)
    (serves : List ℕ → Ending → Type 0) (out : Output) (before after : WireSeen) (file_failed : Type 0) (status : ℕ)
    → Known given tally kept silent untouched serves out before after file_failed status
    → CanStop given before → ¬ file_failed → ¬ WireFailed before after
    → (status ≡ success) ⊎ (status ≡ want_of_memory)
complete_by given tally kept silent untouched serves out before after file_failed status it can no_file no_wire =
    elim (stop_well given tally kept silent untouched serves out before after it.how can
    (λ name is. no_file (it.file (it.number ∙ ap status_of is)))
    (λ is. no_wire (it.wire (it.number ∙ ap status_of is))) it.came) [
      | inl is ↦ inl (it.number ∙ ap status_of is)
      | inr is ↦ inr (it.number ∙ ap status_of is)
    ]

pub another_by : (given : Given) (tally : Tally) (kept : ℕ) (silent untouched : Type 0)
    (serves : List ℕ → Ending → Type 0) (out : Output) (before after : WireSeen) (file_failed : Type 0) (status : ℕ)
    → Known given tally kept silent untouched serves out before after file_failed status
    → (untouched → after.taken ≡ before.taken) → MeetsAnother before after
    → ¬ WireFailed before after → status ≡ bad_message
another_by given tally kept silent untouched serves out before after file_failed status it stays meets no_wire =
    it.number ∙ ap status_of (stop_another given tally kept silent untouched serves out before after it.how
    meets stays (λ is. no_wire (it.wire (it.number ∙ ap status_of is))) it.came)

-- no words ask for a load and for a stop
not_both : (words : List (List ℕ)) (asked : AskedExercise) (config : List ℕ) → exercise_of words ≡ Some asked → stop_of words ≡ Some config → ⊥
not_both [] asked config load stop = absurd (cc)
not_both (a ∷ []) asked config load stop = absurd (cc)
not_both (a ∷ b ∷ []) asked config load stop = absurd (cc)
not_both (a ∷ b ∷ c ∷ []) asked config load stop = absurd (cc)
not_both (a ∷ b ∷ c ∷ d ∷ []) asked config load stop = absurd (cc)
not_both (a ∷ b ∷ c ∷ d ∷ e ∷ words) asked config load stop = absurd (cc)

pub cannot_stop : (given : Given) (seen : WireSeen) (asked : AskedExercise) → exercise_of given.words ≡ Some asked → CanStop given seen → ⊥
cannot_stop given seen asked load can = not_both given.words asked can.config load can.asked_for

-- no words ask for a load and that a daemon serves
pub not_load_and_serve : (words : List (List ℕ)) (asked : AskedExercise) (config : List ℕ)
    → exercise_of words ≡ Some asked → serve_of words ≡ Some config → ⊥
not_load_and_serve [] asked config load serves = absurd (cc)
not_load_and_serve (a ∷ []) asked config load serves = absurd (cc)
not_load_and_serve (a ∷ b ∷ []) asked config load serves = absurd (cc)
not_load_and_serve (a ∷ b ∷ c ∷ words) asked config load serves = absurd (cc)
