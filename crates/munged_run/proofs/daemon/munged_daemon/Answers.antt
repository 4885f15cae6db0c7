use Rattle.std.proofs.Common.{refl, sym, ◌∙◌, ap, map}
use Rattle.std.specs.String.{string_bytes}
use Rattle.munged_run.specs.Daemon.{exercise, no_command, serve, stop}
use Rattle.munged_files.specs.Ending.{status_of}
use Rattle.munged_run.proofs.ServeCauses.{came_done, came_door, came_output, came_ticker, came_worn, none_of, or_some, same_wire, some_and}
use Rattle.munged_run.proofs.ServeWell.{serve_complete}
use Rattle.munged_run.proofs.StatusEnds.{done_by, output_by, socket_by, ticker_by, worn_by}
use Rattle.munged_run.proofs.StopWell.{another_by, cannot_stop, complete_by, none_sent, not_load_and_serve, not_stop_and_serve, stop_no_serve}
use Rattle.munged_run.proofs.daemon.munged_daemon.Goals as goal

pub returns-in-Some-clause-ran : goal.returns-in-Some-clause-ran
returns-in-Some-clause-ran g c =
    let came = c.run_exercise.ensures.came in
    record {
      how = came.how;
      came_to = exercise c.in-Some.asked (sym c.in-Some.ensures.value) refl came.came_to;
      number_is = came.number_is;
      said = came.said;
    }

pub returns-in-Some-clause-another : goal.returns-in-Some-clause-another
returns-in-Some-clause-another g c = λ meets no_wire. absurd (none_sent _ _ refl meets)

pub returns-in-Some-stop_of_words-clause-ran : goal.returns-in-Some-stop_of_words-clause-ran
returns-in-Some-stop_of_words-clause-ran g c =
    let came = c.run_stop-ended.ensures.came in
    record {
      how = came.how;
      came_to = stop c.in-Some-stop_of_words.config.now (sym c.in-Some-stop_of_words.ensures) refl
          c.unserved.ensures.nothing came.came_to;
      number_is = c.unserved.ensures.status ∙ came.number_is;
      said = came.said;
    }

pub returns-in-Some-stop_of_words-clause-complete_stop : goal.returns-in-Some-stop_of_words-clause-complete_stop
returns-in-Some-stop_of_words-clause-complete_stop g c = λ can no_file no_wire.
    let ran = returns-in-Some-stop_of_words-clause-ran g c in
    complete_by _ _ _ _ _ _ _ _ _ _ _
    (record {
      how = ran.how;
      came = ran.came_to;
      number = ran.number_is;
      file = λ is. c.run_stop-ended.ensures.file_fault (sym c.unserved.ensures.status ∙ is);
      wire = λ is. c.run_stop-ended.ensures.hall_fault (sym c.unserved.ensures.status ∙ is);
    })
    can no_file no_wire

pub returns-in-Some-stop_of_words-clause-another : goal.returns-in-Some-stop_of_words-clause-another
returns-in-Some-stop_of_words-clause-another g c = λ meets no_wire.
    let ran = returns-in-Some-stop_of_words-clause-ran g c in
    another_by _ _ _ _ _ _ _ _ _ _ _
    (record {
      how = ran.how;
      came = ran.came_to;
      number = ran.number_is;
      file = λ is. c.run_stop-ended.ensures.file_fault (sym c.unserved.ensures.status ∙ is);
      wire = λ is. c.run_stop-ended.ensures.hall_fault (sym c.unserved.ensures.status ∙ is);
    })
    (λ same. ap g.H.Sink.taken same) meets no_wire

pub returns-in-None-serve_of_words-clause-ran : goal.returns-in-None-serve_of_words-clause-ran
returns-in-None-serve_of_words-clause-ran g c =
    record {
      how = _;
      came_to = no_command (sym c.in_default.ensures.value) (sym c.in-None.ensures)
          (sym c.in-None-serve_of_words.ensures) refl refl c.unserved-in-None-serve_of_words.ensures.nothing refl;
      number_is = c.unserved-in-None-serve_of_words.ensures.status ∙ c.end.ensures.status;
      said = c.end.ensures.says;
    }

pub returns-in-None-serve_of_words-clause-another : goal.returns-in-None-serve_of_words-clause-another
returns-in-None-serve_of_words-clause-another g c = λ meets no_wire. absurd (none_sent _ _ refl meets)

pub returns-in-Some-clause-complete_stop : goal.returns-in-Some-clause-complete_stop
returns-in-Some-clause-complete_stop g c = λ can no_file no_wire.
    absurd (cannot_stop _ _ c.in-Some.asked (sym c.in-Some.ensures.value) can)

pub returns-in-Some-clause-complete_serve : goal.returns-in-Some-clause-complete_serve
returns-in-Some-clause-complete_serve g c = λ can no_file no_hall no_write no_tick no_door.
    absurd (not_load_and_serve (map string_bytes c.args.words.now) c.in-Some.asked can.config (sym c.in-Some.ensures.value) can.asked_for)

pub returns-in-Some-stop_of_words-clause-complete_serve : goal.returns-in-Some-stop_of_words-clause-complete_serve
returns-in-Some-stop_of_words-clause-complete_serve g c = λ can no_file no_hall no_write no_tick no_door.
    absurd (not_stop_and_serve (map string_bytes c.args.words.now) c.in-Some-stop_of_words.config.now can.config (sym c.in-Some-stop_of_words.ensures) can.asked_for)

pub returns-in-Some-serve_of_words-clause-ran : goal.returns-in-Some-serve_of_words-clause-ran
returns-in-Some-serve_of_words-clause-ran g c =
    let did = c.run_serve.ensures in
    record {
      how = did.came.how;
      came_to = serve c.in-Some-serve_of_words.config.now (sym c.in-Some-serve_of_words.ensures)
          (same_wire _ _ did.dialled did.replies did.left did.taken did.ends did.dial_faults
          did.read_faults did.write_faults)
          (did.came.came_to, did.totals);
      number_is = did.came.number_is;
      said = did.came.said;
    }

pub returns-in-Some-serve_of_words-clause-write_fault : goal.returns-in-Some-serve_of_words-clause-write_fault
returns-in-Some-serve_of_words-clause-write_fault g c = λ is.
    let came = c.run_serve.ensures.came in
    came_output _ _ _ _ _ _ _ _ came.how came.came_to (output_by came.how (sym came.number_is ∙ is))

pub returns-in-Some-serve_of_words-clause-served_writes_sound : goal.returns-in-Some-serve_of_words-clause-served_writes_sound
returns-in-Some-serve_of_words-clause-served_writes_sound g c = λ is.
    let came = c.run_serve.ensures.came in
    came_done _ _ _ _ _ _ _ _ came.how came.came_to (done_by came.how (sym came.number_is ∙ is))

pub returns-in-Some-serve_of_words-clause-door_fault : goal.returns-in-Some-serve_of_words-clause-door_fault
returns-in-Some-serve_of_words-clause-door_fault g c = λ asked is.
    let did = c.run_serve.ensures in
    or_some _ _ c.run_serve.result.served
    (came_door _ _ _ _ _ _ _ _ did.came.how _ did.came.came_to
    (λ how none. did.hall_fault is (none_of _ _ none))
    (socket_by did.came.how (sym did.came.number_is ∙ is)))

pub returns-in-Some-serve_of_words-clause-ticker_fault : goal.returns-in-Some-serve_of_words-clause-ticker_fault
returns-in-Some-serve_of_words-clause-ticker_fault g c = λ is.
    let came = c.run_serve.ensures.came in
    came_ticker _ _ _ _ _ _ _ _ came.how came.came_to (ticker_by came.how (sym came.number_is ∙ is))

pub returns-in-Some-serve_of_words-clause-worn : goal.returns-in-Some-serve_of_words-clause-worn
returns-in-Some-serve_of_words-clause-worn g c = λ is.
    let came = c.run_serve.ensures.came in
    let at = worn_by came.how (sym came.number_is ∙ is) in
    some_and _ _ c.run_serve.result.served
    (came_worn _ _ _ _ _ _ _ _ came.how at.0 came.came_to at.1)

pub returns-in-Some-serve_of_words-clause-complete_serve : goal.returns-in-Some-serve_of_words-clause-complete_serve
returns-in-Some-serve_of_words-clause-complete_serve g c = λ can no_file no_hall no_write no_tick no_door.
    let did = c.run_serve.ensures in
    serve_complete _ _ c.in-Some-serve_of_words.config.now _ _ _ _ _ did.came.how _ _ _
    (sym c.in-Some-serve_of_words.ensures) did.came.came_to did.came.number_is did.file_fault
    (λ how none. did.hall_fault (did.came.number_is ∙ ap status_of how) (none_of _ _ none))
    can no_file no_hall no_write no_tick (λ it. no_door (some_and _ _ c.run_serve.result.served it))

pub returns-in-Some-serve_of_words-clause-complete_stop : goal.returns-in-Some-serve_of_words-clause-complete_stop
returns-in-Some-serve_of_words-clause-complete_stop g c = λ can no_file no_wire.
    absurd (not_stop_and_serve (map string_bytes c.args.words.now) can.config c.in-Some-serve_of_words.config.now can.asked_for
    (sym c.in-Some-serve_of_words.ensures))

pub returns-in-Some-serve_of_words-clause-another : goal.returns-in-Some-serve_of_words-clause-another
returns-in-Some-serve_of_words-clause-another g c = λ meets no_wire.
    absurd (none_sent _ _ c.run_serve.ensures.taken meets)

pub returns-in-Some-stop_of_words-clause-door_fault : goal.returns-in-Some-stop_of_words-clause-door_fault
returns-in-Some-stop_of_words-clause-door_fault g c = λ asked is.
    absurd (asked (stop_no_serve (map string_bytes c.args.words.now)
    c.in-Some-stop_of_words.config.now (sym c.in-Some-stop_of_words.ensures)))
