use Rattle.std.proofs.Common.{ap, refl, ◌∙◌}
use Rattle.worker_pool.specs.Desks.{later_of}
use Rattle.worker_pool.proofs.desk.handle.Goals as goal

pub returns-clause-handles : goal.returns-clause-handles
returns-clause-handles g c = record {
  kept = record {
    post = c.args.taken.waiting.post;
    turn = c.args.taken.waiting.turn;
    pass = c.number-pass.result;
    conn = c.serve_in-served.new.conn;
    served = c.serve_in-served.result;
  };
  post_is = refl;
  turn_is = refl;
  pass_is = c.number-pass.ensures;
  pass = c.serve_in-served.ensures.pass;
  serves = c.serve_in-served.ensures.serves;
  caused = c.serve_in-served.ensures.link_caused;
  complete = c.serve_in-served.ensures.complete;
  reading = c.serve_in-served.ensures.reading;
  clock_caused = c.serve_in-served.ensures.clock_caused;
  draws = c.serve_in-served.ensures.draws;
  appended = c.keep.ensures.appended;
  counted = c.with-desk.ensures;
  worn_is = c.later-desk.ensures ∙ ap (later_of c.args.desk.now.worn) c.worn_ticket-worn.ensures;
}
