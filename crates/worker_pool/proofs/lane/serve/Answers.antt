use Rattle.worker_pool.proofs.Completes.{complete_timed}
use Rattle.worker_pool.proofs.lane.serve.Goals as goal

pub returns-clause-served : goal.returns-clause-served
returns-clause-served g c =
    record {
      pass_is = c.number.ensures;
      serves = c.serve_in-served.ensures.serves;
      reading = c.serve_in-served.ensures.reading;
      caused = (c.serve_in-served.ensures.link_caused, c.serve_in-served.ensures.clock_caused);
      complete = complete_timed _ _ _ c.serve_in-served.result c.serve_in-served.ensures.clock_caused c.serve_in-served.ensures.complete;
    }
