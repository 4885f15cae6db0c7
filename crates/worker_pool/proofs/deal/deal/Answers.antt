use Rattle.std.proofs.Common.{◌≡◌, ◌+◌, ◌%◌, length, get_or, vec_len, List, take, sym, ap, ◌∙◌, refl, subst, arith, rules}
use Rattle.std.proofs.Common.{set, Some}
use Rattle.std.specs.List.{slice_get}
use Rattle.worker_pool.specs.Dealing.{EachDealt}
use Rattle.worker_pool.specs.declared.job.Job.{Job}
use Rattle.worker_pool.specs.declared.lane.Lane.{Lane}
use Rattle.worker_pool.proofs.Deals.{last_job, deal_more}
use Rattle.worker_pool.proofs.deal.deal.Goals as goal

pub loop-job-preserved : goal.loop-job-preserved
loop-job-preserved g c =
    let jobs : List (Job g.row.L.Denot g.row.C.Denot) = c.args.jobs.items in
    let old : List (Lane g.row.L.Denot g.row.C.Denot) = c.args.lanes.now in
    let lanes : List (Lane g.row.L.Denot g.row.C.Denot) = c.loop-job.lanes in
    let rest : List (Job g.row.L.Denot g.row.C.Denot) = c.pop.new.self.items in
    let number = c.len-number.result in
    let len : length rest ≡ vec_len c.pop.new.self = omega (arith, c.pop.new.self.ok.0) in
    let number_is : number ≡ vec_len c.pop.new.self = c.len-number.ensures in
    let told = last_job jobs c.loop-job.jobs.items rest (vec_len c.loop-job.jobs) c.in-Some.job c.loop-job.invariant.items c.in-Some.ensures.items in
    let same : length lanes ≡ length old = c.loop-job.invariant.same_len in
    let was : Lane g.row.L.Denot g.row.C.Denot = c.index-lanes-worker.result in
    let new : Lane g.row.L.Denot g.row.C.Denot = record {
      pass = (get_or lanes (number % length lanes) was).pass;
      dice = (get_or lanes (number % length lanes) was).dice;
      tasks = c.push.new.self;
      done = (get_or lanes (number % length lanes) was).done;
    } in
    let more : vec_len c.loop-job.jobs ≡ number + 1 = omega (arith, c.in-Some.ensures.cases) in
    let each : EachDealt jobs (number + 1) old lanes = subst (λ n. EachDealt jobs n old lanes) more c.loop-job.invariant.each in
    let dealt = deal_more jobs old lanes number (number % length lanes) c.in-Some.job was new same c.requires.some (ap (λ n. number % n) same)
    (subst (λ n. slice_get jobs n ≡ Some c.in-Some.job) (len ∙ sym number_is) told.0) refl refl refl c.in_ok-push.ensures.items each in
    record {
      items = told.1 ∙ ap (λ n. take n jobs) len;
      within = omega (arith, c.in-Some.ensures.cases);
      same_len = search rules;
      each = subst (λ n. EachDealt jobs n old (set lanes (number % length lanes) new)) number_is dealt;
    }
