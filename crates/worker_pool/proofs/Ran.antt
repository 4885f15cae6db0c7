-- What workers that were ready are after their run.
use Rattle.std.proofs.Common.{◌≡◌, ℕ, ◌%◌, List, [], length, get_or, sym, ap, ◌∙◌, subst, arith}
use Rattle.std.specs.List.{All}
use Rattle.std.proofs.lemmas.List.Elements.{All-weaker}
use Rattle.decode_rules.specs.declared.world.World.{World}
use Rattle.replay_gate.specs.PassState.{GateId, PassState}
use Rattle.worker_pool.specs.Dealing.{EachLoaded, IsTaskAt, Loaded}
use Rattle.worker_pool.specs.Joining.{HasPass, Finished, EachFinished}
use Rattle.worker_pool.specs.Lanes.{EachRan, IsReady, IsTaskOf}
use Rattle.worker_pool.specs.Work.{Sight, Work, work_of}
use Rattle.worker_pool.specs.declared.job.Job.{Job}
use Rattle.worker_pool.specs.declared.lane.Lane.{Lane}
use Rattle.worker_pool.specs.declared.lane.Task.{Task}
use Rattle.worker_pool.proofs.Runs.{alone, of_gate}

pub all_ready : {L C : Type 0} (jobs : List (Job L C)) (gate : GateId) (seeds : List (List ℕ)) (lanes : List (Lane L C))
    → EachLoaded jobs gate seeds lanes → All (IsReady gate) lanes
all_ready jobs gate seeds lanes loaded k d within = (loaded k d within).ready

pub all_passes : {L C : Type 0} (sight : Sight L C) (world : World) (jobs : List (Job L C)) (gate : GateId) (seeds : List (List ℕ)) (old new : List (Lane L C))
    → length new ≡ length old → EachLoaded jobs gate seeds old → EachRan sight world old new → All (HasPass gate) new
all_passes sight world jobs gate seeds old new same loaded ran k d within =
    let before = loaded k d (omega arith) in
    let run = ran k d (omega arith) in record {
      of_gate = of_gate gate (get_or old k d).pass (get_or new k d).pass before.ready.fresh run.gone_on;
      alone = alone gate (get_or old k d).pass (get_or new k d).pass before.ready.fresh run.gone_on;
      share = ap (λ (z : PassState). z.share) run.gone_on ∙ before.ready.fresh.share;
    }

-- the tasks of a worker are jobs that its seed serves
its_tasks : {L C : Type 0} (sight : Sight L C) (world : World) (seeds : List (List ℕ)) (jobs : List (Job L C)) (gate : GateId) (k workers : ℕ) (lane : Lane L C)
    → workers ≡ length seeds → Loaded jobs gate (get_or seeds k []) k workers lane
    → All (IsTaskOf (work_of sight world seeds jobs) lane.dice.seed) lane.tasks.items
its_tasks {L} {C} sight world seeds jobs gate k workers lane many loaded =
    All-weaker (IsTaskAt jobs k workers) (IsTaskOf (work_of sight world seeds jobs) lane.dice.seed)
    (λ (task : Task L C) at. record {
      job_is = at.job_is;
      seed_is = ap (λ n. get_or seeds n []) (ap (λ n. task.number % n) (sym many) ∙ at.worker_is) ∙ sym loaded.seed_is;
    }) lane.tasks.items loaded.tasks

pub each_finished : {L C : Type 0} (sight : Sight L C) (world : World) (seeds : List (List ℕ)) (jobs : List (Job L C)) (gate : GateId) (old new : List (Lane L C))
    → length old ≡ length seeds → length new ≡ length old → EachLoaded jobs gate seeds old → EachRan sight world old new
    → EachFinished (work_of sight world seeds jobs) (length new) new
each_finished {L} {C} sight world seeds jobs gate old new many same loaded ran k d within =
    let before = loaded k d (omega arith) in
    let run = ran k d (omega arith) in
    let work : Work L C = work_of sight world seeds jobs in
    subst (λ n. Finished work k n (get_or new k d)) (sym same)
    record {
      in_order = run.in_order ∙ before.in_order;
      by_six = run.by_six;
      worked = λ made. run.worked made seeds jobs (its_tasks sight world seeds jobs gate k (length old) (get_or old k d) many before);
    }
