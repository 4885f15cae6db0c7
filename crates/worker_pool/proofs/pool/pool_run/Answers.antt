use Rattle.std.proofs.Common.{◌≡◌, ◌≤◌, ℕ, List, length, sym, ap, ◌∙◌, subst, arith}
use Rattle.worker_pool.specs.Dealing.{EachLoaded}
use Rattle.worker_pool.specs.Joining.{EachFinished, InOrder, Joined}
use Rattle.worker_pool.specs.Pool.{Gathered, Tallies}
use Rattle.worker_pool.specs.Work.{Sight, Work, sight_of, work_of}
use Rattle.worker_pool.specs.declared.job.Job.{Job}
use Rattle.worker_pool.specs.declared.lane.Lane.{Lane}
use Rattle.worker_pool.specs.declared.job.Done.{Done}
use Rattle.worker_pool.specs.declared.pool.Batch.{Batch}
use Rattle.worker_pool.proofs.Ran.{each_finished}
use Rattle.worker_pool.proofs.Totals.{pool_ran}
use Rattle.worker_pool.proofs.pool.pool_run.Goals as goal

pub gather-requires-clause-in_order : goal.gather-requires-clause-in_order
gather-requires-clause-in_order g c =
    let sight : Sight g.row.L.Denot g.row.C.Denot = sight_of g.L.Source.left g.L.Source.ends g.L.Sink.taken g.L.Link.rings g.L.Source.read_faults
    g.L.Sink.write_faults g.C.Clock.readings g.C.Clock.last_reading g.C.Clock.given g.C.Clock.clock_faults in
    let world = c.args.world.now in
    let jobs : List (Job g.row.L.Denot g.row.C.Denot) = c.args.jobs.items in
    let seeds : List (List ℕ) = c.args.seeds.items in
    let work : Work g.row.L.Denot g.row.C.Denot = work_of sight world seeds jobs in
    let gate = c.in_ok-gate.field-0.gate in
    let old : List (Lane g.row.L.Denot g.row.C.Denot) = c.in_ok-lanes.lanes.items in
    let lanes : List (Lane g.row.L.Denot g.row.C.Denot) = c.serve_all-lanes.result.items in
    let all : List (Batch g.row.L.Denot g.row.C.Denot) = c.meet_all-all.new.batches.items in
    let loaded : EachLoaded jobs gate seeds old = subst (λ (s : List (List ℕ)). EachLoaded jobs gate s old) c.deref.ensures.value c.in_ok-lanes.ensures.lanes in
    let as_many : length old ≡ length seeds = c.in_ok-lanes.ensures.count ∙ ap length c.deref.ensures.value in
    let served : length lanes ≡ length old = c.serve_all-lanes.ensures.count in
    let finished : EachFinished work (length lanes) lanes =
    each_finished sight world seeds jobs gate old lanes as_many served loaded c.serve_all-lanes.ensures.ran in
    let met : length all ≡ length lanes = c.meet_all-all.ensures.count in
    let joined : Joined work (length all) 0 c.meet_all-all.result all =
    subst (λ n. Joined work n 0 c.meet_all-all.result all) (sym met) (c.meet_all-all.ensures.joined work finished) in
    let count : c.len-count.result ≡ length jobs = omega (arith, c.args.jobs.ok.0, c.len-count.ensures) in
    let in_order : InOrder c.len-count.result (length all) 0 all = subst (λ n. InOrder n (length all) 0 all) (sym count) joined.in_order in
    subst (λ (l : List (Batch g.row.L.Denot g.row.C.Denot)). InOrder c.len-count.result (length l) 0 l) (sym c.deref_mut.ensures.value) in_order

pub returns : goal.returns
returns g c =
    let sight : Sight g.row.L.Denot g.row.C.Denot = sight_of g.L.Source.left g.L.Source.ends g.L.Sink.taken g.L.Link.rings g.L.Source.read_faults
    g.L.Sink.write_faults g.C.Clock.readings g.C.Clock.last_reading g.C.Clock.given g.C.Clock.clock_faults in
    let world = c.args.world.now in
    let jobs : List (Job g.row.L.Denot g.row.C.Denot) = c.args.jobs.items in
    let seeds : List (List ℕ) = c.args.seeds.items in
    let work : Work g.row.L.Denot g.row.C.Denot = work_of sight world seeds jobs in
    let gate = c.in_ok-gate.field-0.gate in
    let old : List (Lane g.row.L.Denot g.row.C.Denot) = c.in_ok-lanes.lanes.items in
    let lanes : List (Lane g.row.L.Denot g.row.C.Denot) = c.serve_all-lanes.result.items in
    let all : List (Batch g.row.L.Denot g.row.C.Denot) = c.meet_all-all.new.batches.items in
    let loaded : EachLoaded jobs gate seeds old = subst (λ (s : List (List ℕ)). EachLoaded jobs gate s old) c.deref.ensures.value c.in_ok-lanes.ensures.lanes in
    let as_many : length old ≡ length seeds = c.in_ok-lanes.ensures.count ∙ ap length c.deref.ensures.value in
    let served : length lanes ≡ length old = c.serve_all-lanes.ensures.count in
    let finished : EachFinished work (length lanes) lanes =
    each_finished sight world seeds jobs gate old lanes as_many served loaded c.serve_all-lanes.ensures.ran in
    let met : length all ≡ length lanes = c.meet_all-all.ensures.count in
    let joined : Joined work (length all) 0 c.meet_all-all.result all =
    subst (λ n. Joined work n 0 c.meet_all-all.result all) (sym met) (c.meet_all-all.ensures.joined work finished) in
    let count : c.len-count.result ≡ length jobs = omega (arith, c.args.jobs.ok.0, c.len-count.ensures) in
    let done : List (Done g.row.L.Denot g.row.C.Denot) = c.gather.new.done.items in
    let gathered : Gathered (length jobs) all done =
    subst (λ n. Gathered n all done) count
    (subst (λ (l : List (Batch g.row.L.Denot g.row.C.Denot)). Gathered c.len-count.result l done) c.deref_mut.ensures.value c.gather.ensures) in
    let tallies : Tallies done c.count_all-tally.result =
    subst (λ (l : List (Done g.row.L.Denot g.row.C.Denot)). Tallies l c.count_all-tally.result) c.deref-2.ensures.value c.count_all-tally.ensures in
    let start : gate.start ≡ 0 = c.in_ok-gate.ensures.start in
    let highest : c.meet_all-all.result.highest ≤ length c.meet_all-all.result.seen = (let h = c.close-closed.ensures.highest in omega arith) in
    record {
      ran = λ made. pool_ran work c.meet_all-all.result all done c.count_all-tally.result c.close-closed.result.length
          (g.R.Replay.remembered c.close-closed.result.state) made (met ∙ (served ∙ as_many)) joined c.close-closed.ensures.made highest
          c.close-closed.ensures.length c.close-closed.ensures.stands c.close-closed.ensures.once gathered tallies c.requires.jobs;
    }
