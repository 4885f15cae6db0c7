use Rattle.load_maker.specs.Load.{files_of}
use Rattle.munged_run.proofs.StreamOfRequests.{FrameLaws}
use Rattle.munged_run.proofs.ServedJobs.{LoadLaws}
use Rattle.munged_run.proofs.LoadRuns.{served_by}
use Rattle.munged_run.proofs.exercise.serve_load.Goals as goal

pub returns : goal.returns
returns g c =
    let frames : FrameLaws = record {
      one = c.frame_has_one_message.ensures;
      apart = c.no_frame_goes_on_to_another.ensures;
    } in
    let laws : LoadLaws = record {
      frames = frames;
      one_finding = c.finding_is_one.ensures;
      ready = c.credential_is_ready.ensures;
    } in
    let ran = c.in_ok-end.ensures.ran (record {
      files = files_of c.args.asked.now.number;
      made = c.in_ok-load.ensures.world;
    }) in
    let under = rw c.in_ok-seeds.ensures.seeds at ran in
    served_by laws c.args.asked.now c.close_load.result c.in_ok-load.load c.in_ok-jobs.jobs.items _
    c.one_more_event.ensures.purge_accepted c.in_ok-load.ensures c.in_ok-jobs.ensures.jobs under
    c.close_load.ensures.tally c.close_load.ensures.kept c.close_load.ensures.wanted
