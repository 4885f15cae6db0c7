use Rattle.std.proofs.Common.{◌≡◌, ◌<◌, ◌+◌, ◌/◌, length, Some, refl, ap, ◌∙◌, arith}
use Rattle.std.proofs.lemmas.List.{length-append}
use Rattle.std.proofs.lemmas.Option.{slice_get_read}
use Rattle.std.specs.List.{slice_get}
use Rattle.munged_run.proofs.LoadJobsMade.{one_more_job}
use Rattle.munged_run.proofs.load.jobs.jobs_of.Goals as goal

pub jobs-preserved : goal.jobs-preserved
jobs-preserved c =
    let before = c.jobs.invariant in
    let more : length c.push_reserved.new.self.items ≡ c.jobs.j + 1 =
    ap length c.push_reserved.ensures.items ∙ (length-append c.jobs.jobs.items _ ∙ ap (λ n. n + 1) before.count) in
    let less : c.jobs.j / 2 < length c.args.load.now.texts.items =
    omega (arith, c.jobs-test.true, c.len-count.ensures, c.args.load.now.texts.ok.0) in
    let text_is : slice_get c.args.load.now.texts.items (c.jobs.j / 2) ≡ Some c.index.result.now =
    slice_get_read c.args.load.now.texts.items (length c.args.load.now.texts.items) (c.jobs.j / 2) c.index.result.now refl less c.index.ensures in
    record {
      count = more;
      room = omega (arith, before.room, c.push_reserved.ensures.capacity);
      each = rw c.push_reserved.ensures.items
          (one_more_job c.args.load.now c.jobs.jobs.items c.in_ok-job.job c.jobs.j c.index.result.now before.each before.count text_is c.in_ok-job.ensures);
    }
