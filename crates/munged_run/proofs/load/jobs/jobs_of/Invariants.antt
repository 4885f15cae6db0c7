use Rattle.std.proofs.Common.{◌≡◌, ◌≤◌, ◌/◌, ℕ, length, vec_capacity, Some}
use Rattle.std.specs.List.{slice_get}
use Rattle.worker_pool.specs.declared.job.Job.{Job}
use Rattle.munged_run.specs.LoadJobs.{PresentsText}
use Rattle.munged_run.specs.LoadLink.{LinkState}
use Rattle.munged_run.specs.declared.load.clock.LoadClock.{LoadClock}
use Rattle.munged_run.proofs.load.jobs.jobs_of.Given as goal

-- the jobs so far
abbrev pub invariant-jobs : goal.invariant-jobs
invariant-jobs l = record {
  count : length l.jobs.items ≡ l.j;
  room : l.count ≤ vec_capacity l.jobs;
  each : (j : ℕ) (job : Job LinkState LoadClock) → slice_get l.jobs.items j ≡ Some job
      → PresentsText l.load (slice_get l.load.texts.items (j / 2)) job;
}
