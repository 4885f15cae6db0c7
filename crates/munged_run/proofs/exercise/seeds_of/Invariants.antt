use Rattle.std.proofs.Common.{◌≡◌, ◌≤◌, length, vec_capacity}
use Rattle.munged_run.specs.LoadServed.{seeds_of as seeds_are}
use Rattle.munged_run.proofs.exercise.seeds_of.Given as goal

-- the seeds so far
abbrev pub invariant-seeds : goal.invariant-seeds
invariant-seeds l = record {
  seeds : l.seeds.items ≡ seeds_are l.worker;
  count : length l.seeds.items ≡ l.worker;
  room : l.workers ≤ vec_capacity l.seeds;
}
