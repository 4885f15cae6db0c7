use Rattle.std.proofs.Common.{◌≡◌, ◌≤◌, length, vec_capacity}
use Rattle.munged_files.specs.SeedFile.{seeds_in}
use Rattle.munged_files.proofs.seed_file.cut_seeds.Given as goal

-- the seeds so far
abbrev pub invariant-seeds : goal.invariant-seeds
invariant-seeds l = record {
  seeds : l.seeds.items ≡ seeds_in l.bytes l.worker;
  count : length l.seeds.items ≡ l.worker;
  room : l.workers ≤ vec_capacity l.seeds;
}
