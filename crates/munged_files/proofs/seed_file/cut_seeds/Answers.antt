use Rattle.std.proofs.Common.{◌≡◌, ◌+◌, ◌-◌, ◌*◌, refl, arith}
use Rattle.std.proofs.lemmas.List.{length-append}
use Rattle.std.proofs.lemmas.List.FromFn.{map-range_with_len_more}
use Rattle.munged_files.specs.SeedFile.{seed_at}
use Rattle.munged_files.proofs.seed_file.cut_seeds.Goals as goal

pub seeds-preserved : goal.seeds-preserved
seeds-preserved c =
    let size : (32 * c.seeds.worker + 32) - 32 * c.seeds.worker ≡ 32 = omega arith in
    let seed = rw size at c.whole_seed.ensures in
    let more = map-range_with_len_more (seed_at c.args.bytes.now) 0 c.seeds.worker c.seeds.worker (omega arith) in
    record {
      seeds = rw (c.push_reserved.ensures.items, c.seeds.invariant.seeds, seed, more) refl;
      count = rw (c.push_reserved.ensures.items, length-append) (omega (arith, c.seeds.invariant.count));
      room = rw c.push_reserved.ensures.capacity c.seeds.invariant.room;
    }
