use Rattle.std.proofs.Common.{◌+◌, length, ap, ◌∙◌, arith}
use Rattle.std.proofs.lemmas.List.{length-append}
use Rattle.munged_run.proofs.Seeds.{one_more_seed}
use Rattle.munged_run.proofs.exercise.seeds_of.Goals as goal

pub seeds-preserved : goal.seeds-preserved
seeds-preserved c =
    let before = c.seeds.invariant in
    record {
      seeds = c.push_reserved.ensures.items ∙ one_more_seed c.seeds.seeds.items c.seeds.worker before.seeds;
      count = ap length c.push_reserved.ensures.items ∙ (length-append c.seeds.seeds.items _ ∙ ap (λ n. n + 1) before.count);
      room = omega (arith, before.room, c.push_reserved.ensures.capacity);
    }
