use Rattle.std.proofs.Common.{◌+◌, ◌≡◌, length, arith, ap, refl, ◌∙◌}
use Rattle.std.proofs.lemmas.List.{length-append}
use Rattle.load_maker.proofs.LoadTexts.{one_more}
use Rattle.load_maker.specs.Words.{key_of}
use Rattle.load_maker.proofs.making.credentials.Goals as goal

pub credentials-preserved : goal.credentials-preserved
credentials-preserved c =
    let before = c.credentials.invariant in
    let drawn = rw before.seed at c.draw.ensures.value in
    let credential = rw drawn at (c.in_ok-text.ensures (key_of c.args.words.seed) c.requires.keyed) in
    let more : length c.push_reserved.new.self.items ≡ c.credentials.i + 1 =
    ap length c.push_reserved.ensures.items ∙ (length-append c.credentials.texts.items _ ∙ ap (λ n. n + 1) before.count) in
    record {
      texts = rw c.push_reserved.ensures.items
          (one_more c.args.words.seed c.args.world.now.settings c.credentials.texts.items c.credentials.i c.credentials.words.place _
          c.in_ok-text.text before.texts before.count before.place refl credential);
      count = more;
      room = omega (arith, before.room, c.push_reserved.ensures.capacity);
      seed = ap (λ s. s.seed) c.draw.ensures.goes_on ∙ before.seed;
      place = omega (arith, ap (λ s. s.place) c.draw.ensures.goes_on, before.place);
    }
