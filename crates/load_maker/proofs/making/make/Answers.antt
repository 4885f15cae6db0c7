use Rattle.std.proofs.Common.{◌≡◌, ap, refl, ◌∙◌}
use Rattle.load_maker.proofs.LoadTexts.{load_of}
use Rattle.load_maker.specs.Words.{seed_of}
use Rattle.load_maker.proofs.making.make.Goals as goal

pub credentials-requires-clause-keyed : goal.credentials-requires-clause-keyed
credentials-requires-clause-keyed c =
    rw (c.key.ensures.goes_on, ← c.key.ensures.value) c.in-Ok.ensures.subkeys

pub returns : goal.returns
returns c =
    let same : c.key.new.self.seed ≡ seed_of c.args.number =
    ap (λ s. s.seed) c.key.ensures.goes_on ∙ ap (λ s. s.seed) c.of-words.ensures in
    load_of c.args.n c.args.number _ c.key.new.self.seed same
    (rw (c.key.ensures.goes_on, ← c.key.ensures.value) c.in-Ok.ensures.subkeys)
    c.none.ensures
    (record {
      default_ttl = c.usual.ensures.default_ttl;
      max_ttl = c.usual.ensures.max_ttl;
      skew = c.usual.ensures.skew;
      addr = c.usual.ensures.addr;
    })
    refl refl refl c.in_ok-texts.ensures.count c.in_ok-texts.ensures.texts
