use Rattle.std.proofs.Common.{◌≡◌, length, arith}
use Rattle.load_maker.proofs.OneLoad.{same_texts}
use Rattle.load_maker.specs.Words.{seed_of}
use Rattle.load_maker.proofs.laws.load_is_one.Goals as goal

pub returns : goal.returns
returns c = λ n number first second made made'.
    let count : length first.texts.items ≡ length second.texts.items =
    omega (arith, made.count, made'.count, first.texts.ok.0, second.texts.ok.0) in
    same_texts (seed_of number) first.world.settings second.world.settings first.texts.items second.texts.items
    c.sealed_text_is_one.ensures made.settings made'.settings count made.texts made'.texts
