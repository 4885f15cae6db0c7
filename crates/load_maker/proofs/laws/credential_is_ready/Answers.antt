use Rattle.decode_rules.specs.Terms.{terms_of}
use Rattle.load_maker.proofs.ReadyTexts.{ready}
use Rattle.load_maker.specs.Load.{files_of}
use Rattle.load_maker.specs.Words.{drawn_at, place_of, seed_of}
use Rattle.load_maker.proofs.laws.credential_is_ready.Goals as goal

pub returns : goal.returns
returns c = λ n number load i text made found.
    ready (terms_of load.world load.who (files_of number)) load.moment i (drawn_at (seed_of number) (place_of i)) text
    made.settings made.at (made.texts i text found)
