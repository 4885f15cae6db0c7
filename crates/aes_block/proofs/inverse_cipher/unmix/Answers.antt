use Rattle.std.proofs.Common.{◌++◌, ◌∷◌, [], List, map, take, sym, ap, ap₂, ◌∙◌, arith}
use Rattle.std.proofs.lemmas.List.{take_more, take_more_set, take_all, map-append}
use Rattle.aes_block.specs.State.{Column}
use Rattle.aes_block.specs.Rounds.{mix_column}
use Rattle.aes_block.proofs.inverse_cipher.unmix.Goals as goal

pub loop-i-preserved : goal.loop-i-preserved
loop-i-preserved c =
    ap (map mix_column) (take_more_set c.loop-i.unmixed c.loop-i.i c.unmixed_word.result (omega arith))
    ∙ map-append mix_column (take c.loop-i.i c.loop-i.unmixed) (c.unmixed_word.result ∷ [])
    ∙ ap₂ (λ (done : List Column) (word : Column). done ++ word ∷ []) c.loop-i.invariant (c.unmixed_word.ensures ∙ c.index-words-i.is)
    ∙ sym (take_more c.args.words.now c.loop-i.i c.index-words-i.result c.loop-i-test.true)

pub returns : goal.returns
returns c =
    ap (map mix_column) (sym (take_all c.loop-i.i c.loop-i.unmixed (omega arith)))
    ∙ c.loop-i.invariant
    ∙ take_all c.loop-i.i c.args.words.now (omega arith)
