use Rattle.std.proofs.Common.{◌≡◌, ◌+◌, ◌-◌, ◌*◌, ◌/◌, ◌++◌, ◌∷◌, [], List, length, inl, inr, sym, ap, ap₂, ◌∙◌, arith}
use Rattle.std.proofs.lemmas.List.{take_more_set, take_all}
use Rattle.std.proofs.lemmas.List.FromFn.{map-range_with_len_more}
use Rattle.aes_block.specs.State.{Column, column_at}
use Rattle.aes_block.specs.KeyExpansion.{key_words, expanded_by, expanded_key}
use Rattle.aes_block.proofs.KeyWords.{expanded_by_more}
use Rattle.aes_block.proofs.key_expansion.expand.Goals as goal

pub loop-i-preserved : goal.loop-i-preserved
loop-i-preserved c =
    take_more_set c.loop-i.words c.loop-i.i c.word_of_key.result (omega arith)
    ∙ ap₂ (λ (done : List Column) (word : Column). done ++ word ∷ []) c.loop-i.invariant c.word_of_key.ensures
    ∙ sym (map-range_with_len_more (λ k. column_at c.args.key.now (4 * k)) 0 c.loop-i.i c.loop-i.i (omega arith))

pub loop-i-2-init : goal.loop-i-2-init
unfolding expanded_by key_words
loop-i-2-init c =
    let done : length c.args.key.now / 4 ≡ c.loop-i.i = omega arith in
    let none : c.loop-i.i - c.loop-i.i ≡ 0 = omega arith in
    rw (done, none) c.loop-i.invariant

pub loop-i-2-preserved : goal.loop-i-2-preserved
loop-i-2-preserved c =
    take_more_set c.loop-i-2.words c.loop-i-2.i c.next_word-word.result (omega arith)
    ∙ ap₂ (λ (done : List Column) (word : Column). done ++ word ∷ []) c.loop-i-2.invariant
    (rw c.loop-i-2.invariant at c.next_word-word.ensures)
    ∙ sym (expanded_by_more (length c.args.key.now / 4) _ (c.loop-i-2.i - length c.args.key.now / 4) (key_words c.args.key.now) (omega arith))

pub returns : goal.returns
unfolding expanded_key
returns c =
    let left : c.loop-i-2.i - length c.args.key.now / 4 ≡ 4 * (length c.args.key.now / 4 + 6 + 1) - length c.args.key.now / 4 =
    elim c.requires.size [ inl short ↦ omega arith | inr long ↦ omega arith ] in
    sym (take_all c.loop-i-2.i c.loop-i-2.words (omega arith)) ∙ c.loop-i-2.invariant
    ∙ ap (λ n. expanded_by (length c.args.key.now / 4) n (key_words c.args.key.now)) left
