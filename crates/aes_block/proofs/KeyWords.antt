-- What the words of the key expansion are.
use Rattle.std.proofs.Common.{◌≡◌, ℕ, ◌<◌, suc, List, [], ◌∷◌, ◌++◌, map, get_or, refl, ap, ◌∙◌, arith}
use Rattle.std.proofs.lemmas.List.FromFn.{get_or-map-range_with_len}
use Rattle.std.specs.List.{range_with_len}
use Rattle.aes_block.specs.Field.{bit, xtimes}
use Rattle.aes_block.specs.State.{Column}
use Rattle.aes_block.specs.KeyExpansion.{power_of_x, next_word, expanded_by}
use Rattle.aes_block.specs.declared.key_expansion.TheConstants.{POWERS_OF_X}

power_entries : POWERS_OF_X ≡ map power_of_x (range_with_len 0 10)
unfolding power_of_x xtimes bit
power_entries = refl

pub power_of_x_at : (j : ℕ) → j < 10 → get_or POWERS_OF_X j 0 ≡ power_of_x j
power_of_x_at j h = ap (λ t. get_or t j 0) power_entries ∙ get_or-map-range_with_len power_of_x 0 10 j j 0 h (omega arith)

-- one more word
pub expanded_by_more : (nk more n : ℕ) (words : List Column) → more ≡ suc n
    → expanded_by nk more words ≡ expanded_by nk n words ++ next_word nk (expanded_by nk n words) ∷ []
unfolding expanded_by
expanded_by_more nk more n words e = rw e refl
