use Rattle.std.proofs.Common.{◌&&◌, take, get_or, arith, sym, ◌∙◌}
use Rattle.std.proofs.lemmas.List.{take_more}
use Rattle.std.proofs.lemmas.List.Folds.{list_all_more}
use Rattle.group_map.proofs.DigitLemmas.{small_power, next_power, value_of-more}
use Rattle.std.specs.Char.{is_ascii_digit}
use Rattle.group_map.proofs.number.value_of.Goals as goal

pub overflow_mul-value : goal.overflow_mul-value
overflow_mul-value c = omega (arith, c.digits.invariant.small, small_power c.digits.digit-index (omega arith))

pub digits-preserved : goal.digits-preserved
digits-preserved c =
    let i = c.digits.digit-index in
    let more = take_more c.args.digits.now i 0 (omega arith) in
    record {
      so_far = rw more (rw (value_of-more (take i c.args.digits.now) (get_or c.args.digits.now i 0)) (omega (arith, c.digits.invariant.so_far, c.from.ensures)));
      digits = list_all_more is_ascii_digit c.args.digits.now i 0 (omega arith) ∙ (λ j. c.digits.invariant.digits j && sym c.if-not-is_ascii_digit.ensures.value j);
      small = omega (arith, c.digits.invariant.small, next_power i, c.from.ensures, c.if-not-is_ascii_digit.ensures.cases);
    }
