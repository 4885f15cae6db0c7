use Rattle.std.proofs.Common.{length, refl, ap, sym, ◌∙◌, arith}
use Rattle.std.proofs.lemmas.Bool.{le-leb, lt-leb}
use Rattle.group_map.proofs.DigitLemmas.{held, held-from, id_of-held, id_of-size}
use Rattle.group_map.proofs.number.id_of.Goals as goal

pub returns-then-is_empty : goal.returns-then-is_empty
returns-then-is_empty c = id_of-size c.args.digits.now (rw (lt-leb 1 (length c.args.digits.now) (grind arith)) refl)

pub returns-then-digits-gt-MOST_DIGITS : goal.returns-then-digits-gt-MOST_DIGITS
returns-then-digits-gt-MOST_DIGITS c = id_of-size c.args.digits.now (rw (lt-leb (length c.args.digits.now) 10 (grind arith), le-leb 1 (length c.args.digits.now) (grind arith)) refl)

pub returns-in_err-value_of : goal.returns-in_err-value_of
returns-in_err-value_of c =
    rw c.from_residual.ensures
    (sym (id_of-held c.args.digits.now (grind arith) (grind arith) ∙ ap held (sym c.in_err-value_of.ensures)))

pub returns : goal.returns
returns c =
    rw c.ok.ensures.value
    (held-from c.try_from.result c.in_ok-value_of.field-0 c.try_from.ensures ∙ ap held c.in_ok-value_of.ensures
    ∙ sym (id_of-held c.args.digits.now (grind arith) (grind arith)))
