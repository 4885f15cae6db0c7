use Rattle.std.proofs.Common.{◌≡◌, ℕ, ◌-◌, ◌<◌, List, length, drop, get_or, refl, sym, ap, ◌∙◌, subst, arith}
use Rattle.std.proofs.lemmas.List.{take_rest}
use Rattle.std.proofs.lemmas.Bool.{false≢true}
use Rattle.cbc_mode.specs.Padding.{pad_size}
use Rattle.cbc_mode.proofs.Pads.{filled, within, sized, each_is, front_padded}
use Rattle.cbc_mode.proofs.padding.unpad.Goals as goal
use Rattle.cbc_mode.proofs.padding.unpad.Goals.{else-size-pad_size-via-then-size-pad_size+else-all_are, else-size-pad_size-via-else-size-pad_size}

-- each of the bytes is this one
abbrev AllAre : ℕ → List ℕ → Type 0
AllAre value bytes = (k : ℕ) → k < length bytes → get_or bytes k 0 ≡ value

pub returns-in_err-size-clause-none : goal.returns-in_err-size-clause-none
returns-in_err-size-clause-none c =
    rw c.from_residual.ensures (λ bytes same. filled bytes c.args.buf.now same (omega (arith, c.in_err-size.ensures.item.3)))

pub returns-in_err-front-clause-none : goal.returns-in_err-front-clause-none
returns-in_err-front-clause-none c =
    rw c.from_residual-in_err-front.ensures
    (λ bytes same.
    let inside = within bytes c.args.buf.now same c.in_ok-size.field-0.now (c.in_ok-size.ensures.item.3.1 0) in
    c.in_err-front.ensures (omega (arith, inside, c.from.ensures)))

pub returns-then-all_are-clause-front : goal.returns-then-all_are-clause-front
returns-then-all_are-clause-front c =
    let size : ℕ = c.in_ok-size.field-0.now in
    let front_is : c.in_ok-front.front ≡ length c.args.buf.now - size = omega (arith, c.in_ok-front.ensures.1, c.from.ensures) in
    let all : AllAre size (drop c.in_ok-front.front c.args.buf.now) =
    subst (AllAre size) (take_rest c.args.buf.now c.in_ok-front.front) (c.if-all_are.ensures.0 refl) in
    record {
      within = omega (arith, front_is);
      padded_front =
          front_padded c.args.buf.now c.in_ok-front.front size (omega (arith, front_is)) (omega (arith, c.in_ok-front.ensures.0, c.from.ensures))
          front_is (c.if-size-pad_size.true ∙ c.pad_size.ensures) all;
    }

pub returns-else-size-pad_size-clause-none : goal.returns-else-size-pad_size-clause-none
returns-else-size-pad_size-clause-none c =
    let size : ℕ = c.in_ok-size.field-0.now in
    let last = c.in_ok-size.ensures.item.3.1 0 in
    let front_is : c.in_ok-front.front ≡ length c.args.buf.now - size = omega (arith, c.in_ok-front.ensures.1, c.from.ensures) in
    λ bytes same.
    elim c.else-size-pad_size.branch [
      | else-size-pad_size-via-then-size-pad_size+else-all_are w ↦
          let all : AllAre size (drop c.in_ok-front.front c.args.buf.now) =
          subst (λ (n : ℕ). AllAre size (drop n c.args.buf.now)) (sym front_is) (each_is bytes c.args.buf.now same size last) in
          let wrong = w.if-all_are.ensures.1 (subst (AllAre size) (sym (take_rest c.args.buf.now c.in_ok-front.front)) all) in
          false≢true wrong
      | else-size-pad_size-via-else-size-pad_size w ↦
          w.if-size-pad_size.false (sized bytes c.args.buf.now same size last ∙ ap pad_size (sym front_is) ∙ sym c.pad_size.ensures)
    ]
