use Rattle.std.proofs.Common.{◌≡◌, ap, sym, ◌∙◌, Some, true, false, string_bytes}
use Rattle.option_file.specs.KnownKeys.{is_known}
use Rattle.option_file.specs.declared.refused.OptionRefused.TheVariants.{Unknown}
use Rattle.option_file.proofs.Unknown.{refusal-met, first_unknown-step, sorted-step}
use Rattle.option_file.proofs.known_keys.Place.refuse_unknown.Goals as goal

pub returns-in-Ok : goal.returns-in-Ok
returns-in-Ok c =
    λ _.
    let unknown : is_known c.args.self (string_bytes c.in-Some.name.now) ≡ false = rw c.as_str.ensures.value at (sym c.knows.ensures ∙ c.if-not-knows.true) in
    refusal-met c.args.self c.loop-name.name-iterator c.args.table.now.entries c.next.new.self (c.in-Some.name.now, c.in-Some.field-0-1.now) c.in-Some.ensures.steps c.loop-name.invariant.2 c.loop-name.invariant.3 unknown
    ∙ ap (λ name. Some (Unknown name)) (sym (c.in-Ok.ensures ∙ c.as_str-then-not-knows.ensures.value))

pub loop-name-preserved : goal.loop-name-preserved
loop-name-preserved c =
    let is : is_known c.args.self (string_bytes c.in-Some.name.now) ≡ true = rw c.as_str.ensures.value at (sym c.knows.ensures ∙ c.if-not-knows.false) in (
      tt,
      tt,
      first_unknown-step c.args.self c.loop-name.name-iterator c.args.table.now.entries c.next.new.self (c.in-Some.name.now, c.in-Some.field-0-1.now) c.in-Some.ensures.steps c.loop-name.invariant.2 is,
      sorted-step c.loop-name.name-iterator c.next.new.self (c.in-Some.name.now, c.in-Some.field-0-1.now) c.in-Some.ensures.steps c.loop-name.invariant.3,
    )
