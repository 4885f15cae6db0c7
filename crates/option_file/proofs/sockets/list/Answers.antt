use Rattle.std.proofs.Common.{◌≡◌, length, pos, true, false, Some, ap, sym, ◌∙◌, arith}
use Rattle.std.proofs.Math.Facts.{to_z_pos}
use Rattle.std.specs.Int.{w64}
use Rattle.option_file.specs.Rules.{is_list_size}
use Rattle.option_file.specs.declared.refused.OptionRefused.TheVariants.{Range}
use Rattle.option_file.specs.declared.key.Key.TheVariants as key
use Rattle.option_file.proofs.Lists.{found-list, list-taken, list-refused}
use Rattle.option_file.proofs.sockets.list.Goals as goal

pub returns-then-is_list_size-clause-exact : goal.returns-then-is_list_size-clause-exact
returns-then-is_list_size-clause-exact c =
    let held = c.in-Some-as_array.array in
    let size : c.len-size.result ≡ length held.now.items = omega (arith, c.len-size.ensures, held.now.ok.0) in
    let fits : is_list_size (length held.now.items) ≡ true = rw size at (sym c.is_list_size.ensures ∙ c.if-is_list_size.true) in
    list-taken _ held.now.items (found-list c.args.found c.in-Some.value c.as_array.result held c.in-Some.is c.as_array.ensures c.in-Some-as_array.is) fits

pub returns-else-is_list_size-clause-exact : goal.returns-else-is_list_size-clause-exact
returns-else-is_list_size-clause-exact c =
    λ _.
    let held = c.in-Some-as_array.array in
    let size : c.len-size.result ≡ length held.now.items = omega (arith, c.len-size.ensures, held.now.ok.0) in
    let fits : is_list_size (length held.now.items) ≡ false = rw size at (sym c.is_list_size.ensures ∙ c.if-is_list_size.false) in
    list-refused _ held.now.items (found-list c.args.found c.in-Some.value c.as_array.result held c.in-Some.is c.as_array.ensures c.in-Some-as_array.is) fits
    ∙ ap (λ z. Some (Range key.Socket z)) (ap pos (sym size) ∙ sym (to_z_pos w64 (omega (arith, c.len-size.ensures, held.now.ok.0, held.now.small))))
