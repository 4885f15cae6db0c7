use Rattle.std.proofs.Common.{◌≡◌, ◌<◌, ◌^◌, true, take}
use Rattle.std.specs.Char.{is_ascii_digit}
use Rattle.std.specs.List.{list_all}
use Rattle.group_map.specs.Numbers.{value_of}
use Rattle.group_map.proofs.number.value_of.Given as goal

abbrev pub invariant-digits : goal.invariant-digits
invariant-digits l = record {
  so_far : l.value ≡ value_of (take l.digit-index l.digits);
  digits : list_all is_ascii_digit (take l.digit-index l.digits) ≡ true;
  small : l.value < 10 ^ l.digit-index;
}
