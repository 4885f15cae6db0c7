use Rattle.std.proofs.Common.{◌≡◌}
use Rattle.std.specs.List.Sorted.{IsStrictlySortedBy}
use Rattle.std.specs.Map.{keys_of}
use Rattle.std.specs.String.{string_cmp}
use Rattle.toml.specs.View.{table_view, members_view}
use Rattle.option_file.specs.KnownKeys.{first_unknown}
use Rattle.option_file.proofs.known_keys.Place.refuse_unknown.Given as goal

abbrev pub invariant-loop-name : goal.invariant-loop-name
invariant-loop-name l =
    (goal.iterator-loop-name).can_next l.name-iterator ×
    (goal.iterator-loop-name).is_finite l.name-iterator ×
    (first_unknown l.self (members_view l.name-iterator) ≡ first_unknown l.self (table_view l.table)) ×
    IsStrictlySortedBy string_cmp (keys_of l.name-iterator)
