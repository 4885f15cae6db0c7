use Rattle.std.proofs.Common.{◌≡◌, ◌++◌, drop, length, map}
use Rattle.toml.specs.View.{items_view}
use Rattle.option_file.specs.Rules.{first_of}
use Rattle.option_file.specs.Sockets.{line_of, socket_refusal}
use Rattle.option_file.specs.Values.{values_of}
use Rattle.option_file.proofs.sockets.lines.Given as goal

abbrev pub invariant-loop-value : goal.invariant-loop-value
invariant-loop-value l =
    (length l.lines.items ≡ l.value-index) ×
    (first_of (map socket_refusal (values_of (items_view l.array.items))) ≡ first_of (map socket_refusal (values_of (items_view (drop l.value-index l.array.items))))) ×
    (map line_of (values_of (items_view l.array.items)) ≡ l.lines.items ++ map line_of (values_of (items_view (drop l.value-index l.array.items))))
