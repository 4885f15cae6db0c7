-- When two pairs are one, and their order.
use Rattle.std.specs.Prelude.{Bool, ◌&&◌, nat_eq}
use Rattle.std.specs.declared.cmp.Ordering.{Ordering}
use Rattle.std.specs.Ordering.{nat_cmp, ordering_then}
use Rattle.std.specs.Cmp.Lexicographic.{pointwise, slice_cmp}
use Rattle.munge_types.specs.declared.pair.Pair.{Pair}

-- the same expiry and, byte by byte, the same MAC
abbrev pub pair_eq : Pair → Pair → Bool
pair_eq a b = nat_eq a.expiry b.expiry && pointwise nat_eq a.mac b.mac

-- by expiry, and where it is the same by MAC, as texts are ordered
abbrev pub pair_cmp : Pair → Pair → Ordering
pair_cmp a b = ordering_then (nat_cmp a.expiry b.expiry) (slice_cmp nat_cmp a.mac b.mac)
