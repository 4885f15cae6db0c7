use Rattle.std.proofs.Common.{◌≡◌, ◌+◌, ◌≤◌, ℕ, ◌||◌, not, List, length}
use Rattle.std.specs.List.{position_from}
use Rattle.group_map.specs.FirstBadLine.{first_bad}
use Rattle.group_map.specs.Form.{is_right, pairs_in}
use Rattle.group_map.specs.GroupMap.{has, stands_beside}
use Rattle.group_map.specs.Lines.{lines_of}
use Rattle.group_map.proofs.reading.read_lines.Given as goal

abbrev pub invariant-lines : goal.invariant-lines
invariant-lines l = record {
  comes : (number : ℕ) (name : List ℕ)
      → (has number name l.table || stands_beside number name (pairs_in l.form (lines_of l.rest)))
      ≡ stands_beside number name (pairs_in l.form (lines_of l.text));
  counts : position_from (λ line. not (is_right l.form line)) (l.number + 1) (lines_of l.rest)
      ≡ first_bad (is_right l.form) l.text;
  room : l.number + length l.rest ≤ length l.text;
}

abbrev pub decreases-lines : goal.decreases-lines
decreases-lines l = length l.rest
