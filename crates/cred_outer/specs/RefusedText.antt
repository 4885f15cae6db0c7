-- What is printed of a broken rule.
use Rattle.std.specs.Prelude.{ℕ, List, ◌++◌, codes}
use Rattle.std.specs.Fmt.{decimal}
use Rattle.munge_types.specs.Status.{status_number}
use Rattle.cred_outer.specs.declared.refused.OuterRefused.{OuterRefused}

-- by the numbers of the rule and of its status
abbrev pub broken_text : OuterRefused → List ℕ
broken_text broken =
    codes "decode rule " ++ (decimal broken.rule
    ++ (codes " does not hold: status " ++ decimal (status_number broken.status)))
