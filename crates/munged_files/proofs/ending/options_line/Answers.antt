use Rattle.std.proofs.Common.{◌++◌, codes, sym, ap}
use Rattle.std.proofs.lemmas.List.{append_assoc}
use Rattle.std.specs.Fmt.{decimal}
use Rattle.munged_files.proofs.ending.options_line.Goals as goal

pub returns-in-Twice : goal.returns-in-Twice
returns-in-Twice c =
    rw (
      c.in-Twice.is,
      c.of-in-Twice.ensures.front,
      c.of-in-Twice.ensures.name,
      c.of-in-Twice.ensures.middle,
      c.from.ensures,
    )
    (ap (λ l. codes "munged: options: socket " ++ l)
    (sym (append_assoc (decimal _) (codes " has an earlier path") (codes "\n"))))
