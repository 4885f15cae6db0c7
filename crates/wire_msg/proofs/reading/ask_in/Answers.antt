use Rattle.std.proofs.Common.{arith}
use Rattle.wire_msg.proofs.Fields.{laid_ask}
use Rattle.wire_msg.proofs.reading.ask_in.Goals as goal

pub returns-clause-fields : goal.returns-clause-fields
returns-clause-fields c =
    rw (c.number_at.ensures, c.number_at-2.ensures, c.number_at-3.ensures)
    (laid_ask c.args.fields.now c.requires.size (λ i. omega (arith, c.type_inv.fields i)))
