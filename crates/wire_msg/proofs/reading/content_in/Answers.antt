use Rattle.std.proofs.Common.{arith}
use Rattle.wire_msg.proofs.Fields.{laid_content}
use Rattle.wire_msg.proofs.reading.content_in.Goals as goal

pub returns-clause-fields : goal.returns-clause-fields
returns-clause-fields c =
    rw (c.bytes_at.ensures, c.number_at.ensures, c.number_at-2.ensures, c.number_at-3.ensures, c.number_at-4.ensures, c.number_at-5.ensures, c.number_at-6.ensures)
    (laid_content c.args.fields.now c.requires.size (λ i. omega (arith, c.type_inv.fields i)))
