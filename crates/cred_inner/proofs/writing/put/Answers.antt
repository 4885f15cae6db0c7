use Rattle.std.proofs.Common.{arith, ◌+◌, ◌-◌, length}
use Rattle.std.proofs.lemmas.Slice.{drop-put_mid}
use Rattle.cred_inner.proofs.writing.put.Goals as goal

pub returns-clause-behind : goal.returns-clause-behind
returns-clause-behind c =
    drop-put_mid c.args.at (c.args.at + length c.args.bytes.now - c.args.at) c.args.head.now c.copy_from_slice.new.self (c.args.at + length c.args.bytes.now) (omega arith) (omega arith) (omega arith)

pub returns-clause-bytes : goal.returns-clause-bytes
returns-clause-bytes c = λ i. omega (arith, c.type_inv.bytes i)
