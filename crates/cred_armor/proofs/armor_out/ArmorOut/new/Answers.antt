use Rattle.std.proofs.Common.{ℕ, ap, ◌∙◌, arith}
use Rattle.std.proofs.lemmas.List.{append-nil}
use Rattle.cred_armor.specs.Armoring.{spelled_from}
use Rattle.cred_armor.proofs.Begun.{begun_first, none_spelled}
use Rattle.cred_armor.proofs.armor_out.ArmorOut.new.Goals as goal

pub invariant_of-result : goal.invariant_of-result
invariant_of-result c =
    begun_first c.args.out.bytes c.put.new.self.bytes (rw c.as_bytes.ensures.value at c.put.ensures.appended) c.filled-start.result c.args.n
    c.put.new.self.spare c.filled-start.ensures (omega (arith, c.requires.room, c.as_bytes.ensures.len, c.put.ensures.lowered))

pub returns-clause-taken : goal.returns-clause-taken
returns-clause-taken c =
    append-nil (spelled_from c.filled-start.result c.put.new.self.bytes)
    ∙ ap (λ (n : ℕ). spelled_from n c.put.new.self.bytes) c.filled-start.ensures
    ∙ none_spelled c.args.out.bytes c.put.new.self.bytes (rw c.as_bytes.ensures.value at c.put.ensures.appended)
