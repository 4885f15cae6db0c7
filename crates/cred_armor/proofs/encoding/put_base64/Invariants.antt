use Rattle.std.proofs.Common.{◌≡◌, ◌+◌, ◌*◌, ◌++◌, take}
use Rattle.base64.specs.Engines.{standard}
use Rattle.base64.specs.GeneralPurpose.{encode_of}
use Rattle.cred_armor.proofs.encoding.put_base64.Given as goal

abbrev pub invariant-loop-number : goal.invariant-loop-number
invariant-loop-number l = record {
  appended : l.out.bytes ≡ l.initial.out.bytes ++ encode_of standard (take (768 * l.number) l.body);
  lowered : l.out.spare + 1024 * l.number ≡ l.initial.out.spare;
}
