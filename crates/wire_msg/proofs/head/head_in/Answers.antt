use Rattle.std.proofs.Common.{◌≡◌, ◌∷◌, []}
use Rattle.std.proofs.lemmas.List.{nil_from_length}
use Rattle.wire_msg.proofs.SeenHead.{sees_none, sees_magic, sees_version}
use Rattle.wire_msg.proofs.head.head_in.Goals as goal

pub returns-in_default : goal.returns-in_default
returns-in_default c = sees_none c.args.side c.args.bytes.now (nil_from_length c.args.bytes.now c.in_default.ensures.cases)

pub returns-in_default-split_first : goal.returns-in_default-split_first
returns-in_default-split_first c =
    let none = nil_from_length c.in-Some.bytes.now c.in_default-split_first.ensures.cases in
    let magic = c.if-magic-ne-MAGIC.false in
    let first = c.in-Some.ensures.cases.0 in
    let bytes : c.args.bytes.now ≡ 0x4d ∷ [] = cc in
    sees_magic c.args.side c.args.bytes.now bytes

pub returns-in_default-split_first-2 : goal.returns-in_default-split_first-2
returns-in_default-split_first-2 c =
    let none = nil_from_length c.in-Some-split_first.bytes.now c.in_default-split_first-2.ensures.cases in
    let magic = c.if-magic-ne-MAGIC.false in
    let version = c.if-version-ne-VERSION.false in
    let first = c.in-Some.ensures.cases.0 in
    let second = c.in-Some-split_first.ensures.cases.0 in
    let bytes : c.args.bytes.now ≡ 0x4d ∷ 1 ∷ [] = cc in
    sees_version c.args.side c.args.bytes.now bytes
