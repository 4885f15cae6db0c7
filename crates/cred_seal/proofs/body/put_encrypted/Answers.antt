use Rattle.std.proofs.Common.{[], ◌++◌, arith}
use Rattle.aes_block.specs.DataKey.{key_of}
use Rattle.cbc_mode.specs.Padding.{padded}
use Rattle.cred_seal.proofs.Bodies.{put_in_three, put_size}
use Rattle.cred_seal.proofs.body.put_encrypted.Goals as goal

pub finish-requires : goal.finish-requires
finish-requires c =
    let key = key_of c.args.key.now in
    let iv = c.args.iv.now in
    let first = c.write.ensures.chains key iv [] c.new-out.ensures in
    omega (
      arith,
      c.parts_make_the_whole.ensures.waiting _ _ _ _ c.new-out.ensures,
      c.parts_make_the_whole.ensures.waiting _ _ _ _ first,
      c.write.ensures.lowered,
      c.write-2.ensures.lowered,
      c.requires,
    )

pub returns-clause-appended : goal.returns-clause-appended
returns-clause-appended c =
    let key = key_of c.args.key.now in
    let iv = c.args.iv.now in
    let head = c.args.head.now in
    let payload = c.args.payload.now in
    let none = c.new-out.ensures in
    let first = c.write.ensures.chains key iv [] none in
    let second = c.write-2.ensures.chains key iv head first in
    put_in_three _ _ _ _ _ _ _ _
    (c.parts_make_the_whole.ensures.none key iv)
    (c.write.ensures.appended key iv [] none) (c.parts_make_the_whole.ensures.more _ key iv [] head none)
    (c.write-2.ensures.appended key iv head first) (c.parts_make_the_whole.ensures.more _ key iv head payload first)
    (c.finish.ensures.appended key iv (head ++ payload) second) (c.parts_make_the_whole.ensures.end _ key iv (head ++ payload) second)

pub returns-clause-size : goal.returns-clause-size
returns-clause-size c =
    let key = key_of c.args.key.now in
    let iv = c.args.iv.now in
    let head = c.args.head.now in
    let payload = c.args.payload.now in
    let none = c.new-out.ensures in
    let first = c.write.ensures.chains key iv [] none in
    let second = c.write-2.ensures.chains key iv head first in
    let all = put_in_three _ _ _ _ _ _ _ _
    (c.parts_make_the_whole.ensures.none key iv)
    (c.write.ensures.appended key iv [] none) (c.parts_make_the_whole.ensures.more _ key iv [] head none)
    (c.write-2.ensures.appended key iv head first) (c.parts_make_the_whole.ensures.more _ key iv head payload first)
    (c.finish.ensures.appended key iv (head ++ payload) second) (c.parts_make_the_whole.ensures.end _ key iv (head ++ payload) second) in
    put_size _ _ _ head payload all (c.chaining_is_one_to_one.ensures.size key iv (padded (head ++ payload)) (c.padding_is_one_to_one.ensures.whole (head ++ payload)))
    (c.padding_is_one_to_one.ensures.size (head ++ payload))
