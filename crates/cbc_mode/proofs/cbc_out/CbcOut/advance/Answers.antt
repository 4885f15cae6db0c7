use Rattle.std.proofs.Common.{◌≡◌, ◌+◌, ◌%◌, ◌<◌, ◌++◌, length, arith}
use Rattle.cbc_mode.proofs.Parts.{chains_waiting}
use Rattle.cbc_mode.proofs.Pieces.{few_more, none_put, chains_both, appended_both, split_parts}
use Rattle.cbc_mode.proofs.cbc_out.CbcOut.advance.Goals as goal

pub returns-then-size-lt-BLOCK-clause-chains : goal.returns-then-size-lt-BLOCK-clause-chains
returns-then-size-lt-BLOCK-clause-chains g c =
    chains_waiting c.args.self.now c.keep.new.self (c.args.self.now.waiting ++ c.args.part.now) c.keep.ensures.key c.keep.ensures.before
    c.keep.ensures.waiting (few_more c.args.self.now.waiting c.args.part.now (omega arith))

pub returns-then-size-lt-BLOCK-clause-appended : goal.returns-then-size-lt-BLOCK-clause-appended
returns-then-size-lt-BLOCK-clause-appended g c =
    none_put c.args.self.now.key c.args.self.now.before (c.args.self.now.waiting ++ c.args.part.now) (g.P.Put.taken c.args.to.now)
    (few_more c.args.self.now.waiting c.args.part.now (omega arith))

pub returns-clause-chains : goal.returns-clause-chains
returns-clause-chains g c =
    let whole : (length c.args.self.now.waiting + length c.split_at.result.0.now) % 16 ≡ 0 = omega (arith, c.split_at.ensures.front_len) in
    let few : length c.split_at.result.1.now < 16 = omega (arith, c.split_at.ensures.back_len) in
    chains_both c.args.self.now c.write_blocks.new.self c.keep-2.new.self c.args.part.now c.split_at.result.0.now c.split_at.result.1.now
    (g.P.Put.taken c.args.to.now) (g.P.Put.taken c.write_blocks.new.to)
    (split_parts c.args.part.now c.split_at.result.0.now c.split_at.result.1.now _ c.split_at.ensures.front c.split_at.ensures.back)
    whole few c.write_blocks.ensures.chains c.keep-2.ensures.key c.keep-2.ensures.before c.keep-2.ensures.waiting

pub returns-clause-appended : goal.returns-clause-appended
returns-clause-appended g c =
    let whole : (length c.args.self.now.waiting + length c.split_at.result.0.now) % 16 ≡ 0 = omega (arith, c.split_at.ensures.front_len) in
    let few : length c.split_at.result.1.now < 16 = omega (arith, c.split_at.ensures.back_len) in
    appended_both c.args.self.now c.write_blocks.new.self c.keep-2.new.self c.args.part.now c.split_at.result.0.now c.split_at.result.1.now
    (g.P.Put.taken c.args.to.now) (g.P.Put.taken c.write_blocks.new.to)
    (split_parts c.args.part.now c.split_at.result.0.now c.split_at.result.1.now _ c.split_at.ensures.front c.split_at.ensures.back)
    whole few c.write_blocks.ensures.chains c.write_blocks.ensures.appended
