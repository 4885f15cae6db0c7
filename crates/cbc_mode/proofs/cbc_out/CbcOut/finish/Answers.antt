use Rattle.cbc_mode.proofs.Parts.{appended_end}
use Rattle.cbc_mode.proofs.cbc_out.CbcOut.finish.Goals as goal

pub returns-clause-appended : goal.returns-clause-appended
returns-clause-appended g c =
    appended_end c.args.self (g.P.Put.taken c.args.to.now) (g.P.Put.taken c.put.new.self) c.last_block.result c.put.ensures.appended c.last_block.ensures
