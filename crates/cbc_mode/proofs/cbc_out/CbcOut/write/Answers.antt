use Rattle.cbc_mode.proofs.Pieces.{chains_after, appended_after}
use Rattle.cbc_mode.proofs.cbc_out.CbcOut.write.Goals as goal

pub returns-clause-chains : goal.returns-clause-chains
returns-clause-chains g c =
    chains_after c.args.self.now c.advance.new.self c.args.part.now (g.P.Put.taken c.args.to.now) (g.P.Put.taken c.advance.new.to) c.advance.ensures.chains

pub returns-clause-appended : goal.returns-clause-appended
returns-clause-appended g c =
    appended_after c.args.self.now c.advance.new.self c.args.part.now (g.P.Put.taken c.args.to.now) (g.P.Put.taken c.advance.new.to) c.advance.ensures.appended
