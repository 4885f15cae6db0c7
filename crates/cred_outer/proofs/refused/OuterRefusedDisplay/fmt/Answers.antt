use Rattle.cred_outer.proofs.refused.OuterRefusedDisplay.fmt.Goals as goal

pub returns-clause-writes : goal.returns-clause-writes
returns-clause-writes g c = rw (c.number-rule.ensures.number, c.number-status.ensures.number) at c.write.ensures.writes
