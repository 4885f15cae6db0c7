use Rattle.replay_gate.proofs.gate.Gate.split.Given as goal

abbrev pub ghosts-cut : goal.ghosts-cut
ghosts-cut g a = record { count = a.count }
