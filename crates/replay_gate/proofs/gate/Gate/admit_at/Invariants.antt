use Rattle.replay_gate.proofs.gate.Gate.admit_at.Given as goal

abbrev pub ghosts-leave : goal.ghosts-leave
ghosts-leave g a = record { entry = a.entry }
