-- What is handed to a thread by a closure that leaves nothing of its type to be seen.
use mathlib.Core.Bool.{Bool}
use denote.Exit.{if_kept, unseen}
use denote.Param.Send.{Quiet, Quiet-if}

pub unseen_quiet : {D : Type 0} (b : Bool) → Quiet (if_kept b (unseen {D = D}) unseen)
unseen_quiet b = Quiet-if b unseen unseen (λ x w. tt) (λ x w. tt)
