use Rattle.std.proofs.Common.{◌≡◌, false, []}
use Rattle.crossbeam_queue.specs.Passes.{view, IsPassOf}
use Rattle.worker_pool.specs.Giving.{Accepting}
use Rattle.worker_pool.proofs.acceptor.accept_all.Given as goal

abbrev pub invariant-loop : goal.invariant-loop
invariant-loop g l = record {
  number_is : l.holder.number ≡ l.fn.holder.number;
  who_is : l.holder.state.who ≡ l.fn.holder.state.who;
  of_queue : IsPassOf l.queue l.holder.pass;
  one_part : (view l.holder.pass).parts ≡ 1;
  none_taken : (view l.holder.pass).taken ≡ [];
  accepting : Accepting l.fn.holder.state.who l.fn.holder.number l.turn
      (g.D.Door.coming l.fn.holder.state.door) (g.D.Door.coming l.holder.state.door)
      (view l.holder.pass).put;
  faults_same : g.D.Door.door_faults l.holder.state.door
      ≡ g.D.Door.door_faults l.fn.holder.state.door;
  not_failed : l.holder.state.failed ≡ false;
}
