use Rattle.std.proofs.Common.{List, sym, ap, refl, subst, ◌∙◌}
use Rattle.crossbeam_queue.specs.Passes.{view}
use Rattle.byte_io.specs.Doors.{Accepts}
use Rattle.byte_io.specs.declared.door.Next.TheVariants.{Conn}
use Rattle.worker_pool.specs.declared.post.Queued.{Queued}
use Rattle.worker_pool.specs.declared.queue.Ledger.{Ledger}
use Rattle.worker_pool.specs.Giving.{queued, Accepting}
use Rattle.worker_pool.proofs.Accepts.{accepting_none, accepting_put, put_more}
use Rattle.worker_pool.proofs.acceptor.accept_all.Goals as goal

pub loop-init : goal.loop-init
loop-init g c =
    let T = Queued g.row.D-Conn.Denot in
    let new = c.requires.is_new in
    let held = c.args.holder.now in
    let coming = g.D.Door.coming held.state.door in record {
      number_is = refl;
      who_is = refl;
      of_queue = c.requires.of_queue;
      one_part = ap (λ (v : Ledger T). v.parts) new;
      none_taken = ap (λ (v : Ledger T). v.taken) new;
      accepting = subst (λ (l : List T). Accepting held.state.who held.number 0 coming coming l)
          (sym (ap (λ (v : Ledger T). v.put) new))
          (accepting_none held.state.who held.number coming);
      faults_same = refl;
      not_failed = refl;
    }

pub loop-preserved : goal.loop-preserved
loop-preserved g c =
    let i = c.loop.invariant in
    let held = c.args.holder.now in
    let old = c.loop.holder in
    let first = g.D.Door.coming held.state.door in
    let now = g.D.Door.coming old.state.door in
    let new = g.D.Door.coming c.accept.new.self in
    let told : Accepts now new (Conn c.in-Conn.conn) = c.in-Conn.ensures.told in
    let put = put_more (view old.pass) (view c.put.new.pass)
    (queued old.state.who old.number c.loop.turn c.in-Conn.conn) c.put.ensures.put
    i.one_part i.none_taken in record {
      number_is = i.number_is;
      who_is = i.who_is;
      of_queue = c.put.ensures.pass.of_queue;
      one_part = put.0;
      none_taken = put.1;
      accepting = accepting_put held.state.who held.number c.loop.turn
          c.saturating_add-turn.result first now new (view old.pass).put c.in-Conn.conn
          c.saturating_add-turn.ensures c.accept.ensures.few told i.accepting
          old.state.who old.number (view c.put.new.pass).put i.who_is i.number_is put.2;
      faults_same = c.in-Conn.ensures.counted ∙ i.faults_same;
      not_failed = i.not_failed;
    }
