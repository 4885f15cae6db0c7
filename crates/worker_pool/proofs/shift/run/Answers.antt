use Rattle.std.proofs.Common.{get_or, rules, sym, subst}
use Rattle.worker_pool.specs.Accepting.{HasAccepted, door_sight}
use Rattle.worker_pool.specs.Cases.{link_sight}
use Rattle.worker_pool.specs.Desks.{DeskSight, desk_sight}
use Rattle.worker_pool.specs.Holders.{IsNewLedger}
use Rattle.worker_pool.specs.Seats.{HasServedSeat, IsNewSeat}
use Rattle.worker_pool.specs.declared.desk.Desk.{Desk}
use Rattle.worker_pool.specs.declared.holders.Holder.{Holder}
use Rattle.worker_pool.specs.declared.post.Post.{Post}
use Rattle.worker_pool.specs.declared.post.Queued.{Queued}
use Rattle.worker_pool.proofs.Sending.{unseen_quiet}
use Rattle.worker_pool.proofs.shift.run.Goals as goal

pub purge_accept_and_serve-requires-clause-posts : goal.purge_accept_and_serve-requires-clause-posts
purge_accept_and_serve-requires-clause-posts g c κs within = record {
  each = λ i p short is. (
    subst (λ (h : Holder (Queued g.row.D-Conn.Denot) (Post g.row.D.Denot)). IsNewLedger c.args.shared.now.queue.now h) (sym is)
        (c.requires.posts i p.now short),
    (
      record { owned = c.type_bounds.send-D.owned; leaving = λ k. unseen_quiet _ },
      record { owned = c.type_bounds.send-R.owned; leaving = λ k. unseen_quiet _ },
      record { owned = c.type_bounds.send-D-Conn.owned; leaving = λ k. unseen_quiet _ },
      search rules,
    ),
  );
}

pub purge_accept_and_serve-requires-clause-desks : goal.purge_accept_and_serve-requires-clause-desks
purge_accept_and_serve-requires-clause-desks g c κs within =
    let sight : DeskSight g.row.D-Conn.Denot g.row.C.Denot g.row.B.Denot = desk_sight (link_sight g.D.Conn.Source.left g.D.Conn.Source.ends g.D.Conn.Sink.taken
    g.D.Conn.Link.rings g.D.Conn.Source.read_faults g.D.Conn.Sink.write_faults) g.C.Clock.readings g.C.Clock.last_reading g.C.Clock.given g.C.Clock.clock_faults
    g.B.Book.kept in record {
      each = λ i p short is. (
        subst (λ (h : Holder (Queued g.row.D-Conn.Denot) (Desk g.row.C.Denot g.row.B.Denot)). IsNewSeat sight c.args.shared.now.gate.now c.args.shared.now.queue.now h)
            (sym is) (c.requires.desks i p.now short),
        (
          record { owned = c.type_bounds.send-C.owned; leaving = λ k. unseen_quiet _ },
          record { owned = c.type_bounds.send-R.owned; leaving = λ k. unseen_quiet _ },
          record { owned = c.type_bounds.send-B.owned; leaving = λ k. unseen_quiet _ },
          record { owned = c.type_bounds.send-D-Conn.owned; leaving = λ k. unseen_quiet _ },
          search rules,
        ),
      );
    }

pub returns-clause-posts : goal.returns-clause-posts
returns-clause-posts g c k h short =
    let each = (c.purge_accept_and_serve.ensures.posts.each k h short).1 in
    subst (λ (y : Holder (Queued g.row.D-Conn.Denot) (Post g.row.D.Denot)).
    HasAccepted (door_sight g.D.Door.coming g.D.Door.door_faults g.D.Door.is_over) c.args.shared.now.queue.now (get_or c.args.posts.now k h) y) each.left
    (subst (λ (x : Holder (Queued g.row.D-Conn.Denot) (Post g.row.D.Denot)).
    HasAccepted (door_sight g.D.Door.coming g.D.Door.door_faults g.D.Door.is_over) c.args.shared.now.queue.now x each.after_call.now) each.argument_is
    each.call)

pub returns-clause-desks : goal.returns-clause-desks
returns-clause-desks g c k h short =
    let sight : DeskSight g.row.D-Conn.Denot g.row.C.Denot g.row.B.Denot = desk_sight (link_sight g.D.Conn.Source.left g.D.Conn.Source.ends g.D.Conn.Sink.taken
    g.D.Conn.Link.rings g.D.Conn.Source.read_faults g.D.Conn.Sink.write_faults) g.C.Clock.readings g.C.Clock.last_reading g.C.Clock.given g.C.Clock.clock_faults
    g.B.Book.kept in
    let each = (c.purge_accept_and_serve.ensures.desks.each k h short).1 in
    subst (λ (y : Holder (Queued g.row.D-Conn.Denot) (Desk g.row.C.Denot g.row.B.Denot)).
    HasServedSeat sight c.args.shared.now.world.now c.args.shared.now.queue.now (get_or c.args.desks.now k h) y) each.left
    (subst (λ (x : Holder (Queued g.row.D-Conn.Denot) (Desk g.row.C.Denot g.row.B.Denot)).
    HasServedSeat sight c.args.shared.now.world.now c.args.shared.now.queue.now x each.after_call.now) each.argument_is
    each.call)
