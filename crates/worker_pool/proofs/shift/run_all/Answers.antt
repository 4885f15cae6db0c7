use Rattle.std.proofs.Common.{◌≡◌, List, ◌++◌, drop, get_or, length, sym, subst, take, ap, ◌∙◌, arith}
use Rattle.worker_pool.specs.Cases.{link_sight}
use Rattle.worker_pool.specs.Desks.{DeskSight, desk_sight}
use Rattle.worker_pool.specs.Seats.{HasServedSeat}
use Rattle.worker_pool.specs.declared.desk.Desk.{Desk}
use Rattle.worker_pool.specs.declared.holders.Holder.{Holder}
use Rattle.worker_pool.specs.declared.post.Queued.{Queued}
use Rattle.worker_pool.proofs.Account.{take_front}
use Rattle.worker_pool.proofs.shift.run_all.Goals as goal

pub returns-clause-desks : goal.returns-clause-desks
returns-clause-desks g c k h short =
    let sight : DeskSight g.row.D-Conn.Denot g.row.C.Denot g.row.B.Denot = desk_sight (link_sight g.D.Conn.Source.left g.D.Conn.Source.ends g.D.Conn.Sink.taken
    g.D.Conn.Link.rings g.D.Conn.Source.read_faults g.D.Conn.Sink.write_faults) g.C.Clock.readings g.C.Clock.last_reading g.C.Clock.given g.C.Clock.clock_faults
    g.B.Book.kept in
    let old : List (Holder (Queued g.row.D-Conn.Denot) (Desk g.row.C.Denot g.row.B.Denot)) = c.args.desks.items in
    let new : List (Holder (Queued g.row.D-Conn.Denot) (Desk g.row.C.Denot g.row.B.Denot)) = c.run.new.desks in
    let value : c.deref_mut-2.result.now ≡ old = c.deref_mut-2.ensures.value in
    let same : length new ≡ length old = c.run.auto.desks ∙ ap length value in
    let all : c.args.desks.len ≡ length new = omega (arith, c.args.desks.ok.0) in
    let is : take c.args.desks.len (new ++ drop (length new) old) ≡ new =
    ap (λ n. take n (new ++ drop (length new) old)) all ∙ take_front new (drop (length new) old) in
    let lent : length c.deref_mut-2.result.now ≡ length old = ap length value in
    subst (λ (l : List (Holder (Queued g.row.D-Conn.Denot) (Desk g.row.C.Denot g.row.B.Denot))).
    HasServedSeat sight c.args.shared.now.world.now c.args.shared.now.queue.now (get_or old k h) (get_or l k h)) (sym is)
    (subst (λ (l : List (Holder (Queued g.row.D-Conn.Denot) (Desk g.row.C.Denot g.row.B.Denot))).
    HasServedSeat sight c.args.shared.now.world.now c.args.shared.now.queue.now (get_or l k h) (get_or new k h)) value
    (c.run.ensures.desks k h (omega arith)))
