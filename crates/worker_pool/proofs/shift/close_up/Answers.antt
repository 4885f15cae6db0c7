use Rattle.std.proofs.Common.{◌≡◌, List, map, reverse, sym, ◌∙◌, subst, arith, Some}
use Rattle.std.specs.List.{All}
use Rattle.std.specs.Prelude.{flat_map}
use Rattle.std.proofs.lemmas.List.{length-reverse}
use Rattle.std.proofs.lemmas.List.Elements.{All-map, All-pop}
use Rattle.crossbeam_queue.specs.Passes.{view}
use Rattle.worker_pool.specs.Cases.{link_sight}
use Rattle.worker_pool.specs.Closing.{ClosedUp, HasEnded, HasEndedSeat}
use Rattle.worker_pool.specs.Desks.{DeskSight, desk_sight}
use Rattle.worker_pool.specs.Holders.{put_by}
use Rattle.worker_pool.specs.Single.{IsSingle}
use Rattle.worker_pool.specs.declared.desk.Desk.{Desk}
use Rattle.worker_pool.specs.declared.holders.Holder.{Holder}
use Rattle.worker_pool.specs.declared.post.Post.{Post}
use Rattle.worker_pool.specs.declared.post.Queued.{Queued}
use Rattle.worker_pool.proofs.Closings.{all_parts, all_put, all_taken, closed_up}
use Rattle.worker_pool.proofs.Gathers.{All-reverse}
use Rattle.worker_pool.proofs.shift.close_up.Goals as goal

pub drain-requires-clause-whole : goal.drain-requires-clause-whole
drain-requires-clause-whole g c κs within =
    let posts : List (Holder (Queued g.row.D-Conn.Denot) (Post g.row.D.Denot)) = c.args.posts.items in
    let desks : List (Holder (Queued g.row.D-Conn.Denot) (Desk g.row.C.Denot g.row.B.Denot)) = c.args.desks.items in
    let ended = All-reverse (HasEnded c.args.shared.now.queue.now) posts c.requires.posts in
    let seats = All-reverse (HasEndedSeat c.args.shared.now.gate.now c.args.shared.now.queue.now) desks c.requires.desks in
    let all = all_parts (view c.args.home) (view c.gather.new.home) (view c.gather-2.new.home) (reverse posts) (reverse desks)
    c.gather.ensures.home.view_is c.gather-2.ensures.home.view_is (λ k d w. (ended k d w).one_part) (λ k d w. (seats k d w).one_part) in
    let a = length-reverse posts in
    let b = length-reverse desks in
    let p = c.requires.parts in omega arith

pub drain-requires-clause-single : goal.drain-requires-clause-single
drain-requires-clause-single g c κs within =
    let desks : List (Holder (Queued g.row.D-Conn.Denot) (Desk g.row.C.Denot g.row.B.Denot)) = c.args.desks.items in
    let gate = c.args.shared.now.gate.now in
    let seats = All-reverse (HasEndedSeat gate c.args.shared.now.queue.now) desks c.requires.desks in
    let P : Desk g.row.C.Denot g.row.B.Denot → Type 0 = λ d. IsSingle gate d.pass in
    let states : c.gather-2.new.states.items ≡ map (λ h. h.state) (reverse desks) = c.gather-2.ensures.states in
    let all : All P (map (λ h. h.state) (reverse desks)) =
    All-map P (λ (h : Holder (Queued g.row.D-Conn.Denot) (Desk g.row.C.Denot g.row.B.Denot)). h.state) (reverse desks) (λ k d w. (seats k d w).single) in
    (All-pop P c.gather-2.new.states.items c.pop.new.self.items (Some c.in-Some.last) c.in-Some.ensures.items (subst (All P) (sym states) all)).1

pub returns-clause-closed : goal.returns-clause-closed
returns-clause-closed g c old same began each =
    let sight : DeskSight g.row.D-Conn.Denot g.row.C.Denot g.row.B.Denot = desk_sight (link_sight g.D.Conn.Source.left g.D.Conn.Source.ends g.D.Conn.Sink.taken
    g.D.Conn.Link.rings g.D.Conn.Source.read_faults g.D.Conn.Sink.write_faults) g.C.Clock.readings g.C.Clock.last_reading g.C.Clock.given g.C.Clock.clock_faults
    g.B.Book.kept in
    let posts : List (Holder (Queued g.row.D-Conn.Denot) (Post g.row.D.Denot)) = c.args.posts.items in
    let desks : List (Holder (Queued g.row.D-Conn.Denot) (Desk g.row.C.Denot g.row.B.Denot)) = c.args.desks.items in
    let gate = c.args.shared.now.gate.now in
    let world = c.args.shared.now.world.now in
    let queue = c.args.shared.now.queue.now in
    let rest : List (Desk g.row.C.Denot g.row.B.Denot) = c.pop.new.self.items in
    let ended = All-reverse (HasEnded queue) posts c.requires.posts in
    let seats = All-reverse (HasEndedSeat gate queue) desks c.requires.desks in
    let v0 = view c.args.home in
    let v1 = view c.gather.new.home in
    let v2 = view c.gather-2.new.home in
    let put = all_put v0 v1 v2 (reverse posts) (reverse desks) c.gather.ensures.home.view_is c.gather-2.ensures.home.view_is c.requires.nothing.0
    (λ k d w. (seats k d w).none_put) in
    let taken = all_taken v0 v1 v2 (reverse posts) (reverse desks) c.gather.ensures.home.view_is c.gather-2.ensures.home.view_is c.requires.nothing.1
    (λ k d w. (ended k d w).none_taken) in
    let puts : List (Queued g.row.D-Conn.Denot) = flat_map put_by (reverse posts) in
    let firsts : List (Desk g.row.C.Denot g.row.B.Denot) = map (λ h. h.state) (reverse old) in
    subst (λ (l : List (Desk g.row.C.Denot g.row.B.Denot)). ClosedUp sight world puts firsts l c.drain.new.left.items) (sym c.push_reserved.ensures.items)
    (closed_up sight world gate queue puts old desks rest c.in-Some.last c.drain.new.desk c.drain.new.left.items v2 same began each
    (sym c.gather-2.ensures.states ∙ c.in-Some.ensures.items) put taken c.drain.ensures.drained)
