use Rattle.std.proofs.Common.{◌≡◌, List, map, reverse, sym, subst, arith, flat_map}
use Rattle.worker_pool.specs.Cases.{link_sight}
use Rattle.worker_pool.specs.Closing.{ClosedUp}
use Rattle.worker_pool.specs.Desks.{DeskSight, desk_sight}
use Rattle.worker_pool.specs.Holders.{put_by}
use Rattle.worker_pool.specs.declared.desk.Desk.{Desk}
use Rattle.worker_pool.specs.declared.holders.Holder.{Holder}
use Rattle.worker_pool.specs.declared.post.Post.{Post}
use Rattle.worker_pool.specs.declared.post.Queued.{Queued}
use Rattle.worker_pool.proofs.Closings.{flat_of_map, new_seats, seats_ended}
use Rattle.worker_pool.proofs.Posts.{posts_ran}
use Rattle.worker_pool.proofs.shift.work.Goals as goal

pub run_all-posts-requires-clause-desks : goal.run_all-posts-requires-clause-desks
run_all-posts-requires-clause-desks g c κs within =
    new_seats _ c.args.shared.now.gate.now c.args.shared.now.queue.now c.in_ok-desks.desks.items c.args.desks.items c.in_ok-desks.ensures.each
    c.in_ok-desks.ensures.states c.requires.desks

pub close_up-requires-clause-posts : goal.close_up-requires-clause-posts
close_up-requires-clause-posts g c κs within k d short =
    let same = c.run_all-posts.ensures.as_many_posts in
    let did = c.run_all-posts.ensures.posts k d (omega arith) in
    record { of_queue = did.of_queue; one_part = did.one_part; none_taken = did.none_taken }

pub close_up-requires-clause-desks : goal.close_up-requires-clause-desks
close_up-requires-clause-desks g c κs within =
    let gate = c.args.shared.now.gate.now in
    let queue = c.args.shared.now.queue.now in
    let old : List (Holder (Queued g.row.D-Conn.Denot) (Desk g.row.C.Denot g.row.B.Denot)) = c.in_ok-desks.desks.items in
    let began = new_seats _ gate queue old c.args.desks.items c.in_ok-desks.ensures.each c.in_ok-desks.ensures.states c.requires.desks in
    seats_ended _ c.args.shared.now.world.now gate queue old c.run_all-posts.result.1.items c.run_all-posts.ensures.as_many_desks began
    c.run_all-posts.ensures.desks

pub returns-clause-worked : goal.returns-clause-worked
returns-clause-worked g c =
    let sight : DeskSight g.row.D-Conn.Denot g.row.C.Denot g.row.B.Denot = desk_sight (link_sight g.D.Conn.Source.left g.D.Conn.Source.ends g.D.Conn.Sink.taken
    g.D.Conn.Link.rings g.D.Conn.Source.read_faults g.D.Conn.Sink.write_faults) g.C.Clock.readings g.C.Clock.last_reading g.C.Clock.given g.C.Clock.clock_faults
    g.B.Book.kept in
    let gate = c.args.shared.now.gate.now in
    let queue = c.args.shared.now.queue.now in
    let world = c.args.shared.now.world.now in
    let old : List (Holder (Queued g.row.D-Conn.Denot) (Post g.row.D.Denot)) = c.in_ok-posts.posts.items in
    let new : List (Holder (Queued g.row.D-Conn.Denot) (Post g.row.D.Denot)) = c.run_all-posts.result.0.items in
    let seats : List (Holder (Queued g.row.D-Conn.Denot) (Desk g.row.C.Denot g.row.B.Denot)) = c.in_ok-desks.desks.items in
    let puts : List (List (Queued g.row.D-Conn.Denot)) = map put_by (reverse new) in
    let flat : flat_map put_by (reverse new) ≡ flat_map (λ l. l) puts = sym (flat_of_map (λ (l : List (Queued g.row.D-Conn.Denot)). l) put_by (reverse new)) in
    let began = new_seats _ gate queue seats c.args.desks.items c.in_ok-desks.ensures.each c.in_ok-desks.ensures.states c.requires.desks in
    let closed = c.close_up.ensures.closed seats c.run_all-posts.ensures.as_many_desks began c.run_all-posts.ensures.desks in
    record {
      puts = puts;
      posts_ran = posts_ran _ queue c.args.posts.items c.close_up.new.ended_posts.items old new c.in_ok-posts.ensures.states c.in_ok-posts.ensures.numbers
          c.close_up.ensures.posts c.run_all-posts.ensures.as_many_posts c.run_all-posts.ensures.posts;
      closed = subst (λ (l : List (Queued g.row.D-Conn.Denot)). ClosedUp sight world l c.args.desks.items c.close_up.new.ended_desks.items c.close_up.new.left.items) flat
          (subst (λ (l : List (Desk g.row.C.Denot g.row.B.Denot)). ClosedUp sight world (flat_map put_by (reverse new)) l c.close_up.new.ended_desks.items c.close_up.new.left.items)
          c.in_ok-desks.ensures.states closed);
    }
