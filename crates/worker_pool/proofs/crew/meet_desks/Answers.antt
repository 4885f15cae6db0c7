use Rattle.std.proofs.Common.{rules, ◌≡◌, ◌++◌, List, [], ◌∷◌, map, reverse, sym, ap, refl, subst, arith}
use Rattle.worker_pool.specs.Meeting.{latest}
use Rattle.worker_pool.specs.declared.desk.Desk.{Desk}
use Rattle.worker_pool.proofs.Handing.{moved_out}
use Rattle.worker_pool.proofs.Meetings.{counting_none, counting_on, desks_met, gathering_none, gathering_on, latest_on, next_gate}
use Rattle.worker_pool.proofs.crew.meet_desks.Goals as goal

pub loop-desk-init : goal.loop-desk-init
loop-desk-init g c =
    let desks : List (Desk g.row.C.Denot g.row.B.Denot) = c.args.desks.items in
    let none = c.requires.none in record {
      gathering = gathering_none c.args.gate.now c.args.home desks c.requires.home c.requires.desks;
      clocks = ap (λ l. l ++ map (λ (d : Desk g.row.C.Denot g.row.B.Denot). d.clock) (reverse desks)) none.0;
      books = ap (λ l. l ++ map (λ (d : Desk g.row.C.Denot g.row.B.Denot). d.book) (reverse desks)) none.1;
      room_clocks = c.requires.room.0;
      room_books = c.requires.room.1;
      counting = counting_none desks c.args.tally.now c.requires.uncounted;
      worn = refl;
    }

pub meet-all-requires-clause-gate : goal.meet-all-requires-clause-gate
meet-all-requires-clause-gate g c κs within =
    next_gate c.args.gate.now c.args.home c.args.desks.items c.loop-desk.desks.items c.pop.new.self.items c.in-Some.desk c.loop-desk.all
    c.in-Some.ensures.items c.loop-desk.invariant.gathering

pub loop-desk-preserved : goal.loop-desk-preserved
loop-desk-preserved g c =
    let C = g.row.C.Denot in
    let B = g.row.B.Denot in
    let i = c.loop-desk.invariant in
    let rest : List (Desk C B) = c.pop.new.self.items in
    let desk : Desk C B = c.in-Some.desk in
    let xs : List (Desk C B) = c.loop-desk.desks.items in
    let split : xs ≡ rest ++ desk ∷ [] = c.in-Some.ensures.items in
    let clocks : List C = c.loop-desk.clocks.items in
    let books : List B = c.loop-desk.books.items in record {
      gathering = gathering_on c.args.gate.now c.args.home c.args.desks.items xs rest desk c.loop-desk.all c.meet-all.result split c.meet-all.ensures i.gathering;
      clocks = subst (λ (l : List C). l ++ map (λ (d : Desk C B). d.clock) (reverse rest) ≡ map (λ (d : Desk C B). d.clock) (reverse c.args.desks.items))
          (sym c.push_reserved.ensures.items) (moved_out (λ (d : Desk C B). d.clock) clocks xs rest desk _ split i.clocks);
      books = subst (λ (l : List B). l ++ map (λ (d : Desk C B). d.book) (reverse rest) ≡ map (λ (d : Desk C B). d.book) (reverse c.args.desks.items))
          (sym c.push_reserved-in-Some.ensures.items) (moved_out (λ (d : Desk C B). d.book) books xs rest desk _ split i.books);
      room_clocks = (let r = i.room_clocks in let n = c.in-Some.ensures.cases in let a = c.push_reserved.ensures.len in let b = c.push_reserved.ensures.capacity in omega arith);
      room_books = (let r = i.room_books in let n = c.in-Some.ensures.cases in let a = c.push_reserved-in-Some.ensures.len in let b = c.push_reserved-in-Some.ensures.capacity in omega arith);
      counting = counting_on c.args.desks.items xs rest desk c.loop-desk.tally c.and.result split c.and.ensures i.counting;
      worn = subst (λ o. latest o (map (λ (d : Desk C B). d.worn) (reverse rest)) ≡ latest c.args.worn.now (map (λ (d : Desk C B). d.worn) (reverse c.args.desks.items)))
          (sym c.later.ensures) (latest_on (λ (d : Desk C B). d.worn) c.loop-desk.worn xs rest desk _ split i.worn);
    }

pub returns-clause-desks : goal.returns-clause-desks
returns-clause-desks g c =
    let none : c.loop-desk.desks.items ≡ [] = search rules in
    desks_met c.args.gate.now c.args.home c.args.desks.items c.loop-desk.desks.items c.loop-desk.all none c.loop-desk.invariant.gathering
