use Rattle.std.proofs.Common.{rules, ◌≡◌, ◌++◌, List, [], map, reverse, Some, None, sym, ap, refl, subst, arith}
use Rattle.std.specs.List.{All}
use Rattle.std.proofs.lemmas.List.Elements.{All-pop, All-push}
use Rattle.cred_seal.specs.Dice.{DiceState}
use Rattle.worker_pool.specs.Books.{Holds}
use Rattle.worker_pool.specs.Cases.{link_sight}
use Rattle.worker_pool.specs.Desks.{DeskSight, IsNewDesk, desk_sight}
use Rattle.worker_pool.specs.declared.desk.Desk.{Desk}
use Rattle.worker_pool.proofs.Desks.{none_counted}
use Rattle.worker_pool.proofs.Handing.{moved_back}
use Rattle.worker_pool.proofs.crew.new_desks.Goals as goal

pub loop-seed-smaller : goal.loop-seed-smaller
loop-seed-smaller g c = (let n = c.in-Some.ensures.cases in omega arith)

pub loop-seed-preserved : goal.loop-seed-preserved
loop-seed-preserved g c =
    let L = g.row.L.Denot in
    let C = g.row.C.Denot in
    let B = g.row.B.Denot in
    let sight : DeskSight L C B = desk_sight (link_sight g.L.Source.left g.L.Source.ends g.L.Sink.taken g.L.Link.rings g.L.Source.read_faults g.L.Sink.write_faults)
    g.C.Clock.readings g.C.Clock.last_reading g.C.Clock.given g.C.Clock.clock_faults g.B.Book.kept in
    let gate = c.args.gate.now in
    let i = c.loop-seed.invariant in
    let desks : List (Desk C B) = c.loop-seed.desks.items in
    let new : Desk C B = record {
      pass = c.in_ok-pass.pass;
      clock = c.in-Some-pop.clock;
      dice = c.new.result;
      book = c.in-Some-pop-2.book;
      tally = c.none.result;
      worn = None;
    } in
    let books = All-pop (λ (b : B). Holds (g.B.Book.kept b) []) c.loop-seed.books.items c.pop-in-Some-2.new.self.items (Some c.in-Some-pop-2.book)
    c.in-Some-pop-2.ensures.items i.empty in
    let is : IsNewDesk sight gate new = record {
      single = record { of_gate = search rules; alone = search rules; share = search rules };
      seen = search rules;
      none_drawn = ap (λ (d : DiceState). d.place) c.new.ensures;
      empty = books.1;
      counts = none_counted c.none.result c.none.ensures;
      not_worn = refl;
    } in
    record {
      of_gate = search rules;
      alone = search rules;
      spare = search rules;
      share = search rules;
      seen = search rules;
      many_clocks = search rules;
      many_books = search rules;
      empty = books.0;
      room = search rules;
      desks = subst (All (IsNewDesk sight gate)) (sym c.push_reserved.ensures.items) (All-push (IsNewDesk sight gate) desks new i.desks is);
      clocks = subst (λ (l : List (Desk C B)). c.pop-in-Some.new.self.items ++ map (λ (d : Desk C B). d.clock) (reverse l) ≡ c.args.clocks.items) (sym c.push_reserved.ensures.items)
          (moved_back (λ (d : Desk C B). d.clock) c.loop-seed.clocks.items c.pop-in-Some.new.self.items c.in-Some-pop.clock desks new c.args.clocks.items refl
          c.in-Some-pop.ensures.items i.clocks);
      seeds = subst (λ (l : List (Desk C B)). c.pop.new.self.items ++ map (λ (d : Desk C B). d.dice.seed) (reverse l) ≡ c.args.seeds.items) (sym c.push_reserved.ensures.items)
          (moved_back (λ (d : Desk C B). d.dice.seed) c.loop-seed.seeds.items c.pop.new.self.items c.in-Some.seed desks new c.args.seeds.items
          (ap (λ (d : DiceState). d.seed) c.new.ensures) c.in-Some.ensures.items i.seeds);
    }
