use Rattle.std.proofs.Common.{rules, refl, sym, ◌∙◌, arith}
use Rattle.munged_run.proofs.DoorLemmas.{posts_next, stuck_at}
use Rattle.munged_run.proofs.serve_doors.open_doors.Goals as goal

pub returns-in-Err-open_door-clause-unopened : goal.returns-in-Err-open_door-clause-unopened
returns-in-Err-open_door-clause-unopened g c =
    stuck_at _ _ c.lines.line-index c.line-item.result c.lines.posts.items _
    (g.H.Hall.doors c.lines.hall) _ c.in-Err-open_door.why _ c.lines-test.true (sym c.line-item.is)
    c.lines.invariant.opened (rw c.text.ensures at c.in-Err-open_door.ensures.opened)
    c.unopened.ensures

pub lines-preserved : goal.lines-preserved
lines-preserved g c =
    let so = c.lines.invariant in
    record {
      opened = posts_next _ _ c.lines.line-index c.line-item.result c.lines.posts.items _
          (record { who = c.line-item.result.who; door = c.in-Ok-open_door.door; failed = _ }) _
          (g.H.Hall.doors c.lines.hall) _ c.lines-test.true (sym c.line-item.is) so.opened refl
          (rw c.text.ensures at c.in-Ok-open_door.ensures.opened)
          c.in-Ok-open_door.ensures.no_fault c.push_reserved.ensures.items;
      count = search rules;
      room = omega (arith, so.room, c.push_reserved.ensures.capacity);
      hall_faults = c.in-Ok-open_door.ensures.counted ∙ so.hall_faults;
      left = c.open_door.ensures.left ∙ so.left;
      taken = c.open_door.ensures.taken ∙ so.taken;
      dialled = c.open_door.ensures.dialled ∙ so.dialled;
      replies = c.open_door.ensures.replies ∙ so.replies;
      ends = c.open_door.ensures.ends ∙ so.ends;
      read_faults = c.open_door.ensures.read_faults ∙ so.read_faults;
      write_faults = c.open_door.ensures.write_faults ∙ so.write_faults;
      dial_faults = c.open_door.ensures.dial_faults ∙ so.dial_faults;
    }
