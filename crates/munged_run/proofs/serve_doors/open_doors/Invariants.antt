use Rattle.std.proofs.Common.{◌≡◌, ◌≤◌, length, take, vec_capacity}
use Rattle.munged_run.specs.ServeDoors.{PostsOpened}
use Rattle.munged_run.proofs.serve_doors.open_doors.Given as goal

-- the sockets so far have their doors
abbrev pub invariant-lines : goal.invariant-lines
invariant-lines g l = record {
  opened : PostsOpened g.H.Door.Door.door_faults (take l.line-index l.lines) l.posts.items
      (g.H.Hall.doors l.fn.hall) (g.H.Hall.doors l.hall);
  count : length l.posts.items ≡ l.line-index;
  room : length l.lines ≤ vec_capacity l.posts;
  hall_faults : g.H.Hall.hall_faults l.hall ≡ g.H.Hall.hall_faults l.fn.hall;
  left : g.H.Source.left l.hall ≡ g.H.Source.left l.fn.hall;
  taken : g.H.Sink.taken l.hall ≡ g.H.Sink.taken l.fn.hall;
  dialled : g.H.Wire.dialled l.hall ≡ g.H.Wire.dialled l.fn.hall;
  replies : g.H.Wire.replies l.hall ≡ g.H.Wire.replies l.fn.hall;
  ends : g.H.Source.ends l.hall ≡ g.H.Source.ends l.fn.hall;
  read_faults : g.H.Source.read_faults l.hall ≡ g.H.Source.read_faults l.fn.hall;
  write_faults : g.H.Sink.write_faults l.hall ≡ g.H.Sink.write_faults l.fn.hall;
  dial_faults : g.H.Wire.dial_faults l.hall ≡ g.H.Wire.dial_faults l.fn.hall;
}
