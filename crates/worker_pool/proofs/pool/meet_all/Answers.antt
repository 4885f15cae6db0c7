use Rattle.std.proofs.Common.{◌≡◌, ◌+◌, List, [], ◌∷◌, ◌++◌, length, sym, ap, ◌∙◌, refl, subst, arith, length-append}
use Rattle.replay_gate.specs.PassState.{PassState}
use Rattle.worker_pool.specs.Joining.{EachFinished, Joined, Meeting}
use Rattle.worker_pool.specs.declared.lane.Lane.{Lane}
use Rattle.worker_pool.specs.declared.pool.Batch.{Batch}
use Rattle.worker_pool.proofs.Joins.{finished_rest, joined_more, meeting_more, has_pass}
use Rattle.worker_pool.proofs.pool.meet_all.Goals as goal

pub loop-lane-preserved : goal.loop-lane-preserved
loop-lane-preserved g c =
    let gate = c.args.gate.now in
    let workers = length c.args.lanes.items in
    let rest : List (Lane g.row.L.Denot g.row.C.Denot) = c.pop.new.self.items in
    let lane : Lane g.row.L.Denot g.row.C.Denot = c.in-Some.lane in
    let first : PassState = c.loop-lane.all in
    let new : PassState = c.meet-all.result in
    let batches : List (Batch g.row.L.Denot g.row.C.Denot) = c.loop-lane.batches.items in
    let batch : Batch g.row.L.Denot g.row.C.Denot = record { done = lane.done } in
    let items : c.loop-lane.lanes.items ≡ rest ++ lane ∷ [] = c.in-Some.ensures.items in
    let pushed : c.push_reserved.new.self.items ≡ batches ++ batch ∷ [] = c.push_reserved.ensures.items in
    let meeting : Meeting gate workers (rest ++ lane ∷ []) first batches = subst (λ l. Meeting gate workers l first batches) items c.loop-lane.invariant.meeting in
    let more : length c.loop-lane.lanes.items ≡ length rest + 1 = ap length items ∙ length-append rest (lane ∷ []) in record {
      meeting = subst (λ b. Meeting gate workers rest new b) (sym pushed) (meeting_more gate workers rest lane first new batches batch c.meet-all.ensures meeting);
      room = (let cases = c.in-Some.ensures.cases in let len = c.push_reserved.ensures.len in let capacity = c.push_reserved.ensures.capacity in omega arith);
      joined = λ work each.
          let h = c.loop-lane.invariant.joined work each in
          let parts = finished_rest work workers rest lane (subst (EachFinished work workers) items h.0) in
          let before = subst (λ n. Joined work workers n first batches) more h.1 in
          let count : length batches + (length rest + 1) ≡ workers = (let e = meeting.count in omega (arith, length-append rest (lane ∷ []))) in (
            parts.0,
            subst (λ b. Joined work workers (length rest) new b) (sym pushed)
                (joined_more work workers (length rest) lane first new batches batch count parts.1 (has_pass gate rest lane meeting.rest).alone c.meet-all.ensures refl before),
          );
    }

pub returns-clause-joined : goal.returns-clause-joined
returns-clause-joined g c = λ work each.
    let none : length c.loop-lane.lanes.items ≡ 0 = omega (arith, c.loop-lane.lanes.ok.0, c.in_default.ensures.cases) in
    subst (λ n. Joined work (length c.args.lanes.items) n c.loop-lane.all c.loop-lane.batches.items) none (c.loop-lane.invariant.joined work each).1
