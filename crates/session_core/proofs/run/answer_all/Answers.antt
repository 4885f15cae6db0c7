use Rattle.std.proofs.Common.{◌≡◌, ◌≤◌, refl, arith, subst, ◌∙◌}
use Rattle.session_core.specs.Reading.{FindsEnd}
use Rattle.session_core.specs.Seed.{seed_of}
use Rattle.session_core.specs.Session.{session_of}
use Rattle.session_core.specs.SessionRan.{request_limit}
use Rattle.session_core.proofs.SessionLemmas.{run_none, so_far_more, so_far_stopped, so_far_ended, so_far_over}
use Rattle.session_core.proofs.run.answer_all.Goals as goal

pub requests-init : goal.requests-init
requests-init g c = record {
  so_far = λ files base is stands.
      rw (c.requires.place, c.requires.begins)
      (run_none (session_of c.args.world.now c.args.who files (seed_of c.args.dice.now) base) _ stands);
  same_seed = refl;
  live = λ live. live;
  side = c.requires.side;
  between = c.requires.between;
  begins_bound = omega (arith, c.requires.begins);
  entries_bound = omega arith;
  ends_kept = refl;
  reads_sound = refl;
  writes_sound = refl;
  clock_sound = refl;
}

pub requests-preserved : goal.requests-preserved
requests-preserved g c = record {
  so_far = λ files base is stands.
      let so_far = c.requests.invariant.so_far files base is stands in
      so_far_more (session_of c.args.world.now c.args.who files (seed_of c.args.dice.now) base) _ _ _ c.requests.answered _ _ _ _ c.in-Ok.turned.over so_far
      (rw c.requests.invariant.same_seed at (c.in-Ok.ensures.turned files base so_far.outcome.own is so_far.moves.stands so_far.is_at)) c.if-turned.false;
  same_seed = c.in-Ok.ensures.same_seed ∙ c.requests.invariant.same_seed;
  live = λ live. c.in-Ok.ensures.live (c.requests.invariant.live live);
  side = c.in-Ok.ensures.side ∙ c.requests.invariant.side;
  between = c.in-Ok.ensures.between;
  begins_bound = omega (arith, c.in-Ok.ensures.begins_bound, c.requests.invariant.begins_bound);
  entries_bound = omega (arith, c.in-Ok.ensures.entries_bound, c.requests.invariant.entries_bound);
  ends_kept = c.in-Ok.ensures.ends_kept ∙ c.requests.invariant.ends_kept;
  reads_sound = c.in-Ok.ensures.reads_sound (λ same. cc) ∙ c.requests.invariant.reads_sound;
  writes_sound = c.in-Ok.ensures.writes_sound (λ same. cc) ∙ c.requests.invariant.writes_sound;
  clock_sound = c.in-Ok.ensures.clock_sound (λ same. cc) ∙ c.requests.invariant.clock_sound;
}

pub returns-then-turned-clause-ran : goal.returns-then-turned-clause-ran
returns-then-turned-clause-ran g c = λ files base is stands.
    let so_far = c.requests.invariant.so_far files base is stands in
    so_far_stopped (session_of c.args.world.now c.args.who files (seed_of c.args.dice.now) base) _ _ _ c.requests.answered _ _ _ _ c.in-Ok.turned.over (omega arith) so_far
    (rw c.requests.invariant.same_seed at (c.in-Ok.ensures.turned files base so_far.outcome.own is so_far.moves.stands so_far.is_at)) c.if-turned.true

pub returns-in-Err-clause-ran : goal.returns-in-Err-clause-ran
returns-in-Err-clause-ran g c = λ files base is stands.
    let so_far = c.requests.invariant.so_far files base is stands in
    so_far_ended (session_of c.args.world.now c.args.who files (seed_of c.args.dice.now) base) _ _ _ c.requests.answered _ _ c.in-Err.how (omega arith) so_far
    (rw c.requests.invariant.same_seed at (c.in-Err.ensures.ended files base so_far.outcome.own is so_far.moves.stands so_far.is_at))

pub returns-clause-ran : goal.returns-clause-ran
returns-clause-ran g c = λ files base is stands.
    let all : c.requests.answered ≡ request_limit = omega arith in
    let so_far = rw all at (c.requests.invariant.so_far files base is stands) in
    so_far_over (session_of c.args.world.now c.args.who files (seed_of c.args.dice.now) base) _ _ _ _ _ _ _ _ c.end_of_budget.result so_far
    c.end_of_budget.ensures.ends_stay c.end_of_budget.ensures.asked

pub returns-then-turned-clause-found : goal.returns-then-turned-clause-found
returns-then-turned-clause-found g c =
    let same = c.in-Ok.ensures.ends_kept ∙ c.requests.invariant.ends_kept in omega (arith, same)

pub returns-in-Err-clause-found : goal.returns-in-Err-clause-found
returns-in-Err-clause-found g c =
    subst (λ before. FindsEnd c.in-Err.how before (g.I.Source.ends c.take_turn.new.input)) c.requests.invariant.ends_kept c.in-Err.ensures.found

pub returns-clause-found : goal.returns-clause-found
returns-clause-found g c =
    subst (λ before. FindsEnd c.end_of_budget.result before (g.I.Source.ends c.end_of_budget.new.input)) c.requests.invariant.ends_kept c.end_of_budget.ensures.found
