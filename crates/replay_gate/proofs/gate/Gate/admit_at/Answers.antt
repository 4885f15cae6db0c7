use Rattle.std.proofs.Common.{ℕ, ap, sym, ◌∙◌, subst}
use Rattle.munge_types.specs.History.{verdict}
use Rattle.munge_types.specs.declared.history.Event.TheVariants.{Admit, Idle}
use Rattle.replay_gate.specs.declared.view.View.{View}
use Rattle.replay_gate.specs.Seats.{StandsWith, HasEntered}
use Rattle.replay_gate.proofs.Seats.{has_entered}
use Rattle.replay_gate.proofs.gate.Gate.admit_at.Goals as goal

pub leave-requires-clause-own : goal.leave-requires-clause-own
leave-requires-clause-own g c =
    let view = c.in-Ok.ensures.view ∙ c.in_ok-ticket.ensures.turn.view_is in
    λ κs lives. sym (ap (λ (z : View). z.number) view ∙ c.requires.number)

pub leave-requires-in-Err-clause-own : goal.leave-requires-in-Err-clause-own
leave-requires-in-Err-clause-own g c =
    let view = c.in-Err.ensures.view ∙ c.in_ok-ticket.ensures.turn.view_is in
    λ κs lives. sym (ap (λ (z : View). z.number) view ∙ c.requires.number)

pub leave-requires-clause-state : goal.leave-requires-clause-state
leave-requires-clause-state g c =
    let view = c.in-Ok.ensures.view ∙ c.in_ok-ticket.ensures.turn.view_is in
    let number = ap (λ (z : View). z.number) view ∙ c.requires.number in
    λ κs lives. subst (λ (n : ℕ). StandsWith g.R.Replay.remembered c.look_up.new.seat.me (Admit n c.args.pair.now c.args.moment)) number c.in-Ok.ensures.admits

pub leave-requires-in-Err-clause-state : goal.leave-requires-in-Err-clause-state
leave-requires-in-Err-clause-state g c =
    let view = c.in-Err.ensures.view ∙ c.in_ok-ticket.ensures.turn.view_is in
    let number = ap (λ (z : View). z.number) view ∙ c.requires.number in
    λ κs lives. subst (λ (n : ℕ). StandsWith g.R.Replay.remembered c.look_up.new.seat.me (Idle n)) number c.in-Err.ensures.idles

pub returns-in-Ok-clause-answered : goal.returns-in-Ok-clause-answered
returns-in-Ok-clause-answered g c =
    let turn = c.in_ok-ticket.ensures.turn in record {
      history = turn.history;
      entered = subst (λ (n : ℕ). HasEntered c.args.seat.now.me c.leave.new.seat.me c.in_ok-ticket.ticket turn.history (Admit n c.args.pair.now c.args.moment)) (sym c.requires.number)
          (has_entered _ c.args.seat.now.me c.take_turn.new.seat.me c.look_up.new.seat.me c.leave.new.seat.me c.in_ok-ticket.ticket (Admit c.args.number c.args.pair.now c.args.moment) turn c.in-Ok.ensures.view c.leave.ensures.entered);
      verdict_is = c.in-Ok.ensures.said ∙ ap (λ (z : View). verdict z.seen c.args.pair.now c.args.moment) turn.view_is;
    }

pub returns-in-Err-clause-answered : goal.returns-in-Err-clause-answered
returns-in-Err-clause-answered g c =
    let turn = c.in_ok-ticket.ensures.turn in record {
      history = turn.history;
      entered = subst (λ (n : ℕ). HasEntered c.args.seat.now.me c.leave-in-Err.new.seat.me c.in_ok-ticket.ticket turn.history (Idle n)) (sym c.requires.number)
          (has_entered _ c.args.seat.now.me c.take_turn.new.seat.me c.look_up.new.seat.me c.leave-in-Err.new.seat.me c.in_ok-ticket.ticket (Idle c.args.number) turn c.in-Err.ensures.view c.leave-in-Err.ensures.entered);
      wanted = sym (ap (λ (z : View). verdict z.seen c.args.pair.now c.args.moment) turn.view_is) ∙ c.in-Err.ensures.wanted;
    }
