use Rattle.std.proofs.Common.{ℕ, ap, sym, ◌∙◌, subst}
use Rattle.munge_types.specs.declared.history.Event.TheVariants.{Purge}
use Rattle.replay_gate.specs.declared.view.View.{View}
use Rattle.replay_gate.specs.Purges.{Drops}
use Rattle.replay_gate.specs.Seats.{StandsWith, HasEntered}
use Rattle.replay_gate.proofs.Seats.{has_entered}
use Rattle.replay_gate.proofs.gate.Gate.purge_at.Goals as goal

pub leave-requires-clause-own : goal.leave-requires-clause-own
leave-requires-clause-own g c =
    let view = c.purge_state-purged.ensures.view ∙ c.in_ok-ticket.ensures.turn.view_is in
    λ κs lives. sym (ap (λ (z : View). z.number) view ∙ c.requires.number)

pub leave-requires-clause-state : goal.leave-requires-clause-state
leave-requires-clause-state g c =
    let view = c.purge_state-purged.ensures.view ∙ c.in_ok-ticket.ensures.turn.view_is in
    let number = ap (λ (z : View). z.number) view ∙ c.requires.number in
    λ κs lives. subst (λ (n : ℕ). StandsWith g.R.Replay.remembered c.purge_state-purged.new.seat.me (Purge n c.args.moment)) number c.purge_state-purged.ensures.state

pub returns-clause-purged : goal.returns-clause-purged
returns-clause-purged g c =
    let turn = c.in_ok-ticket.ensures.turn in record {
      history = turn.history;
      entered = subst (λ (n : ℕ). HasEntered c.args.seat.now.me c.leave.new.seat.me c.in_ok-ticket.ticket turn.history (Purge n c.args.moment)) (sym c.requires.number)
          (has_entered _ c.args.seat.now.me c.take_turn.new.seat.me c.purge_state-purged.new.seat.me c.leave.new.seat.me c.in_ok-ticket.ticket (Purge c.args.number c.args.moment) turn c.purge_state-purged.ensures.view c.leave.ensures.entered);
      drops = subst (λ (z : View). Drops z.seen z.number c.args.moment c.args.slice c.purge_state-purged.result) turn.view_is c.purge_state-purged.ensures.drops;
    }
