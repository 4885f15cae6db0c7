use Rattle.std.proofs.Common.{List, [], ◌∷◌, ◌++◌, ap, sym, ◌∙◌, subst, arith}
use Rattle.atomic_table.specs.Table.{opening}
use Rattle.replay_gate.specs.Rule.{Kept}
use Rattle.replay_gate.specs.Views.{first_view}
use Rattle.replay_gate.proofs.Ends.{opens}
use Rattle.replay_gate.proofs.gate.Gate.new_at.Goals as goal

pub new-requires : goal.new-requires
new-requires g c =
    let remembered = g.R.Replay.remembered in
    let items = c.push_reserved.ensures.items ∙ ap (λ l. l ++ c.args.state ∷ []) c.in_ok-slots.ensures.items in
    subst (λ (l : List g.row.R.Denot). Kept remembered c.args.ticket c.args.passes (opening (c.args.ticket ∷ c.args.ticket ∷ []) l (first_view c.args.ticket c.args.passes))) (sym items)
    (opens remembered c.args.ticket c.args.passes c.args.state c.requires.empty (omega (arith, c.requires.passes)) (omega (arith, c.ranges.passes)) c.requires.ticket)
