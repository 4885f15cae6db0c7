use Rattle.std.proofs.Common.{◌∙◌, length, subst, sym}
use Rattle.decode_rules.specs.Terms.{terms_of}
use Rattle.wire_msg.specs.Spelling.{frame_of}
use Rattle.session_core.specs.Connection.{connection_of}
use Rattle.session_core.specs.OnGate.{Serves}
use Rattle.session_core.specs.Reached.{peer_of}
use Rattle.session_core.specs.Service.{service_of}
use Rattle.session_core.specs.Things.{input_of}
use Rattle.session_core.specs.WholeRequest.{AnswersIfTimed}
use Rattle.session_core.specs.declared.served.Served.{Served}
use Rattle.session_core.proofs.ServeLemmas.{heard_serves, unheard_serves}
use Rattle.session_core.proofs.WholeLemmas.{complete_heard, complete_unheard}
use Rattle.session_core.proofs.serve.serve_in.Goals as goal

-- the laws of `Link` hold on every thread, and are asked for on this one
pub returns-in-Ok-clause-serves : goal.returns-in-Ok-clause-serves
returns-in-Ok-clause-serves g c = λ files is.
    let laws = g.met.L.Link g.world.𝓛 g.world.𝓜 g.world.𝓡 ((λ s x. x), (λ x. x), (λ x. x), λ x. x) in
    let taken = laws.reads_leave_taken _ _ c.in-Ok.ensures.beside in
    let rings = laws.reads_leave_rings _ _ c.in-Ok.ensures.beside in
    heard_serves (service_of (terms_of c.args.world.now c.args.who files) c.args.dice.now.seed c.args.pass.now.number)
    c.args.pass.now c.reach-reached.new.pass
    (input_of (g.L.Source.left c.args.conn.now) (g.L.Source.ends c.args.conn.now))
    (input_of (g.L.Source.left c.send-served.new.conn) (g.L.Source.ends c.send-served.new.conn))
    (peer_of (g.L.Sink.taken c.args.conn.now) (g.L.Link.rings c.args.conn.now))
    (peer_of (g.L.Sink.taken c.send-served.new.conn) (g.L.Link.rings c.send-served.new.conn))
    c.in-Ok.heard.request c.in-Ok.heard.size c.reach-reached.result c.send-served.result
    c.in-Ok.ensures.fits (rw c.send-served.ensures.left c.in-Ok.ensures.read) (c.send-served.ensures.ends ∙ c.in-Ok.ensures.ends_kept) c.in-Ok.ensures.size
    c.send-served.ensures.tells (rw (taken, rings) at c.send-served.ensures.sends) (c.reach-reached.ensures.reaches files is)

pub returns-in-Ok-clause-complete : goal.returns-in-Ok-clause-complete
returns-in-Ok-clause-complete g c = λ request brings held.
    complete_heard request c.in-Ok.heard.request
    (connection_of (input_of (g.L.Source.left c.args.conn.now) (g.L.Source.ends c.args.conn.now)) (g.L.Sink.taken c.args.conn.now) (g.L.Link.rings c.args.conn.now))
    (g.L.Source.left c.read_alone.new.input) _ _ c.reach-reached.result c.send-served.result _ _ _
    brings held c.in-Ok.ensures.fits c.in-Ok.ensures.read (c.send-served.ensures.tells.read_is ∙ c.in-Ok.ensures.size) c.send-served.ensures.sends
    (let laws = g.met.L.Link g.world.𝓛 g.world.𝓜 g.world.𝓡 ((λ s x. x), (λ x. x), (λ x. x), λ x. x) in
    rw (laws.reads_leave_write_faults _ _ c.in-Ok.ensures.beside) at c.send-served.ensures.faults)

pub returns-in-Err-clause-serves : goal.returns-in-Err-clause-serves
returns-in-Err-clause-serves g c = λ files is.
    let laws = g.met.L.Link g.world.𝓛 g.world.𝓜 g.world.𝓡 ((λ s x. x), (λ x. x), (λ x. x), λ x. x) in
    let service = service_of (terms_of c.args.world.now c.args.who files) c.args.dice.now.seed c.args.pass.now.number in
    let before = input_of (g.L.Source.left c.args.conn.now) (g.L.Source.ends c.args.conn.now) in
    let after = input_of (g.L.Source.left c.read_alone.new.input) (g.L.Source.ends c.read_alone.new.input) in
    subst
    (λ (served : Served). Serves service c.args.pass.now c.args.pass.now
    (connection_of before (g.L.Sink.taken c.args.conn.now) (g.L.Link.rings c.args.conn.now))
    (connection_of after (g.L.Sink.taken c.read_alone.new.input) (g.L.Link.rings c.read_alone.new.input)) served served.place)
    (sym c.unheard.ensures)
    (unheard_serves service c.args.pass.now c.in-Err.cause before after _ _ _ _ c.in-Err.ensures.none c.in-Err.ensures.ends_kept
    (laws.reads_leave_taken _ _ c.in-Err.ensures.beside) (laws.reads_leave_rings _ _ c.in-Err.ensures.beside))

pub returns-in-Err-clause-complete : goal.returns-in-Err-clause-complete
returns-in-Err-clause-complete g c = λ request brings held.
    subst (λ (served : Served). AnswersIfTimed (length (frame_of request)) served served.how) (sym c.unheard.ensures)
    (complete_unheard request
    (connection_of (input_of (g.L.Source.left c.args.conn.now) (g.L.Source.ends c.args.conn.now)) (g.L.Sink.taken c.args.conn.now) (g.L.Link.rings c.args.conn.now))
    (input_of (g.L.Source.left c.read_alone.new.input) (g.L.Source.ends c.read_alone.new.input)) c.in-Err.cause _ _ brings held
    c.in-Err.ensures.none c.in-Err.ensures.faults)
