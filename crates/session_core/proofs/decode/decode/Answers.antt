use Rattle.decode_rules.specs.Prepared.{IsReady}
use Rattle.session_core.specs.Session.{session_of}
use Rattle.session_core.proofs.KeptLemmas.{live_after_admit}
use Rattle.session_core.proofs.TurnLemmas.{answered_ready}
use Rattle.session_core.proofs.decode.decode.Goals as goal

pub returns-in_ok-verdict-in-Ready-clause-decoded : goal.returns-in_ok-verdict-in-Ready-clause-decoded
returns-in_ok-verdict-in-Ready-clause-decoded g c = λ files seed base own is stands count.
    let session = session_of c.args.world.now c.args.who files seed base in
    let ready : IsReady session.terms c.args.moment c.args.text.now c.in-Ready.ready = rw c.in-Ready.is at (c.in_ok-reply.ensures files is) in
    rw c.into_bytes-in-Ready.ensures (answered_ready session own c.args.moment _ _ _ _ c.args.text.now c.in-Ready.ready c.complete-reply.result c.in_ok-verdict-in-Ready.verdict count
    (c.purge_if_due.ensures.purged base own stands) ready (rw c.pair.ensures at c.in_ok-verdict-in-Ready.ensures.verdict) (rw c.pair.ensures at c.in_ok-verdict-in-Ready.ensures.stands) c.complete-reply.ensures)

pub returns-in_ok-verdict-in-Ready-clause-live : goal.returns-in_ok-verdict-in-Ready-clause-live
returns-in_ok-verdict-in-Ready-clause-live g c = λ live.
    live_after_admit c.in_ok-verdict-in-Ready.verdict _ _ _ c.args.moment c.in_ok-verdict-in-Ready.ensures.verdict c.in_ok-verdict-in-Ready.ensures.stands
    c.in_ok-verdict-in-Ready.ensures.kept c.in_ok-verdict-in-Ready.ensures.same_floor (c.purge_if_due.ensures.live live)
