use Rattle.session_core.specs.Seed.{seed_of}
use Rattle.session_core.specs.Session.{session_of}
use Rattle.session_core.proofs.EndLemmas.{begins_next, found_unread, ended_unread, ended_unclocked, ended_unanswered, ended_cut, turned_whole}
use Rattle.session_core.proofs.turn.take_turn.Goals as goal

pub returns-in-Err-clause-ended : goal.returns-in-Err-clause-ended
returns-in-Err-clause-ended g c = λ files base own is stands at.
    rw (c.ended_by.ensures, c.place.ensures, c.in-Err.ensures.same_place)
    (ended_unread (session_of c.args.world.now c.args.who files (seed_of c.args.dice.now) base) own _ _ _ _ _ c.args.feeder.now.begins c.in-Err.cause
    stands c.in-Err.ensures.ends_stay c.in-Err.ensures.none)

pub returns-in-Err-ClockFault-clause-ended : goal.returns-in-Err-ClockFault-clause-ended
returns-in-Err-ClockFault-clause-ended g c = λ files base own is stands at.
    ended_unclocked (session_of c.args.world.now c.args.who files (seed_of c.args.dice.now) base) own _ _ _ _ _ _ _ c.args.feeder.now.begins c.in-Ok.request
    c.in-Ok.ensures.fits c.in-Ok.ensures.ends_stay c.in-Ok.ensures.read
    (rw c.in-Err-ClockFault.field-0-is at (c.in-Err-ClockFault.ensures.unanswered files base own.events stands))

pub returns-in-Err-NoMemory-clause-ended : goal.returns-in-Err-NoMemory-clause-ended
returns-in-Err-NoMemory-clause-ended g c = λ files base own is stands at.
    ended_unanswered (session_of c.args.world.now c.args.who files (seed_of c.args.dice.now) base) own _ _ _ _ _ _ _ c.args.feeder.now.begins c.in-Ok.request
    c.in-Ok.ensures.fits c.in-Ok.ensures.ends_stay c.in-Ok.ensures.read
    (rw c.in-Err-NoMemory.field-0-is at (c.in-Err-NoMemory.ensures.unanswered files base own.events stands))

pub returns-in-All-clause-turned : goal.returns-in-All-clause-turned
returns-in-All-clause-turned g c = λ files base own is stands at.
    turned_whole (session_of c.args.world.now c.args.who files (seed_of c.args.dice.now) base) own _ _ _ _ _ _ _ _ c.args.feeder.now.begins c.read_request.new.feeder.begins _ c.in-Ok.request
    c.in-Ok-make_answer.answer.reply.items _
    c.in-Ok.ensures.fits c.in-Ok.ensures.ends_stay c.in-Ok.ensures.read (c.in-Ok-make_answer.ensures.answered files base own is stands at)
    (rw c.deref.ensures.value at c.in-All.ensures.appended)
    (begins_next _ _ c.in-Ok.request c.in-Ok.ensures.fits c.requires.far_from_end c.in-Ok.ensures.place) c.stops-over.ensures

pub returns-in-Failed-clause-ended : goal.returns-in-Failed-clause-ended
returns-in-Failed-clause-ended g c = λ files base own is stands at.
    ended_cut (session_of c.args.world.now c.args.who files (seed_of c.args.dice.now) base) own _ _ _ _ _ _ _ _ c.args.feeder.now.begins c.in-Failed.field-0 c.in-Ok.request
    c.in-Ok-make_answer.answer.reply.items _
    c.in-Ok.ensures.fits c.in-Ok.ensures.ends_stay c.in-Ok.ensures.read (c.in-Ok-make_answer.ensures.answered files base own is stands at)
    (rw c.deref.ensures.value at c.in-Failed.ensures.appended) (rw c.deref.ensures.value at c.in-Failed.ensures.below)

pub returns-in-Err-clause-found : goal.returns-in-Err-clause-found
returns-in-Err-clause-found g c =
    rw c.ended_by.ensures (found_unread c.in-Err.cause _ _ _ c.in-Err.ensures.ends_kept)
