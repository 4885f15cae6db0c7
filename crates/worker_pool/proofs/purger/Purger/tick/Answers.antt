use Rattle.std.proofs.Common.{Some, refl}
use Rattle.worker_pool.specs.declared.purger.Purger.{Purger}
use Rattle.worker_pool.proofs.Purging.{tick_made, tick_missed, tick_worn}
use Rattle.worker_pool.proofs.purger.Purger.tick.Goals as goal

pub returns-in_default-clause-one_more : goal.returns-in_default-clause-one_more
returns-in_default-clause-one_more g c =
    let old : Purger g.row.C.Denot = c.args.self.now in
    let new : Purger g.row.C.Denot = record old { clock = c.now.new.self; missed = c.saturating_add-self.result } in
    let did = c.in_default.ensures in
    tick_missed _ c.args.gate.now old new refl refl c.saturating_add-self.ensures refl did.kept did.given_kept did.failed

pub returns-in-Ok-purge-clause-one_more : goal.returns-in-Ok-purge-clause-one_more
returns-in-Ok-purge-clause-one_more g c =
    let old : Purger g.row.C.Denot = c.args.self.now in
    let new : Purger g.row.C.Denot = record old { pass = c.purge.new.pass; clock = c.now.new.self; purges = c.saturating_add-self-in-Ok-purge.result } in
    let gave = c.in-Ok.ensures in
    let did = c.in-Ok-purge.ensures.purged in
    tick_made _ c.args.gate.now old new c.in-Ok.moment refl gave.first gave.counted gave.sound did.before did.enters
    c.saturating_add-self-in-Ok-purge.ensures refl

pub returns-in-Err-clause-one_more : goal.returns-in-Err-clause-one_more
returns-in-Err-clause-one_more g c =
    let old : Purger g.row.C.Denot = c.args.self.now in
    let new : Purger g.row.C.Denot = record old { pass = c.purge.new.pass; clock = c.now.new.self; worn = Some c.in-Err.worn.0 } in
    let gave = c.in-Ok.ensures in
    tick_worn _ c.args.gate.now old new c.in-Ok.moment refl gave.first gave.counted gave.sound c.in-Err.worn.0 c.in-Err.ensures.worn refl refl
