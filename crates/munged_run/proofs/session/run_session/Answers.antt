use Rattle.std.proofs.Common.{[], refl, ap, ◌∙◌}
use Rattle.munged_run.specs.AfterSession.{after_session}
use Rattle.munged_run.specs.Program.{answered, unkeyed, unseeded}
use Rattle.munged_run.proofs.RunLemmas.{session_answered}
use Rattle.munged_run.proofs.session.run_session.Goals as goal

pub returns-in-Err-clause-came : goal.returns-in-Err-clause-came
returns-in-Err-clause-came g c = unkeyed ((refl, refl), refl) c.in-Err.ensures.no_key

pub returns-in-Err-read_seed-clause-came : goal.returns-in-Err-read_seed-clause-came
returns-in-Err-read_seed-clause-came g c =
    let key = c.in-Ok.ensures.key in
    let no_seed = rw c.in-Ok.ensures.kept at c.in-Err-read_seed.ensures.no_seed in
    unseeded ((refl, refl), refl) key.key key.holds no_seed

pub returns-clause-came : goal.returns-clause-came
returns-clause-came g c =
    let key = c.in-Ok.ensures.key in
    let seed = rw c.in-Ok.ensures.kept at c.in-Ok-read_seed.ensures.seed in
    answered (session_answered _ _ _ _ _ key.key c.in-Ok-read_seed.seed c.usual.result
    c.caller-who.result c.session-end.result _ _ key.holds seed
    (record {
      default_ttl = c.usual.ensures.default_ttl;
      max_ttl = c.usual.ensures.max_ttl;
      skew = c.usual.ensures.skew;
      addr = c.usual.ensures.addr;
    })
    c.caller-who.ensures c.new-replay.ensures.floor c.new-replay.ensures.kept
    (c.session-end.ensures.ran (record { key = key.key; passwd = []; group = [] }) []
    (record { subkeys = key.subkeys_are; groups = c.none.ensures }) c.new-replay.ensures.stands)
    c.after_session.ensures)

pub returns-clause-reads_sound : goal.returns-clause-reads_sound
returns-clause-reads_sound g c =
    λ other. c.session-end.ensures.reads_sound (λ is. other (c.after_session.ensures ∙ ap after_session is))

pub returns-clause-writes_sound : goal.returns-clause-writes_sound
returns-clause-writes_sound g c =
    λ other. c.session-end.ensures.writes_sound (λ is. other (c.after_session.ensures ∙ ap after_session is))

pub returns-clause-clock_sound : goal.returns-clause-clock_sound
returns-clause-clock_sound g c =
    λ other. c.session-end.ensures.clock_sound (λ is. other (c.after_session.ensures ∙ ap after_session is))
