use Rattle.std.proofs.Common.{◌<◌, ◌≤◌, length, take, arith}
use Rattle.std.proofs.lemmas.List.{length-take}
use Rattle.session_core.proofs.RequestLemmas.{front_bytes, piece_cut}
use Rattle.session_core.proofs.request.read_piece.Goals as goal

pub returns-in-Short-clause-none : goal.returns-in-Short-clause-none
returns-in-Short-clause-none g c =
    let piece = c.read_full.new.into in
    let size = simp length-take at c.read_full.auto.into in
    let within : length piece ≤ c.args.wanted = omega (arith, size, c.min-size.ensures) in (
      record {
        bytes = take c.in-Short.count piece;
        consumed = c.in-Short.ensures.consumed;
        holds = (
          let below : c.in-Short.count < length piece = c.in-Short.ensures.below in simp length-take (omega (arith, below)),
          piece_cut c.args.feeder.now.unfinished piece c.args.wanted c.in-Short.count c.requires.wants
              (front_bytes piece _ (λ i. (c.type_inv.buffer i).fits)) within c.in-Short.ensures.below,
        );
      },
      record { found = c.in-Short.ensures.ended; nothing_left = c.in-Short.ensures.at_end },
    )

pub returns-in-Failed-clause-none : goal.returns-in-Failed-clause-none
returns-in-Failed-clause-none g c =
    let piece = c.read_full.new.into in
    let size = simp length-take at c.read_full.auto.into in
    let within : length piece ≤ c.args.wanted = omega (arith, size, c.min-size.ensures) in
    record {
      bytes = take c.in-Failed.count piece;
      consumed = c.in-Failed.ensures.consumed;
      holds = (
        let below : c.in-Failed.count < length piece = c.in-Failed.ensures.below in simp length-take (omega (arith, below)),
        piece_cut c.args.feeder.now.unfinished piece c.args.wanted c.in-Failed.count c.requires.wants
            (front_bytes piece _ (λ i. (c.type_inv.buffer i).fits)) within c.in-Failed.ensures.below,
      );
    }
