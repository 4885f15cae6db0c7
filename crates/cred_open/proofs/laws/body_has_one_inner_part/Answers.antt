use Rattle.cred_open.proofs.Bodies.{BodyLaws, body_once}
use Rattle.cred_open.proofs.laws.body_has_one_inner_part.Goals as goal

pub returns-clause-inner : goal.returns-clause-inner
returns-clause-inner c =
    let laws : BodyLaws = record {
      mac_sizes = c.mac_has_its_size.ensures;
      parts_once = c.body_has_its_parts_once.ensures;
      inner_once = c.sealed_part_has_one_inner_part.ensures;
    } in
    λ key vector vector' inner inner' body cipher cipher' kind kind' first second.
    (body_once laws key cipher cipher' kind kind' vector vector' inner inner' body first second).inner

pub returns-clause-cipher : goal.returns-clause-cipher
returns-clause-cipher c =
    let laws : BodyLaws = record {
      mac_sizes = c.mac_has_its_size.ensures;
      parts_once = c.body_has_its_parts_once.ensures;
      inner_once = c.sealed_part_has_one_inner_part.ensures;
    } in
    λ key vector vector' inner inner' body cipher cipher' kind kind' first second.
    (body_once laws key cipher cipher' kind kind' vector vector' inner inner' body first second).cipher

pub returns-clause-kind : goal.returns-clause-kind
returns-clause-kind c =
    let laws : BodyLaws = record {
      mac_sizes = c.mac_has_its_size.ensures;
      parts_once = c.body_has_its_parts_once.ensures;
      inner_once = c.sealed_part_has_one_inner_part.ensures;
    } in
    λ key vector vector' inner inner' body cipher cipher' kind kind' first second.
    (body_once laws key cipher cipher' kind kind' vector vector' inner inner' body first second).kind

pub returns-clause-vector : goal.returns-clause-vector
returns-clause-vector c =
    let laws : BodyLaws = record {
      mac_sizes = c.mac_has_its_size.ensures;
      parts_once = c.body_has_its_parts_once.ensures;
      inner_once = c.sealed_part_has_one_inner_part.ensures;
    } in
    λ key vector vector' inner inner' body cipher cipher' kind kind' first second.
    (body_once laws key cipher cipher' kind kind' vector vector' inner inner' body first second).vector
