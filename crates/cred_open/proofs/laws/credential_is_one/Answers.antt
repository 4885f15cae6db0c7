use Rattle.cred_open.proofs.Once.{opened_once}
use Rattle.cred_open.proofs.laws.credential_is_one.Goals as goal

pub returns : goal.returns
returns c =
    opened_once record {
      spells_once = c.text_spells_one_body.ensures;
      content_once = c.inner_part_has_one_content.ensures;
      same_body = λ key v w i j body c' d k l first second. record {
        cipher = c.body_has_one_inner_part.ensures.cipher key v w i j body c' d k l first second;
        kind = c.body_has_one_inner_part.ensures.kind key v w i j body c' d k l first second;
        vector = c.body_has_one_inner_part.ensures.vector key v w i j body c' d k l first second;
        inner = c.body_has_one_inner_part.ensures.inner key v w i j body c' d k l first second;
      };
    }
