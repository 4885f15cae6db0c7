use Rattle.std.proofs.Common.{◌++◌, ◌∙◌, ap, None, Some}
use Rattle.std.proofs.lemmas.Bool.Decides.{Decides-eqb}
use Rattle.std.proofs.lemmas.Slice.Eq.{strip_prefix_is, strip_suffix_is}
use Rattle.cred_armor.specs.CredentialText.{closing_mark}
use Rattle.cred_armor.specs.Trimming.{trim_back}
use Rattle.cred_armor.proofs.Framing.{frames_trimmed, framed_found, framed_none}
use Rattle.cred_armor.proofs.unarmoring.framed.Goals as goal

pub returns-in_err-behind-clause-none : goal.returns-in_err-behind-clause-none
returns-in_err-behind-clause-none c =
    rw c.from_residual.ensures
    (λ inside frames.
    (rw c.as_bytes.ensures.value at (strip_prefix_is Decides-eqb c.trim_back-trimmed.result.now c.as_bytes.result.now None c.in_err-behind.ensures.cases))
    (inside ++ closing_mark)
    (c.trim_back-trimmed.ensures ∙ (ap trim_back c.trim_front.ensures ∙ frames_trimmed c.args.text.now inside frames)))

pub returns-clause-found : goal.returns-clause-found
returns-clause-found c =
    framed_found c.args.text.now c.trim_back-trimmed.result.now c.in_ok-behind.behind.now c.strip_suffix.result
    (c.trim_back-trimmed.ensures ∙ ap trim_back c.trim_front.ensures)
    (rw c.as_bytes.ensures.value at (strip_prefix_is Decides-eqb c.trim_back-trimmed.result.now c.as_bytes.result.now (Some c.in_ok-behind.behind) c.in_ok-behind.ensures.cases))
    (rw c.as_bytes-2.ensures.value at (strip_suffix_is Decides-eqb c.in_ok-behind.behind.now c.as_bytes-2.result.now c.strip_suffix.result c.strip_suffix.ensures.cases))

pub returns-clause-none : goal.returns-clause-none
returns-clause-none c =
    framed_none c.args.text.now c.trim_back-trimmed.result.now c.in_ok-behind.behind.now c.strip_suffix.result
    (c.trim_back-trimmed.ensures ∙ ap trim_back c.trim_front.ensures)
    (rw c.as_bytes.ensures.value at (strip_prefix_is Decides-eqb c.trim_back-trimmed.result.now c.as_bytes.result.now (Some c.in_ok-behind.behind) c.in_ok-behind.ensures.cases))
    (rw c.as_bytes-2.ensures.value at (strip_suffix_is Decides-eqb c.in_ok-behind.behind.now c.as_bytes-2.result.now c.strip_suffix.result c.strip_suffix.ensures.cases))
