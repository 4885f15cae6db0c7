use Rattle.std.proofs.Common.{◌∙◌, sym}
use Rattle.cred_armor.proofs.Framing.{trim_back_step, trim_back_end}
use Rattle.cred_armor.proofs.unarmoring.trim_back.Goals as goal

pub spaces-preserved : goal.spaces-preserved
spaces-preserved c =
    trim_back_step c.spaces.text.now c.in-len1-up.len_at_least (sym c.is_space.ensures ∙ c.if-is_space.true)
    ∙ c.spaces.invariant

pub returns-else-is_space : goal.returns-else-is_space
returns-else-is_space c =
    sym (trim_back_end c.spaces.text.now c.in-len1-up.len_at_least (sym c.is_space.ensures ∙ c.if-is_space.false))
    ∙ c.spaces.invariant
