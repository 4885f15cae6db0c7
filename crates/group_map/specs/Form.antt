-- The lines of either file, and what they tell.
use Rattle.std.specs.Prelude.{ℕ, Bool, List}
use Rattle.group_map.specs.GroupLine.{groups_in, is_group_line}
use Rattle.group_map.specs.GroupMap.{listings}
use Rattle.group_map.specs.PasswdLine.{is_passwd_line, users_in}
use Rattle.group_map.specs.declared.form.Form.{Form}
use Rattle.group_map.specs.declared.form.Form.TheVariants as forms
use Rattle.group_map.specs.declared.refused.MapRefused.{MapRefused}
use Rattle.group_map.specs.declared.refused.MapRefused.TheVariants as refusals

-- the line may stand in such a file
abbrev pub is_right : Form → List ℕ → Bool
is_right forms.Passwd line = is_passwd_line line
is_right forms.Group line = is_group_line line

-- the numbers of these lines, each beside each of its names
abbrev pub pairs_in : Form → List (List ℕ) → List (ℕ × List ℕ)
pairs_in forms.Passwd lines = users_in lines
pairs_in forms.Group lines = listings (groups_in lines)

-- what is said of such a file where the line of this number is the first bad one
abbrev pub refusal_at : Form → ℕ → MapRefused
refusal_at forms.Passwd line = refusals.Passwd line
refusal_at forms.Group line = refusals.Group line
