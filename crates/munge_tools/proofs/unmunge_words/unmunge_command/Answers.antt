use Rattle.std.proofs.Common.{rules, ◌≡◌, ◌∙◌, [], refl, codes}
use Rattle.std.proofs.lemmas.Result.{IfOk-weaker}
use Rattle.clap.specs.Words.{app_of}
use Rattle.munge_tools.specs.UnmungeWords.{unmunge_app, unmunge_rules}
use Rattle.munge_tools.specs.Words.{app_with}
use Rattle.munge_tools.proofs.CommandLemmas.{added}
use Rattle.munge_tools.proofs.unmunge_words.unmunge_command.Goals as goal

unmunge_app-is : app_with (codes "unmunge") unmunge_rules ≡ unmunge_app
unfolding unmunge_app
unmunge_app-is = refl

pub returns : goal.returns
returns c =
    let bare : app_of c.bare_command-command.result ≡ app_with (codes "unmunge") [] = search rules in
    let one = added _ _ _ _ _ bare c.in_ok-command.ensures in
    IfOk-weaker c.with_text.result _ _ (λ x h. added _ _ _ _ _ one h ∙ unmunge_app-is) c.with_text.ensures
