use Rattle.std.proofs.Common.{rules, ◌≡◌, ◌∙◌, [], refl, codes}
use Rattle.std.proofs.lemmas.Result.{IfOk-weaker}
use Rattle.clap.specs.Words.{app_of}
use Rattle.munge_tools.specs.RemungeWords.{remunge_app, remunge_rules}
use Rattle.munge_tools.specs.Words.{app_with}
use Rattle.munge_tools.proofs.CommandLemmas.{added}
use Rattle.munge_tools.proofs.remunge_words.remunge_command.Goals as goal

remunge_app-is : app_with (codes "remunge") remunge_rules ≡ remunge_app
unfolding remunge_app
remunge_app-is = refl

pub returns : goal.returns
returns c =
    let bare : app_of c.bare_command-command.result ≡ app_with (codes "remunge") [] = search rules in
    let one = added _ _ _ _ _ bare c.in_ok-command.ensures in
    let two = added _ _ _ _ _ one c.in_ok-command-2.ensures in
    let three = added _ _ _ _ _ two c.in_ok-command-3.ensures in
    IfOk-weaker c.with_text-3.result _ _ (λ x h. added _ _ _ _ _ three h ∙ remunge_app-is) c.with_text-3.ensures
