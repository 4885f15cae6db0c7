use Rattle.std.proofs.Common.{rules, ◌≡◌, ◌∙◌, [], refl, codes}
use Rattle.std.proofs.lemmas.Result.{IfOk-weaker}
use Rattle.clap.specs.Words.{app_of}
use Rattle.munge_tools.specs.MungeWords.{munge_app, munge_rules}
use Rattle.munge_tools.specs.Words.{app_with}
use Rattle.munge_tools.proofs.CommandLemmas.{added}
use Rattle.munge_tools.proofs.munge_words.munge_command.Goals as goal

munge_app-is : app_with (codes "munge") munge_rules ≡ munge_app
unfolding munge_app
munge_app-is = refl

pub returns : goal.returns
returns c =
    let bare : app_of c.bare_command-command.result ≡ app_with (codes "munge") [] = search rules in
    let one = added _ _ _ _ _ bare c.in_ok-command.ensures in
    let two = added _ _ _ _ _ one c.in_ok-command-2.ensures in
    let three = added _ _ _ _ _ two c.in_ok-command-3.ensures in
    let four = added _ _ _ _ _ three c.in_ok-command-4.ensures in
    let five = added _ _ _ _ _ four c.in_ok-command-5.ensures in
    let six = added _ _ _ _ _ five c.in_ok-command-6.ensures in
    let seven = added _ _ _ _ _ six c.in_ok-command-7.ensures in
    IfOk-weaker c.with_text-7.result _ _ (λ x h. added _ _ _ _ _ seven h ∙ munge_app-is) c.with_text-7.ensures
