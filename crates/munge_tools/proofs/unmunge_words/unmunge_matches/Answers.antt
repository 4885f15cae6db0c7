use Rattle.std.proofs.Common.{◌≡◌, true, refl}
use Rattle.clap.specs.Words.{is_simple, is_simple_and_free}
use Rattle.clap.proofs.OnLiterals.{clap_on_literals}
use Rattle.munge_tools.specs.UnmungeWords.{unmunge_app, unmunge_faults, unmunge_rows}
use Rattle.munge_tools.proofs.CommandLemmas.{taken, refused}
use Rattle.munge_tools.proofs.unmunge_words.unmunge_matches.Goals as goal

unmunge_app-free : is_simple_and_free unmunge_app ≡ true
unfolding unmunge_app clap_on_literals
unmunge_app-free = refl

unmunge_app-simple : is_simple unmunge_app ≡ true
unfolding unmunge_app clap_on_literals
unmunge_app-simple = refl

pub returns-in-Ok-try_get_matches_from-clause-ok :
    goal.returns-in-Ok-try_get_matches_from-clause-ok
unfolding unmunge_faults unmunge_rows
returns-in-Ok-try_get_matches_from-clause-ok c =
    taken unmunge_app _ _ c.in-Ok-try_get_matches_from.matches unmunge_app-free unmunge_app-simple c.in-Ok.ensures
    c.in-Ok-try_get_matches_from.ensures.matches c.in-Ok-try_get_matches_from.ensures.kinds

pub returns-in-Err-clause-refused : goal.returns-in-Err-clause-refused
unfolding unmunge_faults
returns-in-Err-clause-refused c is =
    refused unmunge_app _ _ c.in-Err.error unmunge_app-free c.in-Ok.ensures c.in-Err.ensures.kinds (c.unread_of.ensures is)
