use Rattle.std.proofs.Common.{◌≡◌, true, refl}
use Rattle.clap.specs.Words.{is_simple, is_simple_and_free}
use Rattle.clap.proofs.OnLiterals.{clap_on_literals}
use Rattle.munge_tools.specs.RemungeWords.{remunge_app, remunge_faults, remunge_rows}
use Rattle.munge_tools.proofs.CommandLemmas.{taken, refused}
use Rattle.munge_tools.proofs.remunge_words.remunge_matches.Goals as goal

remunge_app-free : is_simple_and_free remunge_app ≡ true
unfolding remunge_app clap_on_literals
remunge_app-free = refl

remunge_app-simple : is_simple remunge_app ≡ true
unfolding remunge_app clap_on_literals
remunge_app-simple = refl

pub returns-in-Ok-try_get_matches_from-clause-ok :
    goal.returns-in-Ok-try_get_matches_from-clause-ok
unfolding remunge_faults remunge_rows
returns-in-Ok-try_get_matches_from-clause-ok c =
    taken remunge_app _ _ c.in-Ok-try_get_matches_from.matches remunge_app-free remunge_app-simple c.in-Ok.ensures
    c.in-Ok-try_get_matches_from.ensures.matches c.in-Ok-try_get_matches_from.ensures.kinds

pub returns-in-Err-clause-refused : goal.returns-in-Err-clause-refused
unfolding remunge_faults
returns-in-Err-clause-refused c is =
    refused remunge_app _ _ c.in-Err.error remunge_app-free c.in-Ok.ensures c.in-Err.ensures.kinds (c.unread_of.ensures is)
