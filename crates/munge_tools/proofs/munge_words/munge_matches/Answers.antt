use Rattle.std.proofs.Common.{◌≡◌, true, refl}
use Rattle.clap.specs.Words.{is_simple, is_simple_and_free}
use Rattle.clap.proofs.OnLiterals.{clap_on_literals}
use Rattle.munge_tools.specs.MungeWords.{munge_app, munge_faults, munge_rows}
use Rattle.munge_tools.proofs.CommandLemmas.{taken, refused}
use Rattle.munge_tools.proofs.munge_words.munge_matches.Goals as goal

munge_app-free : is_simple_and_free munge_app ≡ true
unfolding munge_app clap_on_literals
munge_app-free = refl

munge_app-simple : is_simple munge_app ≡ true
unfolding munge_app clap_on_literals
munge_app-simple = refl

pub returns-in-Ok-try_get_matches_from-clause-ok :
    goal.returns-in-Ok-try_get_matches_from-clause-ok
unfolding munge_faults munge_rows
returns-in-Ok-try_get_matches_from-clause-ok c =
    taken munge_app _ _ c.in-Ok-try_get_matches_from.matches munge_app-free munge_app-simple c.in-Ok.ensures
    c.in-Ok-try_get_matches_from.ensures.matches c.in-Ok-try_get_matches_from.ensures.kinds

pub returns-in-Err-clause-refused : goal.returns-in-Err-clause-refused
unfolding munge_faults
returns-in-Err-clause-refused c is =
    refused munge_app _ _ c.in-Err.error munge_app-free c.in-Ok.ensures c.in-Err.ensures.kinds (c.unread_of.ensures is)
