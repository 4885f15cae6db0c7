use Rattle.std.proofs.Common.{◌≡◌, ◌+◌, ◌*◌, ◌≤◌, length, vec_capacity}
use Rattle.load_maker.specs.Credentials.{AreCredentials}
use Rattle.load_maker.proofs.making.credentials.Given as goal

-- the texts so far, and that the words go on behind theirs
abbrev pub invariant-credentials : goal.invariant-credentials
invariant-credentials l = record {
  texts : AreCredentials l.initial.words.seed l.world.settings l.texts.items;
  count : length l.texts.items ≡ l.i;
  room : l.n ≤ vec_capacity l.texts;
  seed : l.words.seed ≡ l.initial.words.seed;
  place : l.words.place ≡ 8 + 10 * l.i;
}
