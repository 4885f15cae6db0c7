-- What is told of a stream of which nothing was read or written.
use Rattle.std.proofs.Common.{ℕ, List, [], Option, None, Some, refl, sym}
use Rattle.std.proofs.lemmas.List.{append-nil}
use Rattle.std.specs.Io.KnownBytes.{Consumes, Appends, Keeps}

pub consumes_nothing : (told : Option (List ℕ)) → Consumes told told []
consumes_nothing None = tt
consumes_nothing (Some bytes) = refl

pub appends_nothing : (told : Option (List ℕ)) → Appends told told []
appends_nothing None = tt
appends_nothing (Some bytes) = sym (append-nil bytes)

-- what stays has lost nothing
pub kept_consumes : (old new : Option (List ℕ)) → Keeps old new → Consumes old new []
kept_consumes None new kept = tt
kept_consumes (Some xs) None kept = absurd kept
kept_consumes (Some xs) (Some ys) kept = sym kept
