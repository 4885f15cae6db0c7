use Rattle.cred_inner.specs.Inner.{content_of}
use Rattle.cred_open.specs.OpeningRules.{Opens, Refuses}
use Rattle.cred_open.proofs.opening.read_plain.Goals as goal

pub returns-in-Some-clause-opened : goal.returns-in-Some-clause-opened
returns-in-Some-clause-opened c =
    λ key text body spells is. record {
      body = body;
      vector = is.vector;
      spelled = spells;
      unbroken = is.unbroken;
      fits = c.in-Some.ensures.content;
      sealed = rw c.in-Some.ensures.laid_out at is.sealed;
      mac_is = rw c.in-Some.ensures.laid_out at is.mac_is;
    }

pub returns-in-None-clause-refused : goal.returns-in-None-clause-refused
returns-in-None-clause-refused c =
    λ key text body spells is.
    Refuses.empty body spells is.unbroken c.args.unsealed.now.cipher c.args.unsealed.now.kind is.vector c.args.plain.now is.sealed c.in-None.ensures.none
