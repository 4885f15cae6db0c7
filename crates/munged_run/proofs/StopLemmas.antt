-- What comes of a request to stop.
use Rattle.std.proofs.Common.{◌≡◌, ◌∙◌, ℕ, ◌<◌, Bool, false, bytes_eq, List, [], length, take, refl, sym, subst, arith}
use Rattle.std.proofs.lemmas.List.{length-take}
use Rattle.std.proofs.lemmas.Bool.Decides.{not_from_Decides}
use Rattle.std.proofs.lemmas.Slice.Eq.{bytes_eq-Decides}
use Rattle.std.proofs.KnownBytes.{Consumes-nil}
use Rattle.std.specs.Io.KnownBytes.{Appends, Consumes, IsAtEnd}
use Rattle.byte_io.specs.Counts.{Rose}
use Rattle.byte_io.specs.Dials.{Dials}
use Rattle.byte_io.specs.TakesFirst.{TakesFirst}
use Rattle.session_core.specs.Things.{Input, input_of}
use Rattle.session_core.specs.SessionRan.{IsProperPrefix}
use Rattle.munged_run.proofs.CheckLemmas.{proper_front}
use Rattle.munged_run.specs.Stop.{StopAsked, cut, other, short, stop_answer, stop_request, stops, unread}
use Rattle.munged_run.specs.StopAnswer.{AnswerRead, ended, failed, other_bytes, right}
use Rattle.munged_run.specs.Wire.{Dialled, WireSeen}
use Rattle.munged_run.specs.declared.stop_request.AskedToStop.{AskedToStop}
use Rattle.munged_run.specs.declared.stop_request.AskedToStop.TheVariants.{Failed, Other}

-- what a dial that succeeds does
pub record Dialling (path : List ℕ) (before after : WireSeen) : Type 0 where
  pub dials : Dials before.dialled after.dialled path
  pub reply : TakesFirst before.replies after.replies after.left
  pub taken : after.taken ≡ before.taken
  pub ends : after.ends ≡ before.ends

-- what a write leaves
pub record WriteLeaves (before after : WireSeen) : Type 0 where
  pub dialled : after.dialled ≡ before.dialled
  pub replies : after.replies ≡ before.replies
  pub left : after.left ≡ before.left
  pub ends : after.ends ≡ before.ends

-- what a read leaves
pub record ReadLeaves (before after : WireSeen) : Type 0 where
  pub dialled : after.dialled ≡ before.dialled
  pub replies : after.replies ≡ before.replies
  pub taken : after.taken ≡ before.taken

-- a dial and a write
pub written : (path : List ℕ) (a b d : WireSeen) (bytes : List ℕ) → Dialling path a b
    → WriteLeaves b d → Appends b.taken d.taken bytes → Dialled path a d bytes []
written path a b d bytes dialling leaves appended =
    record {
      dials = subst (λ dialled. Dials a.dialled dialled path) (sym leaves.dialled) dialling.dials;
      opened = b.left;
      reply = subst (λ replies. TakesFirst a.replies replies b.left) (sym leaves.replies)
          dialling.reply;
      writes = subst (λ taken. Appends taken d.taken bytes) dialling.taken appended;
      reads = subst (λ left. Consumes b.left left []) (sym leaves.left) (Consumes-nil b.left);
    }

-- a dial, a write and a read
exchanged : (path : List ℕ) (a b d e : WireSeen) (bytes read : List ℕ) → Dialling path a b
    → WriteLeaves b d → Appends b.taken d.taken bytes → ReadLeaves d e
    → Consumes d.left e.left read → Dialled path a e bytes read
exchanged path a b d e bytes read dialling leaves appended leaves' consumed =
    record {
      dials = subst (λ dialled. Dials a.dialled dialled path)
          (sym (leaves'.dialled ∙ leaves.dialled)) dialling.dials;
      opened = b.left;
      reply = subst (λ replies. TakesFirst a.replies replies b.left)
          (sym (leaves'.replies ∙ leaves.replies)) dialling.reply;
      writes = subst (λ taken. Appends taken e.taken bytes) dialling.taken
          (subst (λ taken. Appends b.taken taken bytes) (sym leaves'.taken) appended);
      reads = subst (λ left. Consumes left e.left read) leaves.left consumed;
    }

front_size : (n : ℕ) (into : List ℕ) → length into ≡ length stop_answer → n < length into
    → length (take n into) < length stop_answer
front_size n into size fewer = omega (arith, size, fewer, length-take n into)

-- an answer of which a read failed
pub read_failed : (before after : Input) (into : List ℕ) (n : ℕ) → length into ≡ length stop_answer
    → n < length into → Consumes before.left after.left (take n into)
    → AnswerRead before after Failed
read_failed before after into n size fewer consumed =
    failed (take n into) (front_size n into size fewer) consumed refl

-- one that ended early
pub read_short : (before after : Input) (into : List ℕ) (n : ℕ) → length into ≡ length stop_answer
    → n < length into → Consumes before.left after.left (take n into)
    → Rose before.ends after.ends → IsAtEnd after.left → AnswerRead before after Other
read_short before after into n size fewer consumed found none =
    ended (take n into) (front_size n into size fewer) consumed
    (record { found = found; nothing_left = none }) refl

-- another one, by the test of what was seen of it
pub read_other : (before after : Input) (into seen answer : List ℕ) (same : Bool)
    → same ≡ bytes_eq seen answer → same ≡ false → seen ≡ into → answer ≡ stop_answer
    → length into ≡ length stop_answer → Consumes before.left after.left into
    → AnswerRead before after Other
read_other before after into seen answer same test differs seen_is answer_is size consumed =
    other_bytes into size
    (λ right. not_from_Decides (bytes_eq seen answer) (bytes_eq-Decides seen answer) (sym test ∙ differs)
    (seen_is ∙ right ∙ sym answer_is))
    consumed refl

-- a request that did not go out whole
pub cut_asked : (path : List ℕ) (untouched : Type 0) (a b d : WireSeen) (request : List ℕ) (n : ℕ)
    → request ≡ stop_request → n < length request → Dialling path a b → WriteLeaves b d
    → Appends b.taken d.taken (take n request) → StopAsked path untouched a d Failed
cut_asked path untouched a b d request n is fewer dialling leaves appended =
    cut (take n request)
    (subst (λ r. IsProperPrefix (take n request) r) is (proper_front n request fewer))
    (written path a b d (take n request) dialling leaves appended) refl

-- a request that went out, and what was read of the answer
pub stop_asked : (path : List ℕ) (untouched : Type 0) (a b d e : WireSeen) (request : List ℕ)
    (how : AskedToStop) → request ≡ stop_request → Dialling path a b → WriteLeaves b d
    → Appends b.taken d.taken request → ReadLeaves d e
    → AnswerRead (input_of d.left d.ends) (input_of e.left e.ends) how
    → StopAsked path untouched a e how
stop_asked path untouched a b d e request how is dialling leaves appended leaves' read =
    answer_came read
  where
    whole : (bytes : List ℕ) → Consumes d.left e.left bytes → Dialled path a e stop_request bytes
    whole bytes consumed =
        exchanged path a b d e stop_request bytes dialling leaves
        (subst (λ r. Appends b.taken d.taken r) is appended) leaves' consumed

    answer_came : AnswerRead (input_of d.left d.ends) (input_of e.left e.ends) how
        → StopAsked path untouched a e how
    answer_came (failed bytes few consumed how_is) = unread bytes few (whole bytes consumed) how_is
    answer_came (ended bytes few consumed at_end how_is) =
        let since : d.ends ≡ a.ends = leaves.ends ∙ dialling.ends in
        short bytes few (whole bytes consumed)
        (record {
          found = subst (λ n. Rose n e.ends) since at_end.found;
          nothing_left = at_end.nothing_left;
        }) how_is
    answer_came (other_bytes bytes many differ consumed how_is) =
        other bytes many differ (whole bytes consumed) how_is
    answer_came (right consumed how_is) = stops (whole stop_answer consumed) how_is
