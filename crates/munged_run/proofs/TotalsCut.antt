-- A text in parts of which a front was written.
use Rattle.std.proofs.Common.{ℕ, List, ◌++◌, Option, sym, ap, ◌∙◌, arith}
use Rattle.std.proofs.KnownBytes.{Appends-trans}
use Rattle.std.proofs.lemmas.List.{append_assoc, length-append}
use Rattle.std.specs.Io.KnownBytes.{Appends}
use Rattle.munged_files.specs.Line.{CutShort}

-- a front of the first part
pub cut_before : (before after : Option (List ℕ)) (part behind : List ℕ)
    → CutShort before after part → CutShort before after (part ++ behind)
cut_before before after part behind it =
    record {
      front = it.front;
      rest = it.rest ++ behind;
      text_is = ap (λ t. t ++ behind) it.text_is ∙ append_assoc it.front it.rest behind;
      some_rest = omega (arith, it.some_rest, length-append it.rest behind);
      went = it.went;
    }

-- the first part, and a front of what comes behind it
pub cut_behind : (before between after : Option (List ℕ)) (part behind : List ℕ)
    → Appends before between part → CutShort between after behind
    → CutShort before after (part ++ behind)
cut_behind before between after part behind went it =
    record {
      front = part ++ it.front;
      rest = it.rest;
      text_is = ap (λ t. part ++ t) it.text_is ∙ sym (append_assoc part it.front it.rest);
      some_rest = it.some_rest;
      went = Appends-trans before between after part it.front went it.went;
    }
