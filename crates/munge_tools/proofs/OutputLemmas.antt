-- What an output took of a text.
use Rattle.std.proofs.Common.{◌∙◌, ℕ, ◌<◌, List, ◌++◌, Option, length, take, drop, sym, ap, arith, append_assoc, take-append-drop, length-append, length-drop}
use Rattle.std.proofs.lemmas.List.{nil_from_length}
use Rattle.std.proofs.KnownBytes.{Appends-trans}
use Rattle.std.specs.Io.KnownBytes.{Appends}
use Rattle.munge_tools.specs.Output.{IsCut, TakesCut}

pub cut_is : (n : ℕ) (text : List ℕ) → n < length text → IsCut (take n text) text
cut_is n text short =
    record {
      rest = drop n text;
      lacks_some = λ none. let none' = ap length none in omega (arith, none', length-drop n text);
      joined = sym (take-append-drop n text);
    }

pub cut_at : (n : ℕ) (text : List ℕ) (a b : Option (List ℕ)) → n < length text → Appends a b (take n text) → TakesCut a b text
cut_at n text a b short took = record { front = take n text; is_cut = cut_is n text short; appended = took }

-- a front of the first part is one of both
pub cut_before : (text more : List ℕ) (a b : Option (List ℕ)) → TakesCut a b text → TakesCut a b (text ++ more)
cut_before text more a b cut =
    record {
      front = cut.front;
      is_cut = record {
        rest = cut.is_cut.rest ++ more;
        lacks_some = λ none.
            cut.is_cut.lacks_some (nil_from_length cut.is_cut.rest (let none' = ap length none in omega (arith, none', length-append cut.is_cut.rest more)));
        joined = ap (λ l. l ++ more) cut.is_cut.joined ∙ append_assoc cut.front cut.is_cut.rest more;
      };
      appended = cut.appended;
    }

-- a front of the second part behind all of the first is one of both
pub cut_behind : (text more : List ℕ) (a b c : Option (List ℕ)) → Appends a b text → TakesCut b c more → TakesCut a c (text ++ more)
cut_behind text more a b c first cut =
    record {
      front = text ++ cut.front;
      is_cut = record {
        rest = cut.is_cut.rest;
        lacks_some = cut.is_cut.lacks_some;
        joined = ap (λ l. text ++ l) cut.is_cut.joined ∙ sym (append_assoc text cut.front cut.is_cut.rest);
      };
      appended = Appends-trans a b c text cut.front first cut.appended;
    }
