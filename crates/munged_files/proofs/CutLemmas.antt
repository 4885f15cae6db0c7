-- A text of which a front was written.
use Rattle.std.proofs.Common.{ℕ, ◌<◌, List, length, drop, take, Option, sym, arith, take-append-drop}
use Rattle.std.proofs.lemmas.List.{length-drop}
use Rattle.std.specs.Io.KnownBytes.{Appends}
use Rattle.munged_files.specs.Line.{CutShort}

-- its first bytes, and no more
pub cut_at : (before after : Option (List ℕ)) (n : ℕ) (text : List ℕ) → n < length text
    → Appends before after (take n text) → CutShort before after text
cut_at before after n text fewer went =
    record {
      front = take n text;
      rest = drop n text;
      text_is = sym (take-append-drop n text);
      some_rest = omega (arith, fewer, length-drop n text);
      went = went;
    }
