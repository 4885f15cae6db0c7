-- The text of a line on the error stream.
use Rattle.std.specs.Prelude.{◌≡◌, ℕ, ◌<◌, List, [], ◌++◌, Option, length}
use Rattle.std.specs.Fmt.{decimal, signed_decimal}
use Rattle.std.specs.Io.KnownBytes.{Appends}
use Rattle.munged_files.specs.declared.line.Line.{Line}
use Rattle.munged_files.specs.declared.line.Number.{Number}
use Rattle.munged_files.specs.declared.line.Number.TheVariants.{Nothing, Count, Value}

-- a number in decimal, if there is one
abbrev pub number_text : Number → List ℕ
number_text Nothing = []
number_text (Count number) = decimal number
number_text (Value number) = signed_decimal number

-- its parts, one behind the other
abbrev pub text_of : Line → List ℕ
text_of line =
    line.front.now
    ++ (line.name.now ++ (line.middle.now ++ (number_text line.number ++ line.back.now)))

-- a front of this text was written, and no more, where what was taken is told
pub record CutShort (before after : Option (List ℕ)) (text : List ℕ) : Type 0 where
  pub front : List ℕ
  pub rest : List ℕ
  pub text_is : text ≡ front ++ rest
  pub some_rest : 0 < length rest
  pub went : Appends before after front
