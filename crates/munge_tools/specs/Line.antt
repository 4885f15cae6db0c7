-- A line on the error stream.
use Rattle.std.specs.Prelude.{ℕ, codes, List, [], ◌++◌}
use Rattle.std.specs.Fmt.{decimal}
use Rattle.std.specs.declared.option.Option.{Option}
use Rattle.std.specs.declared.option.Option.TheVariants.{None, Some}

-- a number in decimal, if there is one
abbrev pub number_text : Option ℕ → List ℕ
number_text None = []
number_text (Some number) = decimal number

-- the tool's name, the reason, a number behind it if there is one, and the line's end
abbrev pub line_with : (tool reason : List ℕ) → (number : Option ℕ) → List ℕ
line_with tool reason number =
    tool ++ (codes ": " ++ (reason ++ (number_text number ++ codes "\n")))
