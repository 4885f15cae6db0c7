-- What the words of a command line ask for, where they ask for a run of a generated load.
use Rattle.std.specs.Prelude.{ℕ, ◌&&◌, nat_le, bytes_eq, codes, if◌then◌else◌, List, [], ◌∷◌}
use Rattle.std.specs.Str.Parse.{digits_value}
use Rattle.std.specs.declared.option.Option.{Option}
use Rattle.std.specs.declared.option.Option.TheVariants.{None, Some}
use Rattle.munged_run.specs.CommandLine.{is_numeral}
use Rattle.munged_run.specs.declared.exercise_words.AskedExercise.{AskedExercise}

-- the number that a word spells, if it spells one from the least to the most; zeros may lead
abbrev pub number_within : (least most : ℕ) → (word : List ℕ) → Option ℕ
number_within least most word =
    let value = digits_value 10 word in
    if is_numeral word && (nat_le least value && nat_le value most) then Some value else None

-- the largest number of 64 bits
abbrev pub largest_number : ℕ
largest_number = 18446744073709551615

-- a run of these parts
abbrev pub exercise_by : (credentials number workers : Option ℕ) → Option AskedExercise
exercise_by (Some credentials) (Some number) (Some workers) =
    Some (record { credentials = credentials; number = number; workers = workers })
exercise_by (Some credentials) (Some number) None = None
exercise_by (Some credentials) None workers = None
exercise_by None number workers = None

-- what a command of this name asks for, if it is `exercise`
abbrev pub exercise_with : (name credentials number workers : List ℕ) → Option AskedExercise
exercise_with name credentials number workers =
    if bytes_eq name (codes "exercise")
    then exercise_by (number_within 1 50000 credentials) (number_within 0 largest_number number)
    (number_within 1 64 workers)
    else None

-- what the words ask for, if it is something: `exercise N NUMBER WORKERS`
abbrev pub exercise_of : List (List ℕ) → Option AskedExercise
exercise_of (name ∷ credentials ∷ number ∷ workers ∷ []) =
    exercise_with name credentials number workers
exercise_of words = None
