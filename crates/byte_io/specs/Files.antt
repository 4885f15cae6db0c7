-- Files that are told by their names and their bytes.
use Rattle.std.specs.Prelude.{◌≡◌, ℕ, List, take, find, bytes_eq, option_map, Option, Result, Ok, Err, IfSome, IsSomeAnd}
use Rattle.byte_io.specs.declared.files.FileFail.{FileFail}
use Rattle.byte_io.specs.declared.files.FileFail.TheVariants.{Failed, NoMemory}
use Rattle.byte_io.specs.Counts.{Rose, raised}

-- the bytes of the first file of that name
abbrev pub file_of : List (List ℕ × List ℕ) → List ℕ → Option (List ℕ)
file_of files name = option_map (λ file. file.1) (find (λ file. bytes_eq file.0 name) files)

-- where files are told, one has that name, and the bytes are all of it or its first `most`
abbrev pub ReadsFile : Option (List (List ℕ × List ℕ)) → List ℕ → ℕ → List ℕ → Type 0
ReadsFile files name most bytes =
    IfSome files (λ told. IsSomeAnd (file_of told name) (λ whole. bytes ≡ take most whole))

-- the count of faults rose where the answer is a fault, and stands where it is another
abbrev pub CountsFileFault : {T : Type 0} → Result T FileFail → ℕ → ℕ → Type 0
CountsFileFault (Ok _) before now = now ≡ before
CountsFileFault (Err Failed) before now = Rose before now
CountsFileFault (Err NoMemory) before now = now ≡ before

-- the count of faults after an answer that raises it by one where it is a fault
abbrev pub faults_after : {T : Type 0} → Result T FileFail → ℕ → ℕ
faults_after (Ok _) count = count
faults_after (Err Failed) count = raised count
faults_after (Err NoMemory) count = count
