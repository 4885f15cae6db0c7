-- Files in memory.
use Rattle.std.specs.Prelude.{ℕ, List, map}
use Rattle.std.specs.String.{string_bytes}
use Rattle.byte_io.specs.declared.memory.files.NamedFile.{NamedFile}

-- the names and the bytes of files
abbrev pub told_of : List NamedFile → List (List ℕ × List ℕ)
told_of files = map (λ file. (string_bytes file.name, file.bytes.items)) files

-- what files in memory are to their callers: the names and the bytes; the numbers of the reads that
-- fail, counted from 1; the reads made, and those that failed
pub record FilesState : Type 0 where
  pub files : List (List ℕ × List ℕ)
  pub fails : List ℕ
  pub reads : ℕ
  pub faults : ℕ
