use Rattle.std.proofs.Common.{◌≡◌, drop}
use Rattle.byte_io.specs.Files.{file_of}
use Rattle.byte_io.specs.MemFiles.{told_of}
use Rattle.byte_io.proofs.memory.files.find_file.Given as goal

-- what the files give is what those from here on give
abbrev pub invariant-loop-file : goal.invariant-loop-file
invariant-loop-file l =
    file_of (told_of l.files) l.name ≡ file_of (told_of (drop l.file-index l.files)) l.name
