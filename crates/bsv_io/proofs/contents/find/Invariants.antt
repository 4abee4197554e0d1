use Rattle.std.proofs.Common.{◌≡◌, drop}
use Rattle.bsv_io.specs.InMemory.{entries, file_of}
use Rattle.bsv_io.proofs.contents.find.Given as goal

abbrev pub invariant-loop-file : goal.invariant-loop-file
invariant-loop-file l = file_of (entries (drop l.file-index l.files)) l.name ≡ file_of (entries l.files) l.name
