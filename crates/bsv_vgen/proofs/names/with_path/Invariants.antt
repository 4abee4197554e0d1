use Rattle.std.proofs.Common.{◌≡◌, ◌++◌, map, take}
use Rattle.bsv_vgen.specs.Names.{written}
use Rattle.bsv_vgen.proofs.names.with_path.Given as goal

abbrev pub invariant-loop-byte : goal.invariant-loop-byte
invariant-loop-byte l = l.text.items ≡ l.front ++ map written (take l.byte-index l.path)
