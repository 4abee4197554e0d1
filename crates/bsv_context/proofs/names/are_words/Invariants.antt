use Rattle.std.proofs.Common.{◌≡◌, length}
use Rattle.std.specs.List.{list_all}
use Rattle.bsv_ast.specs.Names.{is_word}
use Rattle.bsv_context.proofs.names.are_words.Given as goal

abbrev pub decreases-loop-bytes : goal.decreases-loop-bytes
decreases-loop-bytes l = length l.bytes

abbrev pub invariant-loop-bytes : goal.invariant-loop-bytes
invariant-loop-bytes l = list_all is_word l.bytes ≡ list_all is_word l.fn.bytes
