use Rattle.std.proofs.Common.{◌≡◌}
use Rattle.bsv_prim.specs.Shape.{shape_of}
use Rattle.bsv_creg.specs.Files.{named_register}
use Rattle.bsv_creg.proofs.pieces.named_piece.Given as goal

abbrev pub invariant-loop-before : goal.invariant-loop-before
invariant-loop-before l = shape_of l.piece ≡ named_register l.address l.before
