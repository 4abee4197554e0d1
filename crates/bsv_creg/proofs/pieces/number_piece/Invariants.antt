use Rattle.std.proofs.Common.{◌≡◌}
use Rattle.bsv_prim.specs.Shape.{shape_of}
use Rattle.bsv_creg.specs.Ports.{number_below}
use Rattle.bsv_creg.proofs.pieces.number_piece.Given as goal

abbrev pub invariant-loop-port : goal.invariant-loop-port
invariant-loop-port l = shape_of l.piece ≡ number_below l.port
