-- A type that is written, with the place of its fault.
use Rattle.std.proofs.Common.{◌≡◌, Some, Ok}
use Rattle.bsv_ast.specs.declared.text.Span.{Span}
use Rattle.bsv_ast.specs.declared.types.WrittenType.{WrittenType}
use Rattle.bsv_types.specs.Kinds.{Kind}
use Rattle.bsv_context.specs.Written.{written}
use Rattle.bsv_modules.specs.Programs.{Types, type_names, written_at}
use Rattle.bsv_statements.proofs.RightCalls.{at_is}

pub written_is : (s : Span) (w : WrittenType) (t : Types) (k : Kind) → written_at s w t ≡ Ok k → written (type_names t) w ≡ Some k
unfolding written_at
written_is s w t k e = at_is s (written (type_names t) w) k e
