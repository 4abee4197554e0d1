-- Parameters that become variables, where a fault has its place.
use Rattle.std.proofs.Common.{◌≡◌, Option, Some, None, refl}
use Rattle.bsv_ast.specs.declared.text.Span.{Span}
use Rattle.bsv_types.specs.Operators.{◌>>=◌}
use Rattle.bsv_statements.specs.Bodies.{◌>=>◌, at}

pub at_then : {A B : Type 0} (s : Span) (o : Option A) (f : A → Option B) → at s (o >>= f) ≡ (at s o >=> λ x. at s (f x))
at_then s None f = refl
at_then s (Some x) f = refl

pub ruleset places = (at_then)
