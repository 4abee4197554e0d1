-- Expressions with suffixes: fields, and the places and ranges of bits (Bluespec reference guide, "Member selection"
-- and "Bit selection").
use Rattle.std.specs.Prelude.{◌+◌, Bool, false, List, [], ◌∷◌, ◌++◌, if◌then◌else◌}
use Rattle.bsv_types.specs.declared.operators.Op.{Op}
use Rattle.bsv_types.specs.declared.expressions.Expr.{Expr, out-Expr}
use Rattle.bsv_types.specs.declared.expressions.Expr.TheOpen.{Expr-F}
use Rattle.bsv_types.specs.declared.expressions.Place.{Place}
use Rattle.bsv_types.specs.Kinds.{Kind}
use Rattle.bsv_types.specs.Operators.{is_suffix}
use Rattle.bsv_context.specs.Env.{TypedExpr, applied}

-- suffixes are with no other operators
abbrev pub are_suffixes : List Op → Bool
are_suffixes [] = false
are_suffixes (o ∷ os) = is_suffix o

-- the suffixes of an expression, with their operands: what comes before them, and the place of each index.
-- Another expression is in front, and has none
abbrev pub suffixes_in : Expr → Expr-F Expr Place → List Op × List Expr
suffixes_in e (Expr-F.Apply t os xs) = if are_suffixes os then (os, xs) else ([], e ∷ [])
suffixes_in e _ = ([], e ∷ [])

unfoldable pub suffixes : Expr → List Op × List Expr
suffixes e = suffixes_in e (out-Expr e)

-- one suffix more: those of one expression are in one list
abbrev pub with_suffix : Kind → Op → List Expr → Expr → TypedExpr
with_suffix k o places e = applied k ((suffixes e).0 ++ o ∷ []) ((suffixes e).1 ++ places)
