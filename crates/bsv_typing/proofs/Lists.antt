-- A list that is made item by item.
use Rattle.std.proofs.Common.{ℕ, zero, suc, ◌≤◌, take, drop, arith, ◌≡◌, sym, List, [], ◌∷◌, ◌++◌, Option, Some, None, map, refl, ap, append_assoc, append-nil}
use Rattle.std.proofs.lemmas.List.{take-map, drop-map, length-map}
use Rattle.bsv_ast.specs.declared.expressions.Expr as source
use Rattle.bsv_ast.specs.Depths.{expr_depth, greatest}
use Rattle.bsv_types.specs.declared.expressions.Expr.{Expr}
use Rattle.bsv_types.specs.Operators.{◌>>=◌}
use Rattle.bsv_context.specs.Env.{TypedExpr}

-- what was made before, and what is left
abbrev pub with_front : List Expr → Option (List Expr) → Option (List Expr)
with_front front rest = rest >>= λ xs. Some (front ++ xs)

pub front_start : (rest : Option (List Expr)) → with_front [] rest ≡ rest
front_start None = refl
front_start (Some xs) = refl

pub front_done : (front : List Expr) → with_front front (Some []) ≡ Some front
front_done front = ap Some (append-nil front)

pub front_more : (front : List Expr) (x : Expr) (rest : Option (List Expr)) → with_front (front ++ x ∷ []) rest ≡ with_front front (rest >>= λ xs. Some (x ∷ xs))
front_more front x None = refl
front_more front x (Some xs) = ap Some (append_assoc front (x ∷ []) xs)

pub front_turn : (o : Option Expr) (rest : Option (List Expr)) (front : List Expr) → with_front front (o >>= λ x. rest >>= λ xs. Some (x ∷ xs)) ≡ (o >>= λ x. with_front (front ++ x ∷ []) rest)
front_turn None rest front = refl
front_turn (Some x) rest front = sym (front_more front x rest)

pub made_turn : (o : Option TypedExpr) (rest : Option (List Expr)) (front : List Expr) → with_front front (o >>= λ m. rest >>= λ xs. Some (m.expr ∷ xs)) ≡ (o >>= λ m. with_front (front ++ m.expr ∷ []) rest)
made_turn None rest front = refl
made_turn (Some m) rest front = sym (front_more front m.expr rest)

pub ruleset fronts = (front_start, front_done, front_more, front_turn, made_turn)

pub ruleset appended = (append_assoc)

pub ruleset lengths = (length-map)

-- how deep a part of a list is nested
abbrev pub deepest : List source.Expr → ℕ
deepest xs = greatest (map expr_depth xs)

pub deepest_take : (n : ℕ) (xs : List source.Expr) → deepest (take n xs) ≤ deepest xs
deepest_take zero xs = omega arith
deepest_take (suc n) [] = omega arith
deepest_take (suc n) (x ∷ xs) = omega (arith, deepest_take n xs)

pub deepest_drop : (n : ℕ) (xs : List source.Expr) → deepest (drop n xs) ≤ deepest xs
deepest_drop zero xs = omega arith
deepest_drop (suc n) [] = omega arith
deepest_drop (suc n) (x ∷ xs) = omega (arith, deepest_drop n xs)

pub ruleset splits = (take-map, drop-map, deepest_take, deepest_drop)
