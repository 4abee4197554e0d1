-- Values of fields, and parts side by side, that are made one by one.
use Rattle.std.proofs.Common.{◌≡◌, sym, ◌∙◌, List, [], ◌∷◌, ◌++◌, Option, Some, None, refl, ap, append_assoc, append-nil}
use Rattle.bsv_types.specs.declared.expressions.Expr.{Expr}
use Rattle.bsv_types.specs.Operators.{◌>>=◌}

-- the values before, and those that are left
module _ {A : Type 0} where
  abbrev pub with_values : List Expr → Option (A × List Expr) → Option (A × List Expr)
  with_values front rest = rest >>= λ r. Some (r.0, front ++ r.1)

  pub values_start : (rest : Option (A × List Expr)) → with_values [] rest ≡ rest
  values_start None = refl
  values_start (Some r) = refl

  pub values_done : (a : A) (front : List Expr) → with_values front (Some (a, [])) ≡ Some (a, front)
  values_done a front = ap (λ (xs : List Expr). Some (a, xs)) (append-nil front)

  pub values_turn : (x : Expr) (o : Option (A × List Expr)) (front : List Expr) →
      with_values front (o >>= λ r. Some (r.0, x ∷ r.1)) ≡ with_values (front ++ x ∷ []) o
  values_turn x None front = refl
  values_turn x (Some r) front = ap (λ (xs : List Expr). Some (r.0, xs)) (sym (append_assoc front (x ∷ []) r.1))

pub ruleset values = (values_start, values_done, values_turn)
