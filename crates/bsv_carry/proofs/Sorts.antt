-- An expression that is carried out has the type that it carries.
use Rattle.std.proofs.Common.{◌≡◌, refl, ap, ◌∙◌}
use Rattle.bsv_types.specs.declared.expressions.Expr.{Expr, out-Expr, map-Expr, fold_out-Expr}
use Rattle.bsv_types.specs.declared.expressions.Expr.TheOpen.{Expr-F}
use Rattle.bsv_types.specs.declared.expressions.Place.{Place}
use Rattle.bsv_types.specs.Expressions.{carried_type, expr_type}
use Rattle.bsv_types.specs.Kinds.{kind}
use Rattle.bsv_tree.specs.carrying.Calls.{Caller}
use Rattle.bsv_tree.specs.tree.Contexts.{Context}
use Rattle.bsv_tree.specs.carrying.Carrying.{Carried, Placing, expression, place, expr_step, place_step}

module _ (f : Expr → Carried) (g : Place → Placing) where
  same_type : (y : Expr-F Expr Place) → carried_type (map-Expr Expr Place Carried Placing f g y) ≡ carried_type y
  same_type (Expr-F.Literal t number) = refl
  same_type (Expr-F.Variable t level) = refl
  same_type (Expr-F.Apply t os xs) = refl
  same_type (Expr-F.Call t number xs) = refl
  same_type (Expr-F.Method t p number xs) = refl
  same_type (Expr-F.Choice t cs xs) = refl

pub sort_is : (call : Caller) (site : Context) (e : Expr) → (expression call site e).sort ≡ kind (expr_type e)
unfolding expression place expr_type
sort_is call site e =
    ap (λ (c : Carried). c.sort) (fold_out-Expr Carried Placing (expr_step call site) (place_step call site) e) ∙
    ap kind (same_type (expression call site) (place call site) (out-Expr e))

pub ruleset sorts = (sort_is)
