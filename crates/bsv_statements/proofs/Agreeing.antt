-- Arms that are compared one by one.
use Rattle.std.proofs.Common.{ℕ, ◌≡◌, List, [], ◌∷◌, Option, Some, None, map, refl, sym, ap, ◌∙◌}
use Rattle.bsv_ast.specs.declared.statements.Stmt.{Stmt}
use Rattle.bsv_ast.specs.declared.statements.Branch.{Branch}
use Rattle.bsv_ast.specs.declared.statements.CaseArm.{CaseArm}
use Rattle.bsv_ast.specs.Depths.{greatest, stmt_depth, branch_depth, case_depth}
use Rattle.bsv_types.specs.Statements.{Ending, goes_on, returned, Ends, agree, all_agree}

exchanged : (x y : Ends) → agree x y ≡ agree y x
exchanged None None = refl
exchanged None (Some goes_on) = refl
exchanged None (Some returned) = refl
exchanged (Some goes_on) None = refl
exchanged (Some goes_on) (Some goes_on) = refl
exchanged (Some goes_on) (Some returned) = refl
exchanged (Some returned) None = refl
exchanged (Some returned) (Some goes_on) = refl
exchanged (Some returned) (Some returned) = refl

none_left : (x : Ends) → agree None x ≡ None
none_left None = refl
none_left (Some goes_on) = refl
none_left (Some returned) = refl

none_right : (x : Ends) → agree x None ≡ None
none_right x = exchanged x None ∙ none_left x

passed : (x y e : Ends) → agree x (agree y e) ≡ agree y (agree x e)
passed x y None = ap (agree x) (none_right y) ∙ none_right x ∙ sym (ap (agree y) (none_right x) ∙ none_right y)
passed None y (Some e) = none_left (agree y (Some e)) ∙ sym (ap (agree y) (none_left (Some e)) ∙ none_right y)
passed (Some x) None (Some e) = ap (agree (Some x)) (none_left (Some e)) ∙ none_right (Some x) ∙ sym (none_left (agree (Some x) (Some e)))
passed (Some goes_on) (Some goes_on) (Some e) = refl
passed (Some returned) (Some returned) (Some e) = refl
passed (Some goes_on) (Some returned) (Some goes_on) = refl
passed (Some goes_on) (Some returned) (Some returned) = refl
passed (Some returned) (Some goes_on) (Some goes_on) = refl
passed (Some returned) (Some goes_on) (Some returned) = refl

pub agreed_before : (xs : List Ends) (e x : Ends) → all_agree xs (agree e x) ≡ agree x (all_agree xs e)
agreed_before [] e x = exchanged e x
agreed_before (y ∷ ys) e x = ap (agree y) (agreed_before ys e x) ∙ passed y x (all_agree ys e)

pub ruleset agreeing = (agreed_before)

-- how deep statements and arms are nested
abbrev pub deepest_stmt : List Stmt → ℕ
deepest_stmt xs = greatest (map stmt_depth xs)

abbrev pub deepest_branch : List Branch → ℕ
deepest_branch xs = greatest (map branch_depth xs)

abbrev pub deepest_case : List CaseArm → ℕ
deepest_case xs = greatest (map case_depth xs)
