-- Which places of a body have a fault of their own: a place that names something without a typing is passed over, and
-- what it declares has no typing; any other is typed alone. Here those of statements.
use Rattle.std.specs.Prelude.{ℕ, Bool, true, false, List, [], ◌∷◌, map, Option, Some, None, Ok}
use Rattle.bsv_ast.specs.declared.text.Span.{Span}
use Rattle.bsv_ast.specs.declared.expressions.Expr.{Expr as Written}
use Rattle.bsv_ast.specs.declared.statements.Stmt.{Stmt, fold-Stmt}
use Rattle.bsv_ast.specs.declared.statements.Stmt.TheOpen.{Stmt-F, Branch-F, CaseArm-F}
use Rattle.bsv_ast.specs.declared.statements.Branch.{Branch, fold-Branch}
use Rattle.bsv_ast.specs.declared.statements.CaseArm.{CaseArm, fold-CaseArm}
use Rattle.bsv_ast.specs.declared.statements.Condition.{Condition}
use Rattle.bsv_ast.specs.declared.statements.Condition.TheVariants as condition
use Rattle.bsv_ast.specs.declared.statements.Head.{Head}
use Rattle.bsv_scopes.specs.Scopes.{opened, closed}
use Rattle.bsv_names.specs.ExpressionEvents.{expr_events}
use Rattle.bsv_names.specs.StatementEvents as names
use Rattle.bsv_names.specs.StatementEvents.{condition_events, head_events}
use Rattle.bsv_names.specs.Untyped.{Untyped, Variables, leans, with_declared}
use Rattle.bsv_types.specs.Kinds.{Kind}
use Rattle.bsv_statements.specs.Bodies.{Or, ◌>=>◌, at, Scopes, Task, check, of_kind, opening, in_arm, in_head, write_case, act_case, bind_case, declare_case, assign_case, return_case}

-- no fault of its own, or the first
abbrev pub Judged : Type 0
Judged = Or (Unit {0})

abbrev pub fine : {A : Type 0} → Or A → Judged
fine x = x >=> λ y. Ok tt

-- what leans is passed over
abbrev pub alone : Bool → Judged → Judged
alone true x = Ok tt
alone false x = x

-- from the variables in scope, and what is known of those with a typing, to those after
abbrev pub Judges : Type 0 → Type 0
Judges S = Variables → S → Or (Variables × S)

module _ {S : Type 0} where
  -- a statement that holds no others, and the variable that it declares
  abbrev pub leaf_by : {X : Type 0} → Bool → Option (List ℕ) → (S → Or (S × X)) → Judges S
  leaf_by true name run vs s = Ok (with_declared name false vs, s)
  leaf_by false name run vs s = run s >=> λ r. Ok (with_declared name true vs, r.0)

  abbrev pub leaf : {X : Type 0} → (Variables → Bool) → Option (List ℕ) → (S → Or (S × X)) → Judges S
  leaf leaning name run vs s = leaf_by (leaning vs) name run vs s

  abbrev pub all_judged : List (Judges S) → Judges S
  all_judged [] vs s = Ok (vs, s)
  all_judged (j ∷ js) vs s = j vs s >=> λ r. all_judged js r.0 r.1

abbrev pub Judge : Type 0
Judge = Judges Scopes

-- in a scope of its own
abbrev pub inside : Judge → Judge
inside j vs ss = j (opened vs) (opened ss) >=> λ r. Ok (closed r.0, closed r.1)

abbrev pub last_judged : Option Judge → Judge
last_judged None vs ss = Ok (vs, ss)
last_judged (Some j) vs ss = inside j vs ss

-- an arm and the condition in front of it
pub record Arm : Type 0 where
  pub condition : Condition
  pub judge : Judge

-- an arm of a `case` and its labels
pub record Labelled : Type 0 where
  pub labels : List Written
  pub judge : Judge

abbrev pub name_bound : Condition → Option (List ℕ)
name_bound (condition.Test p e) = None
name_bound (condition.Matches p e name) = Some name.name

-- what the statements of a body may name and do, and what has no typing
pub record Judging : Type 0 where
  pub untyped : Untyped
  pub task : Task

module _ (g : Judging) where
  -- ---- `if`: its conditions, then its arms

  abbrev pub opening_judged : Span → Condition → Variables → Scopes → Judged
  opening_judged s c vs ss = alone (leans g.untyped vs (condition_events c)) (fine (opening g.task ss s c))

  abbrev pub openings_judged : Span → List Arm → Variables → Scopes → Judged
  openings_judged s [] vs ss = Ok tt
  openings_judged s (x ∷ xs) vs ss = opening_judged s x.condition vs ss >=> λ judged. openings_judged s xs vs ss

  abbrev pub arm_opened_by : Bool → Span → Condition → Judge
  arm_opened_by true s c vs ss = Ok (with_declared (name_bound c) false (opened vs), opened ss)
  arm_opened_by false s c vs ss =
      opening g.task ss s c >=> λ o. at s (in_arm o.bound ss) >=> λ inner. Ok (with_declared (name_bound c) true (opened vs), inner)

  -- the scopes in an arm
  abbrev pub arm_opened : Span → Condition → Judge
  arm_opened s c vs ss = arm_opened_by (leans g.untyped vs (condition_events c)) s c vs ss

  abbrev pub arm_judged : Span → Condition → Judge → Judge
  arm_judged s c j vs ss = arm_opened s c vs ss >=> λ o. j o.0 o.1 >=> λ r. Ok (closed r.0, closed r.1)

  abbrev pub arms_judged : Span → List Arm → Judge
  arms_judged s [] vs ss = Ok (vs, ss)
  arms_judged s (x ∷ xs) vs ss = arm_judged s x.condition x.judge vs ss >=> λ r. arms_judged s xs r.0 r.1

  abbrev pub if_judged : Span → List Arm → Option Judge → Judge
  if_judged s xs last vs ss = openings_judged s xs vs ss >=> λ judged. arms_judged s xs vs ss >=> λ r. last_judged last r.0 r.1

  -- ---- `for`

  abbrev pub head_opened_by : Bool → Span → Head → Judge
  head_opened_by true s h vs ss = Ok (with_declared (Some h.variable.name) false (opened vs), opened ss)
  head_opened_by false s h vs ss = in_head g.task s h ss >=> λ l. Ok (with_declared (Some h.variable.name) true (opened vs), l.0)

  -- the scope of the loop's variable
  abbrev pub head_opened : Span → Head → Judge
  head_opened s h vs ss = head_opened_by (leans g.untyped vs (head_events h)) s h vs ss

  abbrev pub for_judged : Span → Head → Judge → Judge
  for_judged s h j vs ss = head_opened s h vs ss >=> λ o. j o.0 o.1 >=> λ r. Ok (closed r.0, closed r.1)

  -- ---- `case`: its subject and its labels, then its arms

  -- an expression of this type
  abbrev pub expr_judged : Span → Kind → Written → Variables → Scopes → Judged
  expr_judged s k e vs ss = alone (leans g.untyped vs (expr_events e)) (fine (of_kind g.task ss s e k))

  abbrev pub labels_judged : Span → Kind → List Written → Variables → Scopes → Judged
  labels_judged s k [] vs ss = Ok tt
  labels_judged s k (e ∷ es) vs ss = expr_judged s k e vs ss >=> λ judged. labels_judged s k es vs ss

  abbrev pub all_labels_judged : Span → Kind → List Labelled → Variables → Scopes → Judged
  all_labels_judged s k [] vs ss = Ok tt
  all_labels_judged s k (x ∷ xs) vs ss = labels_judged s k x.labels vs ss >=> λ judged. all_labels_judged s k xs vs ss

  -- labels have the type of the subject
  abbrev pub subject_judged : Span → Written → List Labelled → Variables → Scopes → Judged
  subject_judged s e xs vs ss =
      alone (leans g.untyped vs (expr_events e)) (at s (check g.task ss e None) >=> λ m. all_labels_judged s m.kind xs vs ss)

  abbrev pub labelled_judged : List Labelled → Judge
  labelled_judged [] vs ss = Ok (vs, ss)
  labelled_judged (x ∷ xs) vs ss = inside x.judge vs ss >=> λ r. labelled_judged xs r.0 r.1

  abbrev pub case_judged : Span → Written → List Labelled → Option Judge → Judge
  case_judged s e xs last vs ss = subject_judged s e xs vs ss >=> λ judged. labelled_judged xs vs ss >=> λ r. last_judged last r.0 r.1

  -- ---- statements

  abbrev pub stmt_step : Stmt-F Judge Arm Labelled → Judge
  stmt_step (Stmt-F.Write s p e) = leaf (λ vs. leans g.untyped vs (names.stmt_step (Stmt-F.Write s p e))) None (write_case g.task s p e)
  stmt_step (Stmt-F.Call s c) = leaf (λ vs. leans g.untyped vs (names.stmt_step (Stmt-F.Call s c))) None (act_case g.task s c)
  stmt_step (Stmt-F.Bind s d name c) = leaf (λ vs. leans g.untyped vs (names.stmt_step (Stmt-F.Bind s d name c))) (Some name.name) (bind_case g.task s d name.name c)
  stmt_step (Stmt-F.Declare s d) = leaf (λ vs. leans g.untyped vs (names.stmt_step (Stmt-F.Declare s d))) (Some d.name.name) (declare_case g.task s d)
  stmt_step (Stmt-F.Assign s name e) = leaf (λ vs. leans g.untyped vs (names.stmt_step (Stmt-F.Assign s name e))) None (assign_case g.task s name.name e)
  stmt_step (Stmt-F.Return s e) = leaf (λ vs. leans g.untyped vs (names.stmt_step (Stmt-F.Return s e))) None (return_case g.task s e)
  stmt_step (Stmt-F.NoAction s) = λ vs ss. Ok (vs, ss)
  stmt_step (Stmt-F.Block s js) = inside (all_judged js)
  stmt_step (Stmt-F.If s xs last) = if_judged s xs last
  stmt_step (Stmt-F.For s h j) = for_judged s h j
  stmt_step (Stmt-F.Case s e xs last) = case_judged s e xs last

  abbrev pub arm_step : Branch-F Judge Arm Labelled → Arm
  arm_step b = record { condition = b.condition; judge = b.arm }

  abbrev pub labelled_step : CaseArm-F Judge Arm Labelled → Labelled
  labelled_step a = record { labels = a.labels; judge = a.arm }

  abbrev pub stmt_judged : Stmt → Judge
  stmt_judged = fold-Stmt Judge Arm Labelled stmt_step arm_step labelled_step

  abbrev pub arm_of : Branch → Arm
  arm_of = fold-Branch Judge Arm Labelled stmt_step arm_step labelled_step

  abbrev pub labelled_of : CaseArm → Labelled
  labelled_of = fold-CaseArm Judge Arm Labelled stmt_step arm_step labelled_step

  abbrev pub stmts_judged : List Stmt → Judge
  stmts_judged xs = all_judged (map stmt_judged xs)
