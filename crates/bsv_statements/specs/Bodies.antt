-- The typing of the statements of rules, methods and functions (Bluespec reference guide, "Statements"). A fault
-- is at the statement that it is in.
use Rattle.std.specs.Prelude.{ℕ, nat_le, Bool, true, false, ◌&&◌, List, [], ◌∷◌, map, Option, Some, None, Result, Ok, Err, codes, if◌then◌else◌}
use Rattle.bsv_ast.specs.Names.{is_lower}
use Rattle.bsv_ast.specs.declared.text.Span.{Span}
use Rattle.bsv_ast.specs.declared.expressions.Expr.{Expr as Written}
use Rattle.bsv_ast.specs.declared.statements.Stmt.{Stmt as WrittenStmt, fold-Stmt}
use Rattle.bsv_ast.specs.declared.statements.Stmt.TheOpen.{Stmt-F, Branch-F, CaseArm-F}
use Rattle.bsv_ast.specs.declared.statements.Branch.{Branch as WrittenBranch, fold-Branch}
use Rattle.bsv_ast.specs.declared.statements.CaseArm.{CaseArm as WrittenCaseArm, fold-CaseArm}
use Rattle.bsv_ast.specs.declared.statements.Place.{Place as WrittenPlace}
use Rattle.bsv_ast.specs.declared.statements.Place.TheVariants as place
use Rattle.bsv_ast.specs.declared.statements.Call.{Call}
use Rattle.bsv_ast.specs.declared.statements.DeclaredType.{DeclaredType}
use Rattle.bsv_ast.specs.declared.statements.DeclaredType.TheVariants as declared
use Rattle.bsv_ast.specs.declared.statements.Declaration.{Declaration}
use Rattle.bsv_ast.specs.declared.statements.Condition.{Condition}
use Rattle.bsv_ast.specs.declared.statements.Condition.TheVariants as condition
use Rattle.bsv_ast.specs.declared.statements.Head.{Head}
use Rattle.bsv_scopes.specs.Scopes.{Entries, opened, closed, is_new_in, defined_in, in_scope}
use Rattle.bsv_types.specs.declared.expressions.Expr.{Expr}
use Rattle.bsv_types.specs.declared.statements.Stmt.{Stmt, Declare, Assign, Act, Bind, Return, NoAction, Block, If, For, Case}
use Rattle.bsv_types.specs.declared.statements.Branch.{Branch, roll-Branch}
use Rattle.bsv_types.specs.declared.statements.CaseArm.{CaseArm, roll-CaseArm}
use Rattle.bsv_types.specs.declared.statements.Condition.{Condition as Asked}
use Rattle.bsv_types.specs.declared.statements.Condition.TheVariants as asked
use Rattle.bsv_types.specs.declared.statements.Head.{Head as Loop}
use Rattle.bsv_types.specs.declared.types.PartTy.TheVariants as part_type
use Rattle.bsv_types.specs.Kinds.{Kind, bool, integer, part, same_kind}
use Rattle.bsv_types.specs.Methods.{Effect, value, action, action_value}
use Rattle.bsv_types.specs.Expressions.{Slot, one, many}
use Rattle.bsv_types.specs.Kinds.{type_of}
use Rattle.bsv_context.specs.Env.{TypedExpr, Env, variable_in, is_typed_value}
use Rattle.bsv_typing.specs.Operands.{Operand}
use Rattle.bsv_typing.specs.Forms.{arguments, payload}
use Rattle.bsv_context.specs.Methods.{method_named}
use Rattle.bsv_typing.specs.Places.{Instance, place_of}
use Rattle.bsv_typing.specs.Typing.{typed, term, operands}
use Rattle.bsv_context.specs.Written.{TypeNames, written}

-- ---- faults and places

abbrev pub Or : Type 0 → Type 0
Or A = Result A Span

infixl 10 ◌>=>◌
abbrev pub ◌>=>◌ : {A B : Type 0} → Or A → (A → Or B) → Or B
(Ok x) >=> f = f x
(Err s) >=> f = Err s

-- what is there, or a fault at this place
abbrev pub at : {A : Type 0} → Span → Option A → Or A
at s None = Err s
at s (Some x) = Ok x

abbrev pub sure : {A : Type 0} → Span → Bool → A → Or A
sure s true x = Ok x
sure s false x = Err s

-- ---- variables

-- the open scopes, the innermost first: the level of each variable, and what it is
abbrev pub Scopes : Type 0
Scopes = List (Entries (ℕ × Slot))

-- one variable more, where its name is new in the innermost scope
abbrev pub with_variable : List ℕ → Slot → Scopes → Option Scopes
with_variable name slot ss = if is_new_in name ss then Some (defined_in name (in_scope ss, slot) ss) else None

abbrev pub with_scopes : Env → Scopes → Env
with_scopes env ss = record env { variable = variable_in ss }

-- ---- what a body may do

pub record Task : Type 0 where
  pub env : Env
  pub types : TypeNames
  -- action calls and binds may be in it
  pub acts : Bool
  -- what its `return` gives, where it has one
  pub result : Option Kind
  -- the level of its first variable
  pub base : ℕ

abbrev pub check : Task → Scopes → Written → Option Kind → Option TypedExpr
check t ss e want = typed (with_scopes t.env ss) e want

-- an expression of this type
abbrev pub of_kind : Task → Scopes → Span → Written → Kind → Or Expr
of_kind t ss s e k = at s (check t ss e (Some k)) >=> λ m. Ok m.expr

-- ---- instances and calls

abbrev pub one_instance : Option (ℕ × Slot) → Option Instance
one_instance None = None
one_instance (Some v) = whole v.1 where
  whole : Slot → Option Instance
  whole (one k) = Some (record { level = v.0; index = None; kind = k })
  whole (many k) = None

abbrev pub one_of_many : Option (ℕ × Slot) → Expr → Option Instance
one_of_many None i = None
one_of_many (Some v) i = each v.1 where
  each : Slot → Option Instance
  each (one k) = None
  each (many k) = Some (record { level = v.0; index = Some i; kind = k })

-- the instance at a place
abbrev pub instance_at : Task → Scopes → Span → WrittenPlace → Or Instance
instance_at t ss s (place.Name p name) = at s (one_instance (variable_in ss name.name))
instance_at t ss s (place.Index p name e) = of_kind t ss s e integer >=> λ i. at s (one_of_many (variable_in ss name.name) i)

abbrev pub operands_of : Task → Scopes → List Written → List Operand
operands_of t ss xs = operands (map (term (with_scopes t.env ss)) xs)

-- a method of an instance with its arguments
abbrev pub Called : Type 0
Called = Instance × ℕ × Effect × List Expr

abbrev pub called : Task → Scopes → Span → Instance → List ℕ → List Written → Or Called
called t ss s i name xs = at s (method_named t.env.limits i.kind name) >=> λ m. at s (arguments m.1.params (operands_of t ss xs)) >=> λ ms. Ok (i, m.0, m.1.effect, ms)

abbrev pub call_at : Task → Scopes → Span → Call → Or Called
call_at t ss s c = instance_at t ss s c.place >=> λ i. called t ss s i c.method.name c.arguments

abbrev pub acted : Called → Stmt
acted c = Act (place_of c.0) c.1 c.3

abbrev pub is_action : Effect → Bool
is_action (value k) = false
is_action action = true
is_action (action_value k) = true

abbrev pub is_written : Kind → Bool
is_written (part part_type.Reg k) = true
is_written (part part_type.Wire k) = true
is_written _ = false

-- ---- statements

abbrev pub Run : Type 0
Run = Scopes → Or (Scopes × Stmt)

abbrev pub Runs : Type 0
Runs = Scopes → Or (Scopes × List Stmt)

abbrev pub done : Scopes → Stmt → Or (Scopes × Stmt)
done ss x = Ok (ss, x)

abbrev pub all_runs : List Run → Runs
all_runs [] ss = Ok (ss, [])
all_runs (x ∷ xs) ss = x ss >=> λ r. all_runs xs r.0 >=> λ rs. Ok (rs.0, r.1 ∷ rs.1)

-- in a scope of its own
abbrev pub inside : Run → Run
inside x ss = x (opened ss) >=> λ r. done (closed r.0) r.1

abbrev pub write_case : Task → Span → WrittenPlace → Written → Run
write_case t s p e ss =
    instance_at t ss s p >=> λ i. sure s (t.acts && is_written i.kind) i >=> λ i. called t ss s i (codes "_write") (e ∷ []) >=> λ c. done ss (acted c)

abbrev pub act_case : Task → Span → Call → Run
act_case t s call ss = call_at t ss s call >=> λ c. sure s (t.acts && is_action c.2) c >=> λ c. done ss (acted c)

-- the type of a variable that is declared, or none where it takes that of its value
abbrev pub declared_kind : Task → Span → DeclaredType → Or (Option Kind)
declared_kind t s (declared.Let p) = Ok None
declared_kind t s (declared.Written p w) = at s (written t.types w) >=> λ k. sure s (is_typed_value t.env.limits k) (Some k)

abbrev pub given_by : Effect → Option Kind
given_by (action_value k) = Some k
given_by _ = None

abbrev pub is_wanted : Option Kind → Kind → Bool
is_wanted None k = true
is_wanted (Some j) k = same_kind j k

abbrev pub bind_case : Task → Span → DeclaredType → List ℕ → Call → Run
bind_case t s d name call ss =
    declared_kind t s d >=> λ want. call_at t ss s call >=> λ c. at s (given_by c.2) >=> λ k. sure s (t.acts && is_wanted want k) k >=> λ k.
    at s (with_variable name (one k) ss) >=> λ next. done next (Bind (type_of k) (place_of c.0) c.1 c.3)

abbrev pub declare_case : Task → Span → Declaration → Run
declare_case t s d ss =
    declared_kind t s d.declared >=> λ want. at s (check t ss d.value want) >=> λ m. at s (with_variable d.name.name (one m.kind) ss) >=> λ next. done next (Declare (type_of m.kind) m.expr)

-- a variable of this body that takes values
abbrev pub assignable : Task → Scopes → List ℕ → Option (ℕ × Kind)
assignable t ss name = to (variable_in ss name) where
  value_slot : ℕ → Slot → Option (ℕ × Kind)
  value_slot level (many k) = None
  value_slot level (one k) = if nat_le t.base level && is_typed_value t.env.limits k then Some (level, k) else None

  to : Option (ℕ × Slot) → Option (ℕ × Kind)
  to None = None
  to (Some v) = value_slot v.0 v.1

abbrev pub assign_case : Task → Span → List ℕ → Written → Run
assign_case t s name e ss = at s (assignable t ss name) >=> λ v. of_kind t ss s e v.1 >=> λ m. done ss (Assign v.0 m)

abbrev pub return_case : Task → Span → Written → Run
return_case t s e ss = at s t.result >=> λ k. of_kind t ss s e k >=> λ m. done ss (Return m)

-- the condition in front of an arm, and the variable that it binds there
pub record Opening : Type 0 where
  pub asked : Asked
  pub bound : Option (List ℕ × Kind)

abbrev pub opening : Task → Scopes → Span → Condition → Or Opening
opening t ss s (condition.Test p e) = of_kind t ss s e bool >=> λ m. Ok (record { asked = asked.Test m; bound = None })
opening t ss s (condition.Matches p e name) =
    at s (check t ss e None) >=> λ m. at s (payload m.kind) >=> λ k. Ok (record { asked = asked.Matches m.expr; bound = Some (name.name, k) })

-- an arm: the condition in front of it, and what is carried out
pub record Arm : Type 0 where
  pub condition : Condition
  pub run : Run

-- the conditions of an `if` are where it stands, so they come before what is in its arms
abbrev pub openings : Task → Scopes → Span → List Arm → Or (List Opening)
openings t ss s [] = Ok []
openings t ss s (x ∷ xs) = opening t ss s x.condition >=> λ o. openings t ss s xs >=> λ os. Ok (o ∷ os)

-- the scopes in an arm
abbrev pub in_arm : Option (List ℕ × Kind) → Scopes → Option Scopes
in_arm None ss = Some (opened ss)
in_arm (Some b) ss = with_variable b.0 (one b.1) (opened ss)

abbrev pub branch : Asked → Stmt → Branch
branch c x = roll-Branch (record { condition = c; arm = x })

abbrev pub arm_case : Span → Opening → Run → Scopes → Or (Scopes × Branch)
arm_case s o x ss = at s (in_arm o.bound ss) >=> λ inner. x inner >=> λ r. Ok (closed r.0, branch o.asked r.1)

abbrev pub arms : Span → List Opening → List Arm → Scopes → Or (Scopes × List Branch)
arms s (o ∷ os) (x ∷ xs) ss = arm_case s o x.run ss >=> λ b. arms s os xs b.0 >=> λ bs. Ok (bs.0, b.1 ∷ bs.1)
arms s _ _ ss = Ok (ss, [])

abbrev pub last_arm : Option Run → Scopes → Or (Scopes × Option Stmt)
last_arm None ss = Ok (ss, None)
last_arm (Some x) ss = inside x ss >=> λ r. Ok (r.0, Some r.1)

abbrev pub if_case : Task → Span → List Arm → Option Run → Run
if_case t s xs otherwise ss = openings t ss s xs >=> λ os. arms s os xs ss >=> λ bs. last_arm otherwise bs.0 >=> λ o. done o.0 (If bs.1 o.1)

-- the step of a loop: the variable that it assigns, and the value
abbrev pub step_of : Task → Scopes → Span → Head → Or (ℕ × Expr)
step_of t ss s h = at s (assignable t ss h.stepped.name) >=> λ v. of_kind t ss s h.step v.1 >=> λ m. Ok (v.0, m)

-- the condition and the step of a loop, in the scope of its variable
abbrev pub turn_of : Task → Scopes → Span → Head → Or (Expr × ℕ × Expr)
turn_of t ss s h = of_kind t ss s h.condition bool >=> λ test. step_of t ss s h >=> λ step. Ok (test, step.0, step.1)

-- the first value of a loop's variable, and the scope of the variable
abbrev pub start_of : Task → Span → Head → Scopes → Or (Scopes × Expr)
start_of t s h ss =
    sure s (is_lower h.variable.name) true >=> λ named. of_kind t ss s h.first integer >=> λ first. at s (with_variable h.variable.name (one integer) (opened ss)) >=> λ inner. Ok (inner, first)

abbrev pub in_head : Task → Span → Head → Scopes → Or (Scopes × Loop)
in_head t s h ss =
    start_of t s h ss >=> λ start. turn_of t start.0 s h >=> λ turn.
    Ok (start.0, record { variable = h.variable.name; first = start.1; condition = turn.0; stepped = turn.1; step = turn.2 })

abbrev pub for_case : Task → Span → Head → Run → Run
for_case t s h x ss = in_head t s h ss >=> λ l. x l.0 >=> λ r. done (closed r.0) (For l.1 r.1)

-- an arm of a `case`, with its labels
pub record Labelled : Type 0 where
  pub labels : List Written
  pub run : Run

-- labels have the type of the subject
abbrev pub all_labels : Task → Scopes → Span → Kind → List Written → Or (List Expr)
all_labels t ss s k [] = Ok []
all_labels t ss s k (e ∷ es) = of_kind t ss s e k >=> λ m. all_labels t ss s k es >=> λ ms. Ok (m ∷ ms)

-- the labels of a `case` are where it stands, so they come before what is in its arms
abbrev pub labels_of : Task → Scopes → Span → Kind → List Labelled → Or (List (List Expr))
labels_of t ss s k [] = Ok []
labels_of t ss s k (x ∷ xs) = all_labels t ss s k x.labels >=> λ ms. labels_of t ss s k xs >=> λ rest. Ok (ms ∷ rest)

abbrev pub labelled : List Expr → Stmt → CaseArm
labelled ms x = roll-CaseArm (record { labels = ms; arm = x })

abbrev pub all_labelled : List (List Expr) → List Labelled → Scopes → Or (Scopes × List CaseArm)
all_labelled (ms ∷ rest) (x ∷ xs) ss = inside x.run ss >=> λ r. all_labelled rest xs r.0 >=> λ rs. Ok (rs.0, labelled ms r.1 ∷ rs.1)
all_labelled _ _ ss = Ok (ss, [])

abbrev pub case_case : Task → Span → Written → List Labelled → Option Run → Run
case_case t s e xs otherwise ss =
    at s (check t ss e None) >=> λ m. labels_of t ss s m.kind xs >=> λ labels. all_labelled labels xs ss >=> λ cases. last_arm otherwise cases.0 >=> λ o.
    done o.0 (Case m.expr cases.1 o.1)

abbrev pub block_case : List Run → Run
block_case xs ss = all_runs xs (opened ss) >=> λ r. done (closed r.0) (Block r.1)

abbrev pub stmt_step : Task → Stmt-F Run Arm Labelled → Run
stmt_step t (Stmt-F.Write s p e) = write_case t s p e
stmt_step t (Stmt-F.Call s call) = act_case t s call
stmt_step t (Stmt-F.Bind s d name call) = bind_case t s d name.name call
stmt_step t (Stmt-F.Declare s d) = declare_case t s d
stmt_step t (Stmt-F.Assign s name e) = assign_case t s name.name e
stmt_step t (Stmt-F.Return s e) = return_case t s e
stmt_step t (Stmt-F.NoAction s) = λ ss. done ss NoAction
stmt_step t (Stmt-F.Block s xs) = block_case xs
stmt_step t (Stmt-F.If s xs otherwise) = if_case t s xs otherwise
stmt_step t (Stmt-F.For s h x) = for_case t s h x
stmt_step t (Stmt-F.Case s e xs otherwise) = case_case t s e xs otherwise

abbrev pub arm_step : Branch-F Run Arm Labelled → Arm
arm_step b = record { condition = b.condition; run = b.arm }

abbrev pub labelled_step : CaseArm-F Run Arm Labelled → Labelled
labelled_step a = record { labels = a.labels; run = a.arm }

abbrev pub stmt_run : Task → WrittenStmt → Run
stmt_run t = fold-Stmt Run Arm Labelled (stmt_step t) arm_step labelled_step

-- of the parts of a statement
abbrev pub arm_of : Task → WrittenBranch → Arm
arm_of t = fold-Branch Run Arm Labelled (stmt_step t) arm_step labelled_step

abbrev pub labelled_of : Task → WrittenCaseArm → Labelled
labelled_of t = fold-CaseArm Run Arm Labelled (stmt_step t) arm_step labelled_step
