-- What the source means under a look: expressions, statements, methods, functions and rules, by recursion on their text
-- (Bluespec reference guide, "Expressions", "Statements", "Rules", "Method definitions").
use Rattle.std.specs.Prelude.{ℕ, zero, suc, ◌-◌, true, false, Bool, pos, List, [], ◌∷◌, ◌++◌, map, take, length, slice_get, Option, Some, None, if◌then◌else◌}
use Rattle.bsv_bits.specs.declared.operator.Operator.TheVariants as operator
use Rattle.bsv_types.specs.declared.operators.Op.TheVariants as op
use Rattle.bsv_types.specs.declared.definitions.Body.{Body}
use Rattle.bsv_types.specs.declared.definitions.Body.TheVariants as body
use Rattle.bsv_types.specs.declared.definitions.Function.{Function}
use Rattle.bsv_types.specs.declared.expressions.Expr.{Expr, fold-Expr}
use Rattle.bsv_types.specs.declared.expressions.Expr.TheOpen.{Expr-F, Place-F}
use Rattle.bsv_types.specs.declared.expressions.Place.{Place, fold-Place}
use Rattle.bsv_types.specs.declared.statements.Branch.{Branch, fold-Branch}
use Rattle.bsv_types.specs.declared.statements.CaseArm.{CaseArm, fold-CaseArm}
use Rattle.bsv_types.specs.declared.statements.Condition.{Condition}
use Rattle.bsv_types.specs.declared.statements.Condition.TheVariants as condition
use Rattle.bsv_types.specs.declared.statements.Head.{Head}
use Rattle.bsv_types.specs.declared.statements.Stmt.{Stmt, fold-Stmt}
use Rattle.bsv_types.specs.declared.statements.Stmt.TheOpen.{Stmt-F, Branch-F, CaseArm-F}
use Rattle.bsv_types.specs.declared.modules.Method.{Method}
use Rattle.bsv_types.specs.Expressions.{carried_type, expr_type}
use Rattle.bsv_types.specs.Kinds.{Kind, integer, kind}
use Rattle.bsv_types.specs.Shapes.{Shapes}
use Rattle.bsv_tree.specs.declared.statics.Binding.{Binding}
use Rattle.bsv_tree.specs.declared.statics.Static.{Static}
use Rattle.bsv_tree.specs.declared.statics.Static.TheVariants as bound
use Rattle.bsv_tree.specs.declared.steps.MethodPlace.{MethodPlace}
use Rattle.bsv_tree.specs.declared.tree.Built.{Built}
use Rattle.bsv_tree.specs.declared.tree.Made.{Made}
use Rattle.bsv_tree.specs.declared.tree.Made.TheVariants as made
use Rattle.bsv_tree.specs.declared.values.Constant.TheVariants as constant
use Rattle.bsv_tree.specs.tree.Widths.{width}
use Rattle.bsv_tree.specs.tree.Contexts.{Context, Callee, made_of, place_in_body, is_integer}
use Rattle.bsv_tree.specs.tree.Methods.{part_method}
use Rattle.bsv_tree.specs.tree.Trees.{methods_of}
use Rattle.bsv_tree.specs.meaning.Values.{Value, static, Variable, Variables, is_static, all_static, is_true, varied, truth, nothing, variable, assign}
use Rattle.bsv_tree.specs.meaning.Operators.{bits, between, sliced, of_two, applied}
use Rattle.bsv_tree.specs.meaning.Evaluation.{Results, Evaluation, ◌>>=◌, yields, decided, asked, called, needed}
use Rattle.bsv_tree.specs.meaning.Control.{Means, chosen, Acts, in_turn, scoped, or_none, Branched, choose, chain, turns}

-- ---- what stands in a module when it is built

abbrev pub held : Static → Value
held (bound.Number n) = static (constant.Number n)
held (bound.Bits w) = static (constant.Bits w)
held (bound.Truth b) = truth b
held _ = nothing

-- a place of an array that is set; every place that is asked for in an accepted design is
abbrev pub set_of : Option (Option ℕ) → ℕ
set_of (Some (Some n)) = n
set_of _ = 0

-- the instance of a variable, which is an array where it has an index
abbrev pub instance : Option Binding → ℕ → ℕ
instance None at = 0
instance (Some b) at = of b.value where
  of : Static → ℕ
  of (bound.Place n) = n
  of (bound.Places ns) = set_of (slice_get ns at)
  of _ = 0

-- ---- expressions

-- an expression: its type, and what it means
pub record Meant : Type 0 where
  pub sort : Kind
  pub means : Means

unfoldable pub all : List Meant → Variables → Evaluation (List Value)
all [] vs = yields []
all (c ∷ cs) vs = do x ← c.means vs; xs ← all cs vs; yields (x ∷ xs)

abbrev pub first_sort : Kind → List Meant → Kind
first_sort t [] = t
first_sort t (c ∷ cs) = c.sort

abbrev pub literal : Shapes → Kind → ℕ → Value
literal s integer number = static (constant.Number (pos number))
literal s k number = bits (width s k) number

-- a call of a function is static where its arguments are
abbrev pub loosened : List Value → Value → Value
loosened xs x = if all_static xs then x else varied x

abbrev pub value_in : Option Variable → Value
value_in None = nothing
value_in (Some v) = v.value

-- the variables of a body as it begins
abbrev pub arguments : List Value → Variables
arguments xs = variable nothing ∷ map variable xs

-- what is called, with values, where text of a module stands
abbrev pub Calling : Type 0
Calling = Context → Callee → List Value → Evaluation Value

-- whether a value is one of these: what makes a label equal
abbrev pub same : Shapes → Value → Value → Value
same s (static (constant.Number m)) (static (constant.Number n)) = of_two s op.Same integer (static (constant.Number m)) (static (constant.Number n))
same s x y = between operator.Same x y

abbrev pub one_of_from : Shapes → Value → Value → List Value → Value
one_of_from s x found [] = found
one_of_from s x found (y ∷ ys) = one_of_from s x (between operator.Or found (same s x y)) ys

abbrev pub one_of : Shapes → Value → List Value → Value
one_of s x [] = truth false
one_of s x (y ∷ ys) = one_of_from s x (same s x y) ys

-- an arm of a `case`
pub record Labelled : Type 0 where
  pub labels : Variables → Evaluation (List Value)
  pub arm : Acts

module _ (look : Results) (call : Calling) (site : Context) where
  -- the variables of the module come first
  abbrev pub variable_of : ℕ → Option Binding → Variables → Value
  variable_of level (Some b) vs = held b.value
  variable_of level None vs = value_in (slice_get vs (place_in_body site level))

  -- a function sees its parameters alone
  abbrev pub function : Option Function → List Value → Evaluation Value
  function None xs = yields nothing
  function (Some f) xs =
      call (record site { bindings = [] }) (record { name = None; condition = None; body = f.body; integer = is_integer (kind f.result) }) xs

  -- a method sees the variables of its module that stand before it, with their values at the end of the body
  abbrev pub method : ℕ → Built → ℕ → Option Method → Option ℕ → List Value → Evaluation Value
  method instance b number (Some m) (Some levels) xs =
      call (record site { within = b.«module»; bindings = take levels b.bindings })
      (record { name = Some (record { instance = instance; method = number }); condition = m.condition; body = m.body; integer = false }) xs
  method instance b number _ _ xs = yields nothing

  abbrev pub part_call : Bool → ℕ → Option ℕ → Evaluation (List Value) → Evaluation Value
  part_call action instance None args = yields nothing
  part_call action instance (Some m) args = called look action (record { instance = instance; method = m }) args

  -- a call of a method of an instance, which is never static
  abbrev pub method_call : Bool → ℕ → Option Made → ℕ → Evaluation (List Value) → Evaluation Value
  method_call action instance None number args = yields nothing
  method_call action instance (Some (made.Primitive p k)) number args = part_call action instance (part_method p k number) args
  method_call action instance (Some (made.Module b)) number args = do
    xs ← args
    x ← method instance b number (slice_get (methods_of (slice_get site.modules b.«module»)) number) (slice_get b.methods number) xs
    yields (varied x)

  abbrev pub calls : Bool → (Variables → Evaluation ℕ) → ℕ → List Meant → Means
  calls action place number cs vs = do
    n ← place vs
    method_call action n (made_of (slice_get site.instances n)) number (all cs vs)

  abbrev pub expr_case : Expr-F Meant (Variables → Evaluation ℕ) → Means
  expr_case (Expr-F.Literal t number) vs = yields (literal site.shapes (kind t) number)
  expr_case (Expr-F.Variable t level) vs = yields (variable_of level (slice_get site.bindings level) vs)
  expr_case (Expr-F.Apply t os cs) vs = do xs ← all cs vs; yields (applied site.shapes (kind t) (first_sort (kind t) cs) os xs)
  expr_case (Expr-F.Call t number cs) vs = do xs ← all cs vs; x ← function (slice_get site.functions number) xs; yields (loosened xs x)
  expr_case (Expr-F.Method t place number cs) vs = calls false place number cs vs
  expr_case (Expr-F.Choice t cs xs) vs = chosen (map (λ c. c.means) cs) (map (λ c. c.means) xs) vs

  abbrev pub expr_step : Expr-F Meant (Variables → Evaluation ℕ) → Meant
  expr_step x = record { sort = kind (carried_type x); means = expr_case x }

  abbrev pub index_of : Value → ℕ
  index_of (static (constant.Number (pos n))) = n
  index_of _ = 0

  abbrev pub place_of : ℕ → Option Meant → Variables → Evaluation ℕ
  place_of level None vs = yields (instance (slice_get site.bindings level) 0)
  place_of level (Some i) vs = do x ← decided (i.means vs); yields (instance (slice_get site.bindings level) (index_of x))

  abbrev pub place_step : Place-F Meant (Variables → Evaluation ℕ) → Variables → Evaluation ℕ
  place_step p = place_of p.level p.index

  unfoldable pub expression : Expr → Meant
  expression = fold-Expr Meant (Variables → Evaluation ℕ) expr_step place_step

  unfoldable pub place : Place → Variables → Evaluation ℕ
  place = fold-Place Meant (Variables → Evaluation ℕ) expr_step place_step

  abbrev pub expr : Expr → Means
  expr e = (expression e).means

  -- ---- statements

  -- `matches` asks for the tag, and binds the payload
  abbrev pub asks : Condition → Variables → Evaluation (Value × Variables)
  asks (condition.Test e) vs = do x ← asked (expr e vs); yields (x, [])
  asks (condition.Matches e) vs =
      let payload = width site.shapes (kind (expr_type e)) - 1 in
      do x ← asked (expr e vs); yields (sliced x payload payload, variable (sliced x (payload - 1) 0) ∷ [])

  abbrev pub loop : Head → Acts → Acts
  loop h a vs = do
    x ← expr h.first vs
    us ← turns 4096 (expr h.condition) (expr h.step) (place_in_body site h.stepped) a (vs ++ variable x ∷ [])
    yields (take (length vs) us)

  -- a static subject: the arm of the first equal label
  unfoldable pub first_same : Value → List Labelled → Acts → Acts
  first_same x [] last vs = last vs
  first_same x (a ∷ others) last vs = do
    ys ← decided (a.labels vs)
    if is_true (one_of site.shapes x ys) then scoped a.arm [] vs else first_same x others last vs

  -- any other subject: a chain of conditions, none of them static
  abbrev pub as_branch : Value → Labelled → Branched
  as_branch x a = record { asks = λ vs. a.labels vs >>= λ ys. yields (varied (one_of site.shapes x ys), []); arm = a.arm }

  abbrev pub cases : Means → List Labelled → Acts → Acts
  cases subject others last vs = do
    x ← subject vs
    if is_static x then first_same x others last vs else choose (map (as_branch x) others) last vs

  abbrev pub declared : Variables → Evaluation Value → Evaluation Variables
  declared vs m = m >>= λ x. yields (vs ++ variable x ∷ [])

  abbrev pub assigned : Variables → ℕ → Evaluation Value → Evaluation Variables
  assigned vs at m = m >>= λ x. yields (assign vs at x)

  abbrev pub stmt_step : Stmt-F Acts Branched Labelled → Acts
  stmt_step (Stmt-F.Declare t e) vs = declared vs (expr e vs)
  stmt_step (Stmt-F.Assign level e) vs = assigned vs (place_in_body site level) (expr e vs)
  stmt_step (Stmt-F.Act p number xs) vs = calls true (place p) number (map expression xs) vs >>= λ x. yields vs
  stmt_step (Stmt-F.Bind t p number xs) vs = declared vs (calls true (place p) number (map expression xs) vs)
  stmt_step (Stmt-F.Return e) vs = assigned vs 0 (expr e vs)
  stmt_step Stmt-F.NoAction vs = yields vs
  stmt_step (Stmt-F.Block acts) vs = scoped (in_turn acts) [] vs
  stmt_step (Stmt-F.If bs last) vs = chain bs (or_none last) vs
  stmt_step (Stmt-F.For h a) vs = loop h a vs
  stmt_step (Stmt-F.Case e others last) vs = cases (expr e) others (or_none last) vs

  abbrev pub branch_step : Branch-F Acts Branched Labelled → Branched
  branch_step b = record { asks = asks b.condition; arm = b.arm }

  abbrev pub case_step : CaseArm-F Acts Branched Labelled → Labelled
  case_step a = record { labels = all (map expression a.labels); arm = a.arm }

  unfoldable pub stmt : Stmt → Acts
  stmt = fold-Stmt Acts Branched Labelled stmt_step branch_step case_step

  unfoldable pub branch : Branch → Branched
  branch = fold-Branch Acts Branched Labelled stmt_step branch_step case_step

  unfoldable pub case_arm : CaseArm → Labelled
  case_arm = fold-CaseArm Acts Branched Labelled stmt_step branch_step case_step

  -- ---- conditions and bodies

  -- a condition sees no arguments
  unfoldable pub holds : Option MethodPlace → Option Expr → Evaluation Value
  holds name None = yields (truth true)
  holds name (Some e) = needed name (expr e (arguments []))

  unfoldable pub body_of : Body → List Value → Evaluation Value
  body_of (body.Value e) xs = expr e (arguments xs)
  body_of (body.Statements ss) xs = do us ← in_turn (map stmt ss) (arguments xs); yields (value_in (slice_get us 0))

  unfoldable pub callee : Callee → List Value → Evaluation Value
  callee c xs = holds c.name c.condition >>= λ x. body_of c.body xs

-- calls in calls, at most so many deep
unfoldable pub call_at : Results → ℕ → Calling
call_at look zero site c xs = yields nothing
call_at look (suc d) site c xs = callee look (call_at look d) site c xs

-- ---- elements

-- a rule
unfoldable pub rule : Results → Context → Option Expr → List Stmt → Evaluation Variables
rule look site c ss = holds look (call_at look 64) site None c >>= λ x. in_turn (map (stmt look (call_at look 64) site) ss) (arguments [])

-- a method of the top, and what it gives
unfoldable pub top_method : Results → Context → Method → List Value → Evaluation Value
top_method look site m xs = holds look (call_at look 64) site None m.condition >>= λ x. body_of look (call_at look 64) site m.body xs
