-- Which places of the body of a module or a function have a fault of their own: rules, methods, and the statements of
-- modules.
use Rattle.std.specs.Prelude.{ℕ, Bool, true, false, List, [], ◌∷◌, Option, Some, None, Ok, Err}
use Rattle.bsv_ast.specs.Names.{is_lower}
use Rattle.bsv_ast.specs.declared.text.Span.{Span}
use Rattle.bsv_ast.specs.declared.expressions.Expr.{Expr as Written}
use Rattle.bsv_ast.specs.declared.modules.Body.{Body}
use Rattle.bsv_ast.specs.declared.modules.Body.TheVariants as body
use Rattle.bsv_ast.specs.declared.modules.Rule.{Rule}
use Rattle.bsv_ast.specs.declared.modules.Method.{Method}
use Rattle.bsv_ast.specs.declared.modules.ModuleStmt.{ModuleStmt, fold-ModuleStmt, out-ModuleStmt}
use Rattle.bsv_ast.specs.declared.modules.ModuleStmt.TheOpen.{ModuleStmt-F, ModuleBranch-F}
use Rattle.bsv_ast.specs.declared.modules.ModuleBranch.{ModuleBranch, fold-ModuleBranch}
use Rattle.bsv_ast.specs.declared.statements.Head.{Head}
use Rattle.bsv_scopes.specs.Scopes.{opened, closed, in_scope}
use Rattle.bsv_names.specs.ModuleEvents as names
use Rattle.bsv_names.specs.Untyped.{Untyped, Variables, leans, method_header_events, with_params}
use Rattle.bsv_types.specs.Kinds.{Kind, bool}
use Rattle.bsv_types.specs.declared.asked.Owner.TheVariants as owner
use Rattle.bsv_types.specs.declared.definitions.Body.TheVariants as typed_body
use Rattle.bsv_types.specs.declared.definitions.MethodResult.TheVariants as result
use Rattle.bsv_types.specs.declared.definitions.Param.{Param}
use Rattle.bsv_types.specs.declared.modules.Method.{Method as TypedMethod}
use Rattle.bsv_types.specs.Methods.{Signature, Effect, value, action, action_value}
use Rattle.bsv_statements.specs.Bodies.{Or, ◌>=>◌, at, sure, Scopes}
use Rattle.bsv_context.specs.Env.{Env}
use Rattle.bsv_statements.specs.Returns.{returns}
use Rattle.bsv_context.specs.Written.{TypeNames}
use Rattle.bsv_modules.specs.Modules as modules
use Rattle.bsv_modules.specs.Modules.{ModuleContext, State, task, task_of, scoped, asked, method_header, wanted_method, with_method, instance_case, array_case, place_case, declare_case, assign_case}
use Rattle.bsv_check.specs.Judged.{Judged, Judges, leaf, all_judged, Judge, Judging, expr_judged, stmts_judged, head_opened}

-- an arm of an `if` of a module, and the condition in front of it
pub record Arm : Type 0 where
  pub condition : Written
  pub judge : Judges State

-- ---- bodies

-- a body that gives a value: it returns in each path, once and last
abbrev pub giving_judged : Judging → Span → Kind → Body → Judge
giving_judged g s k (body.Statements p xs) vs ss = sure s (returns xs) true >=> λ once. stmts_judged g xs vs ss
giving_judged g s k (body.Value p e) vs ss = expr_judged g s k e vs ss >=> λ judged. Ok (vs, ss)

abbrev pub acting_judged : Judging → Span → Body → Judge
acting_judged g s (body.Statements p xs) vs ss = stmts_judged g xs vs ss
acting_judged g s (body.Value p e) vs ss = Err s

abbrev pub judging_of : Untyped → Env → TypeNames → Effect → ℕ → Judging
judging_of u env types e base = record { untyped = u; task = task_of env types e base }

-- a body with this effect, whose variables begin at this level
abbrev pub body_judged : Untyped → Env → TypeNames → Span → ℕ → Effect → Body → Judge
body_judged u env types s base (value k) b = giving_judged (judging_of u env types (value k) base) s k b
body_judged u env types s base action b = acting_judged (judging_of u env types action base) s b
body_judged u env types s base (action_value k) b = giving_judged (judging_of u env types (action_value k) base) s k b

-- ---- modules

-- what the statements of a module may name, and what has no typing
pub record InModule : Type 0 where
  pub untyped : Untyped
  pub site : ModuleContext

-- module bodies are no actions
abbrev pub judging : InModule → Judging
judging g = record { untyped = g.untyped; task = task g.site }

-- a method that stands, of which nothing more is known
abbrev pub standing : Method → TypedMethod
standing m = record { name = m.name.name; params = []; result = result.Action; condition = None; body = typed_body.Statements [] }

module _ (g : InModule) where
  -- ---- rules and methods

  abbrev pub guard_judged : Span → Option Written → Variables → Scopes → Judged
  guard_judged s None vs ss = Ok tt
  guard_judged s (Some e) vs ss = expr_judged (judging g) s bool e vs ss

  abbrev pub rule_stmts_judged : Rule → Judge
  rule_stmts_judged r vs ss =
      stmts_judged (judging_of g.untyped g.site.env g.site.types action (in_scope ss)) r.body (opened vs) (opened ss)

  -- the statements of a rule, in a scope of their own
  abbrev pub rule_body_judged : Rule → Judge
  rule_body_judged r vs ss = rule_stmts_judged r vs ss >=> λ b. Ok (closed b.0, closed b.1)

  abbrev pub rule_judged : Span → Rule → Judge
  rule_judged s r vs ss =
      asked s owner.Rule r.attributes >=> λ attributes. sure s (is_lower r.name.name) true >=> λ named. guard_judged s r.condition vs ss >=> λ test.
      rule_body_judged r vs ss

  -- the parameters of a method, where its types have a typing
  abbrev pub header_by : Bool → Span → Method → Signature → Or (Option (List Param))
  header_by true s m wanted = Ok None
  header_by false s m wanted = method_header g.site s m wanted >=> λ h. Ok (Some h.0)

  abbrev pub params_opened : Span → Method → Option (List Param) → Judge
  params_opened s m None vs ss = Ok (with_params false m.params (opened vs), opened ss)
  params_opened s m (Some ps) vs ss = at s (modules.with_params ps (opened ss)) >=> λ inner. Ok (with_params true m.params (opened vs), inner)

  -- the body of a method, in the scope of its parameters
  abbrev pub method_body_judged : Span → Method → Signature → Option (List Param) → Judge
  method_body_judged s m wanted h vs ss =
      params_opened s m h vs ss >=> λ o. body_judged g.untyped g.site.env g.site.types s (in_scope ss) wanted.effect m.body o.0 o.1 >=> λ b. Ok (closed b.0, closed b.1)

  abbrev pub method_parts_judged : Span → Method → Signature → Judge
  method_parts_judged s m wanted vs ss =
      header_by (leans g.untyped vs (method_header_events m)) s m wanted >=> λ h. guard_judged s m.condition vs ss >=> λ test. method_body_judged s m wanted h vs ss

  abbrev pub method_judged : Span → Method → Judges State
  method_judged s m vs st =
      wanted_method g.site s m.name.name st >=> λ w. method_parts_judged s m w.1 vs st.scopes >=> λ r. Ok (r.0, with_method st r.1 w.0 (standing m))

  -- ---- statements

  -- what concerns the scopes alone
  abbrev pub on_scopes : Judge → Judges State
  on_scopes j vs st = j vs st.scopes >=> λ r. Ok (r.0, scoped st r.1)

  -- in a scope of its own
  abbrev pub inside : Judges State → Judges State
  inside j vs st = j (opened vs) (scoped st (opened st.scopes)) >=> λ r. Ok (closed r.0, scoped r.1 (closed r.1.scopes))

  abbrev pub last_judged : Option (Judges State) → Judges State
  last_judged None vs st = Ok (vs, st)
  last_judged (Some j) vs st = inside j vs st

  abbrev pub conditions_judged : Span → List Arm → Variables → Scopes → Judged
  conditions_judged s [] vs ss = Ok tt
  conditions_judged s (x ∷ xs) vs ss = guard_judged s (Some x.condition) vs ss >=> λ judged. conditions_judged s xs vs ss

  abbrev pub arms_judged : List Arm → Judges State
  arms_judged [] vs st = Ok (vs, st)
  arms_judged (x ∷ xs) vs st = inside x.judge vs st >=> λ r. arms_judged xs r.0 r.1

  abbrev pub if_judged : Span → List Arm → Option (Judges State) → Judges State
  if_judged s xs last vs st = conditions_judged s xs vs st.scopes >=> λ judged. arms_judged xs vs st >=> λ r. last_judged last r.0 r.1

  abbrev pub for_judged : Span → Head → Judges State → Judges State
  for_judged s h j vs st =
      on_scopes (head_opened (judging g) s h) vs st >=> λ o. j o.0 o.1 >=> λ r. Ok (closed r.0, scoped r.1 (closed r.1.scopes))

  -- a statement in a block, a branch or a loop: there no method stands
  abbrev pub stmt_step : ModuleStmt-F (Judges State) Arm → Judges State
  stmt_step (ModuleStmt-F.Instance s t name m) = leaf (λ vs. leans g.untyped vs (names.stmt_step (ModuleStmt-F.Instance s t name m))) (Some name.name) (instance_case g.site s t name.name m)
  stmt_step (ModuleStmt-F.Array s t name e) = leaf (λ vs. leans g.untyped vs (names.stmt_step (ModuleStmt-F.Array s t name e))) (Some name.name) (array_case g.site s t name.name e)
  stmt_step (ModuleStmt-F.Place s name e m) = leaf (λ vs. leans g.untyped vs (names.stmt_step (ModuleStmt-F.Place s name e m))) None (place_case g.site s name.name e m)
  stmt_step (ModuleStmt-F.Declare s d) = leaf (λ vs. leans g.untyped vs (names.stmt_step (ModuleStmt-F.Declare s d))) (Some d.name.name) (declare_case g.site s d)
  stmt_step (ModuleStmt-F.Assign s name e) = leaf (λ vs. leans g.untyped vs (names.stmt_step (ModuleStmt-F.Assign s name e))) None (assign_case g.site s name.name e)
  stmt_step (ModuleStmt-F.Block s js) = inside (all_judged js)
  stmt_step (ModuleStmt-F.If s xs last) = if_judged s xs last
  stmt_step (ModuleStmt-F.For s h j) = for_judged s h j
  stmt_step (ModuleStmt-F.Rule s r) = on_scopes (rule_judged s r)
  stmt_step (ModuleStmt-F.Method s m) = λ vs st. Err s

  abbrev pub arm_step : ModuleBranch-F (Judges State) Arm → Arm
  arm_step b = record { condition = b.condition; judge = b.arm }

  abbrev pub nested_judged : ModuleStmt → Judges State
  nested_judged = fold-ModuleStmt (Judges State) Arm stmt_step arm_step

  abbrev pub arm_of : ModuleBranch → Arm
  arm_of = fold-ModuleBranch (Judges State) Arm stmt_step arm_step

  -- a statement that stands directly in the body
  abbrev pub direct_step : Judges State → ModuleStmt-F ModuleStmt ModuleBranch → Judges State
  direct_step j (ModuleStmt-F.Method s m) = method_judged s m
  direct_step j _ = j

  abbrev pub direct_judged : ModuleStmt → Judges State
  direct_judged x = direct_step (nested_judged x) (out-ModuleStmt x)
