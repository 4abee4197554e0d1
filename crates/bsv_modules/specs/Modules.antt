-- The typing of modules: their statements, instances, rules and methods (Bluespec reference guide, "Module
-- definitions"). A fault is at the statement, the rule or the method that it is in.
use Rattle.std.specs.Prelude.{ℕ, Bool, true, false, ◌&&◌, List, [], ◌∷◌, ◌++◌, map, length, slice_get, slice_set, replicate, Option, Some, None, Ok, Err, codes, if◌then◌else◌}
use Rattle.std.specs.List.{list_all}
use Rattle.std.specs.Option.{option_or}
use Rattle.std.specs.Str.{bytes_eq}
use Rattle.bsv_ast.specs.Names.{is_lower}
use Rattle.bsv_ast.specs.declared.text.Span.{Span}
use Rattle.bsv_ast.specs.declared.expressions.Expr.{Expr as Written}
use Rattle.bsv_ast.specs.declared.modules.Attribute.{Attribute as WrittenAttribute}
use Rattle.bsv_ast.specs.declared.modules.AttributeGroup.{AttributeGroup}
use Rattle.bsv_ast.specs.declared.modules.Param.{Param as WrittenParam}
use Rattle.bsv_ast.specs.declared.modules.Make.{Make as WrittenMake}
use Rattle.bsv_ast.specs.declared.modules.Body.{Body as WrittenBody}
use Rattle.bsv_ast.specs.declared.modules.Body.TheVariants as wbody
use Rattle.bsv_ast.specs.declared.modules.Rule.{Rule as WrittenRule}
use Rattle.bsv_ast.specs.declared.modules.Method.{Method as WrittenMethod}
use Rattle.bsv_ast.specs.declared.modules.ModuleStmt.{ModuleStmt as WrittenStmt, fold-ModuleStmt, out-ModuleStmt}
use Rattle.bsv_ast.specs.declared.modules.ModuleStmt.TheOpen.{ModuleStmt-F, ModuleBranch-F}
use Rattle.bsv_ast.specs.declared.modules.ModuleBranch.{ModuleBranch as WrittenBranch, fold-ModuleBranch}
use Rattle.bsv_ast.specs.declared.statements.Stmt.{Stmt as InnerStmt}
use Rattle.bsv_ast.specs.declared.statements.Declaration.{Declaration as InnerDeclaration}
use Rattle.bsv_ast.specs.declared.statements.Head.{Head as InnerHead}
use Rattle.bsv_ast.specs.declared.types.WrittenType.{WrittenType}
use Rattle.bsv_types.specs.declared.attributes.Attribute.{Attribute}
use Rattle.bsv_types.specs.declared.expressions.Expr.{Expr}
use Rattle.bsv_types.specs.declared.makers.Argument.{Argument}
use Rattle.bsv_types.specs.declared.makers.Argument.TheVariants as argument
use Rattle.bsv_types.specs.declared.makers.Make.{Make}
use Rattle.bsv_types.specs.declared.makers.Maker.{Maker}
use Rattle.bsv_types.specs.declared.makers.Maker.TheVariants as maker
use Rattle.bsv_types.specs.declared.makers.GivenMaker.{GivenMaker}
use Rattle.bsv_types.specs.declared.definitions.Body.{Body}
use Rattle.bsv_types.specs.declared.definitions.Body.TheVariants as body
use Rattle.bsv_types.specs.declared.definitions.Param.{Param}
use Rattle.bsv_types.specs.declared.definitions.MethodResult.{MethodResult}
use Rattle.bsv_types.specs.declared.definitions.MethodResult.TheVariants as result
use Rattle.bsv_types.specs.declared.modules.Rule.{Rule}
use Rattle.bsv_types.specs.declared.modules.Method.{Method}
use Rattle.bsv_types.specs.declared.modules.ModuleStmt.{ModuleStmt, Instance as InstanceAt, Array, Place, Declare, Assign, Block, If, For, Rule as RuleAt, Method as MethodAt}
use Rattle.bsv_types.specs.declared.modules.ModuleBranch.{ModuleBranch, roll-ModuleBranch}
use Rattle.bsv_types.specs.declared.statements.Stmt.{Stmt}
use Rattle.bsv_types.specs.Kinds.{Kind, bool, integer, part, bare, kind, is_interface, same_kind, same_part}
use Rattle.bsv_types.specs.Operators.{◌>>=◌, same_kinds}
use Rattle.bsv_types.specs.Methods.{Signature, Effect, value, action, action_value, same_effect, made_part, maker_params, param_kinds}
use Rattle.bsv_types.specs.Makers.{given_maker}
use Rattle.bsv_types.specs.Modules.{param_names}
use Rattle.bsv_types.specs.Expressions.{Slot, one, many}
use Rattle.bsv_types.specs.Names.{lower_names}
use Rattle.bsv_types.specs.Asked.{attribute}
use Rattle.bsv_types.specs.declared.asked.Owner.{Owner}
use Rattle.bsv_types.specs.declared.asked.Owner.TheVariants as owner
use Rattle.bsv_types.specs.Kinds.{type_of}
use Rattle.bsv_context.specs.Env.{Env, variable_in}
use Rattle.bsv_context.specs.Methods.{method_from}
use Rattle.bsv_typing.specs.Places.{Instance, place_of}
use Rattle.bsv_typing.specs.Typing.{typed, term, instance_named}
use Rattle.bsv_context.specs.Written.{TypeNames, written, written_effect}
use Rattle.bsv_statements.specs.Returns.{returns}
use Rattle.bsv_scopes.specs.Scopes.{opened, closed, in_scope}
use Rattle.bsv_statements.specs.Bodies.{Or, ◌>=>◌, at, sure, Scopes, with_variable, with_scopes, Task, check, of_kind, declared_kind, assignable, in_head, all_runs, stmt_run}

-- a module as its makers see it: its number, the types of its parameters, and its interface
pub record Header : Type 0 where
  pub number : ℕ
  pub params : List Kind
  pub interface : Kind

-- what a module may name
pub record ModuleContext : Type 0 where
  pub env : Env
  pub types : TypeNames
  pub modules : List ℕ → Option Header
  -- the methods of the module's interface
  pub wanted : List Signature

-- what was typed so far: the open scopes, the rules in the order of the text, and the methods in the order of the
-- interface, where they stood already
pub record State : Type 0 where
  pub scopes : Scopes
  pub rules : List Rule
  pub methods : List (Option Method)

abbrev pub Run : Type 0
Run = State → Or (State × ModuleStmt)

abbrev pub done : State → ModuleStmt → Or (State × ModuleStmt)
done st x = Ok (st, x)

abbrev pub scoped : State → Scopes → State
scoped st ss = record st { scopes = ss }

-- module bodies are no actions
abbrev pub task : ModuleContext → Task
task site = record { env = site.env; types = site.types; acts = false; result = None; base = 0 }

-- ---- makers

abbrev pub if_instance_of : Kind → Instance → Option Argument
if_instance_of k i = if same_kind i.kind k then Some (argument.Instance (place_of i)) else None

-- an argument of this type: a value, or an instance that is in no brackets
abbrev pub handed : ModuleContext → Scopes → Written → Kind → Option Argument
handed site ss e k =
    if is_interface k then (instance_named (term (with_scopes site.env ss) e) >>= if_instance_of k)
    else (typed (with_scopes site.env ss) e (Some k) >>= λ m. Some (argument.Value m.expr))

abbrev pub all_handed : ModuleContext → Scopes → List Written → List Kind → Option (List Argument)
all_handed site ss [] [] = Some []
all_handed site ss (e ∷ es) (k ∷ ks) = handed site ss e k >>= λ x. all_handed site ss es ks >>= λ xs. Some (x ∷ xs)
all_handed site ss _ _ = None

abbrev pub made_by : Maker → List Argument → Make
made_by m xs = record { maker = m; arguments = xs }

-- what a given maker takes for an instance of this interface
abbrev pub given_params : GivenMaker → Kind → Option (List Kind)
given_params g (part p t) = if same_part p (made_part g) then Some (maker_params g t) else None
given_params g (bare p) = if same_part p (made_part g) then Some [] else None
given_params g _ = None

-- what a module takes for an instance of this interface
abbrev pub module_params : Header → Kind → Option (List Kind)
module_params h k = if same_kind h.interface k then Some h.params else None

-- what the given maker makes an instance of this interface from
abbrev pub given_arguments : ModuleContext → Scopes → GivenMaker → List Written → Kind → Option (List Argument)
given_arguments site ss g xs k = given_params g k >>= all_handed site ss xs

-- what the module makes an instance of this interface from
abbrev pub module_arguments : ModuleContext → Scopes → Header → List Written → Kind → Option (List Argument)
module_arguments site ss h xs k = module_params h k >>= all_handed site ss xs

-- what makes an instance of this interface
abbrev pub make_by : Maker → Option (List Argument) → Option Make
make_by m xs = xs >>= λ arguments. Some (made_by m arguments)

abbrev pub module_make : ModuleContext → Scopes → Option Header → List Written → Kind → Option Make
module_make site ss None xs k = None
module_make site ss (Some h) xs k = make_by (maker.Module h.number) (module_arguments site ss h xs k)

abbrev pub make_in : ModuleContext → Scopes → Option GivenMaker → Option Header → List Written → Kind → Option Make
make_in site ss (Some g) h xs k = make_by (maker.Given g) (given_arguments site ss g xs k)
make_in site ss None h xs k = module_make site ss h xs k

abbrev pub make_at : ModuleContext → Scopes → Span → WrittenMake → Kind → Or Make
make_at site ss s m k = at s (make_in site ss (given_maker m.maker.name) (site.modules m.maker.name) m.arguments k)

-- ---- bodies of rules, methods and functions

abbrev pub stmts_in : Task → Scopes → List InnerStmt → Or (Scopes × List Stmt)
stmts_in t ss xs = all_runs (map (stmt_run t) xs) ss

-- a body, and the scopes after it
abbrev pub InBody : Type 0
InBody = Scopes × Body

-- a body that gives a value: it returns in each path, once and last
abbrev pub value_body : Task → Span → Scopes → Kind → WrittenBody → Or InBody
value_body t s ss k (wbody.Statements p xs) = sure s (returns xs) true >=> λ once. stmts_in t ss xs >=> λ r. Ok (r.0, body.Statements r.1)
value_body t s ss k (wbody.Value p e) = of_kind t ss s e k >=> λ m. Ok (ss, body.Value m)

abbrev pub action_body : Task → Span → Scopes → WrittenBody → Or InBody
action_body t s ss (wbody.Statements p xs) = stmts_in t ss xs >=> λ r. Ok (r.0, body.Statements r.1)
action_body t s ss (wbody.Value p e) = Err s

-- the task of a body with this effect, whose variables begin at this level
abbrev pub task_of : Env → TypeNames → Effect → ℕ → Task
task_of env types (value k) base = record { env = env; types = types; acts = false; result = Some k; base = base }
task_of env types action base = record { env = env; types = types; acts = true; result = None; base = base }
task_of env types (action_value k) base = record { env = env; types = types; acts = true; result = Some k; base = base }

abbrev pub body_of : Env → TypeNames → Span → ℕ → Scopes → Effect → WrittenBody → Or InBody
body_of env types s base ss (value k) b = value_body (task_of env types (value k) base) s ss k b
body_of env types s base ss action b = action_body (task_of env types action base) s ss b
body_of env types s base ss (action_value k) b = value_body (task_of env types (action_value k) base) s ss k b

abbrev pub guard : Task → Span → Scopes → Option Written → Or (Option Expr)
guard t s ss None = Ok None
guard t s ss (Some e) = of_kind t ss s e bool >=> λ m. Ok (Some m)

-- ---- rules and methods

abbrev pub asked_by : Span → Owner → List WrittenAttribute → Or (List Attribute)
asked_by s o [] = Ok []
asked_by s o (a ∷ rest) = at s (attribute o a) >=> λ x. asked_by s o rest >=> λ xs. Ok (x ∷ xs)

abbrev pub asked : Span → Owner → List AttributeGroup → Or (List Attribute)
asked s o [] = Ok []
asked s o (g ∷ gs) = asked_by s o g.attributes >=> λ xs. asked s o gs >=> λ ys. Ok (xs ++ ys)

abbrev pub rule_made : WrittenRule → List Attribute → Option Expr → List Stmt → Rule
rule_made r attributes test xs = record { name = r.name.name; attributes = attributes; condition = test; body = xs }

-- the statements of a rule, in a scope of their own
abbrev pub rule_body : ModuleContext → List InnerStmt → Scopes → Or (Scopes × List Stmt)
rule_body site xs ss = stmts_in (task_of site.env site.types action (in_scope ss)) (opened ss) xs >=> λ r. Ok (closed r.0, r.1)

abbrev pub with_rule : State → Scopes → Rule → State
with_rule st ss r = record st { scopes = ss; rules = st.rules ++ r ∷ [] }

-- a rule whole, and the scopes after it
abbrev pub rule_at : ModuleContext → Span → WrittenRule → Scopes → Or (Scopes × Rule)
rule_at site s r ss =
    asked s owner.Rule r.attributes >=> λ attributes. sure s (is_lower r.name.name) true >=> λ named. guard (task site) s ss r.condition >=> λ test.
    rule_body site r.body ss >=> λ b. Ok (b.0, rule_made r attributes test b.1)

abbrev pub rule_case : ModuleContext → Span → WrittenRule → Run
rule_case site s r st = rule_at site s r st.scopes >=> λ x. done (with_rule st x.0 x.1) (RuleAt (length st.rules))

abbrev pub param : List ℕ → Kind → Param
param name k = record { name = name; ty = type_of k }

-- a parameter, of a type that passes the test
abbrev pub param_at : TypeNames → (Kind → Bool) → Span → WrittenParam → Or Param
param_at types p s x = at s (written types x.written) >=> λ k. sure s (p k) (param x.name.name k)

abbrev pub params_at : TypeNames → (Kind → Bool) → Span → List WrittenParam → Or (List Param)
params_at types p s [] = Ok []
params_at types p s (x ∷ xs) = param_at types p s x >=> λ y. params_at types p s xs >=> λ ys. Ok (y ∷ ys)

abbrev pub with_params : List Param → Scopes → Option Scopes
with_params [] ss = Some ss
with_params (p ∷ ps) ss = with_variable p.name (one (kind p.ty)) ss >>= with_params ps

-- Lower names, no two of them one
abbrev pub are_named : List Param → Bool
are_named ps = lower_names (param_names ps)

abbrev pub method_result : Effect → MethodResult
method_result (value k) = result.Value (type_of k)
method_result action = result.Action
method_result (action_value k) = result.ActionValue (type_of k)

-- the method of this number does not stand yet
abbrev pub is_free : ℕ → List (Option Method) → Bool
is_free number ms = is_empty (slice_get ms number) where
  is_empty : Option (Option Method) → Bool
  is_empty (Some None) = true
  is_empty _ = false

-- of any type
abbrev pub any_kind : Kind → Bool
any_kind k = true

-- a method that the interface wants has the same types
abbrev pub method_header : ModuleContext → Span → WrittenMethod → Signature → Or (List Param × Effect)
method_header site s m wanted =
    params_at site.types any_kind s m.params >=> λ ps. sure s (same_kinds (param_kinds ps) wanted.params && are_named ps) true >=> λ same.
    at s (written_effect site.types m.result) >=> λ e. sure s (same_effect e wanted.effect) (ps, e)

abbrev pub method_made : WrittenMethod → List Param → Effect → Option Expr → Body → Method
method_made m ps e test b = record { name = m.name.name; params = ps; result = method_result e; condition = test; body = b }

-- the body of a method, in the scope of its parameters
abbrev pub method_body : ModuleContext → Span → List Param → Effect → WrittenBody → Scopes → Or InBody
method_body site s ps e b ss = at s (with_params ps (opened ss)) >=> λ inner. body_of site.env site.types s (in_scope ss) inner e b >=> λ r. Ok (closed r.0, r.1)

-- the method of this name that the interface wants, and that does not stand yet
abbrev pub wanted_method : ModuleContext → Span → List ℕ → State → Or (ℕ × Signature)
wanted_method site s name st = at s (method_from 0 name site.wanted) >=> λ w. sure s (is_free w.0 st.methods) w

abbrev pub with_method : State → Scopes → ℕ → Method → State
with_method st ss number m = record st { scopes = ss; methods = slice_set st.methods number (Some m) }

-- a method whole, and the scopes after it; its arguments are not in scope in its condition
abbrev pub method_at : ModuleContext → Span → WrittenMethod → Signature → Scopes → Or (Scopes × Method)
method_at site s m wanted ss =
    method_header site s m wanted >=> λ h. guard (task site) s ss m.condition >=> λ test. method_body site s h.0 h.1 m.body ss >=> λ b. Ok (b.0, method_made m h.0 h.1 test b.1)

abbrev pub method_case : ModuleContext → Span → WrittenMethod → Run
method_case site s m st = wanted_method site s m.name.name st >=> λ w. method_at site s m w.1 st.scopes >=> λ x. done (with_method st x.0 w.0 x.1) (MethodAt w.0)

-- ---- statements

-- an array: its level, and the interface of its instances
abbrev pub array_named : Option (ℕ × Slot) → Option (ℕ × Kind)
array_named None = None
array_named (Some v) = each v.1 where
  each : Slot → Option (ℕ × Kind)
  each (one k) = None
  each (many k) = Some (v.0, k)

-- in a scope of its own
abbrev pub inside : Run → State → Or (State × ModuleStmt)
inside x st = x (scoped st (opened st.scopes)) >=> λ r. done (scoped r.0 (closed r.0.scopes)) r.1

abbrev pub all_in : List Run → State → Or (State × List ModuleStmt)
all_in [] st = Ok (st, [])
all_in (x ∷ xs) st = x st >=> λ r. all_in xs r.0 >=> λ rs. Ok (rs.0, r.1 ∷ rs.1)

-- an arm, and the condition in front of it
pub record Arm : Type 0 where
  pub condition : Written
  pub run : Run

-- the conditions of an `if` are where it stands, so they come before what is in its arms
abbrev pub conditions : ModuleContext → Scopes → Span → List Arm → Or (List Expr)
conditions site ss s [] = Ok []
conditions site ss s (x ∷ xs) = of_kind (task site) ss s x.condition bool >=> λ m. conditions site ss s xs >=> λ ms. Ok (m ∷ ms)

abbrev pub branch : Expr → ModuleStmt → ModuleBranch
branch m x = roll-ModuleBranch (record { condition = m; arm = x })

abbrev pub arms : List Expr → List Arm → State → Or (State × List ModuleBranch)
arms (m ∷ ms) (x ∷ xs) st = inside x.run st >=> λ r. arms ms xs r.0 >=> λ rs. Ok (rs.0, branch m r.1 ∷ rs.1)
arms _ _ st = Ok (st, [])

abbrev pub last_arm : Option Run → State → Or (State × Option ModuleStmt)
last_arm None st = Ok (st, None)
last_arm (Some x) st = inside x st >=> λ r. Ok (r.0, Some r.1)

abbrev pub if_case : ModuleContext → Span → List Arm → Option Run → Run
if_case site s xs otherwise st = conditions site st.scopes s xs >=> λ ms. arms ms xs st >=> λ bs. last_arm otherwise bs.0 >=> λ o. done o.0 (If bs.1 o.1)

abbrev pub block_case : List Run → Run
block_case xs st = all_in xs (scoped st (opened st.scopes)) >=> λ r. done (scoped r.0 (closed r.0.scopes)) (Block r.1)

-- the interface of an instance that is declared
abbrev pub interface_at : ModuleContext → Span → WrittenType → Or Kind
interface_at site s t = at s (written site.types t) >=> λ k. sure s (is_interface k) k

abbrev pub lower_name : Span → List ℕ → Or (List ℕ)
lower_name s name = sure s (is_lower name) name

-- a variable, an instance or an array of instances more
abbrev pub with_slot : Span → List ℕ → Slot → State → Or State
with_slot s name slot st = at s (with_variable name slot st.scopes) >=> λ ss. Ok (scoped st ss)

abbrev pub instance_case : ModuleContext → Span → WrittenType → List ℕ → WrittenMake → Run
instance_case site s t name m st =
    interface_at site s t >=> λ k. make_at site st.scopes s m k >=> λ made. lower_name s name >=> λ own.
    with_slot s name (one k) st >=> λ next. done next (InstanceAt (type_of k) own made)

-- how many instances an array has
unfoldable pub count_at : ModuleContext → Span → Scopes → Written → Or Expr
count_at site s ss e = of_kind (task site) ss s e integer

abbrev pub array_case : ModuleContext → Span → WrittenType → List ℕ → Written → Run
array_case site s t name e st =
    interface_at site s t >=> λ k. count_at site s st.scopes e >=> λ n. lower_name s name >=> λ own.
    with_slot s name (many k) st >=> λ next. done next (Array (type_of k) own n)

abbrev pub place_case : ModuleContext → Span → List ℕ → Written → WrittenMake → Run
place_case site s name e m st =
    of_kind (task site) st.scopes s e integer >=> λ i. at s (array_named (variable_in st.scopes name)) >=> λ a. make_at site st.scopes s m a.1 >=> λ made.
    done st (Place a.0 i made)

abbrev pub declare_case : ModuleContext → Span → InnerDeclaration → Run
declare_case site s d st =
    declared_kind (task site) s d.declared >=> λ want. at s (check (task site) st.scopes d.value want) >=> λ m. lower_name s d.name.name >=> λ own.
    with_slot s d.name.name (one m.kind) st >=> λ next. done next (Declare (type_of m.kind) own m.expr)

abbrev pub assign_case : ModuleContext → Span → List ℕ → Written → Run
assign_case site s name e st = at s (assignable (task site) st.scopes name) >=> λ v. of_kind (task site) st.scopes s e v.1 >=> λ m. done st (Assign v.0 m)

abbrev pub for_case : ModuleContext → Span → InnerHead → Run → Run
for_case site s h x st = in_head (task site) s h st.scopes >=> λ l. x (scoped st l.0) >=> λ r. done (scoped r.0 (closed r.0.scopes)) (For l.1 r.1)

-- a statement in a block, a branch or a loop: there no method stands
abbrev pub stmt_step : ModuleContext → ModuleStmt-F Run Arm → Run
stmt_step site (ModuleStmt-F.Instance s t name m) = instance_case site s t name.name m
stmt_step site (ModuleStmt-F.Array s t name e) = array_case site s t name.name e
stmt_step site (ModuleStmt-F.Place s name e m) = place_case site s name.name e m
stmt_step site (ModuleStmt-F.Declare s d) = declare_case site s d
stmt_step site (ModuleStmt-F.Assign s name e) = assign_case site s name.name e
stmt_step site (ModuleStmt-F.Block s xs) = block_case xs
stmt_step site (ModuleStmt-F.If s xs otherwise) = if_case site s xs otherwise
stmt_step site (ModuleStmt-F.For s h x) = for_case site s h x
stmt_step site (ModuleStmt-F.Rule s r) = rule_case site s r
stmt_step site (ModuleStmt-F.Method s m) = λ st. Err s

abbrev pub arm_step : ModuleBranch-F Run Arm → Arm
arm_step b = record { condition = b.condition; run = b.arm }

abbrev pub nested : ModuleContext → WrittenStmt → Run
nested site = fold-ModuleStmt Run Arm (stmt_step site) arm_step

-- a statement that stands directly in the body
abbrev pub direct_step : ModuleContext → Run → ModuleStmt-F WrittenStmt WrittenBranch → Run
direct_step site x (ModuleStmt-F.Method s m) = method_case site s m
direct_step site x _ = x

abbrev pub direct : ModuleContext → WrittenStmt → Run
direct site x = direct_step site (nested site x) (out-ModuleStmt x)

-- one list after the other
abbrev pub together : List (List (List ℕ)) → List (List ℕ)
together [] = []
together (xs ∷ xss) = xs ++ together xss

abbrev pub last_names : Option (List (List ℕ)) → List (List ℕ)
last_names None = []
last_names (Some xs) = xs

abbrev pub names_step : ModuleStmt-F (List (List ℕ)) (List (List ℕ)) → List (List ℕ)
names_step (ModuleStmt-F.Method s m) = m.name.name ∷ []
names_step (ModuleStmt-F.Block s xs) = together xs
names_step (ModuleStmt-F.If s branches otherwise) = together branches ++ last_names otherwise
names_step (ModuleStmt-F.For s h x) = x
names_step _ = []

-- the names of the methods of a statement, also of those in it
abbrev pub stmt_names : WrittenStmt → List (List ℕ)
stmt_names = fold-ModuleStmt (List (List ℕ)) (List (List ℕ)) names_step (λ b. b.arm)

abbrev pub branch_names : WrittenBranch → List (List ℕ)
branch_names = fold-ModuleBranch (List (List ℕ)) (List (List ℕ)) names_step (λ b. b.arm)

-- the names of the methods that stand anywhere in the body; one that is in a block has a fault of its own
abbrev pub method_names : List WrittenStmt → List (List ℕ)
method_names xs = together (map stmt_names xs)

-- the methods of these names, by their numbers
abbrev pub marked : Option (ℕ × Signature) → List Bool → List Bool
marked None bs = bs
marked (Some w) bs = slice_set bs w.0 true

abbrev pub all_marked : List Signature → List (List ℕ) → List Bool → List Bool
all_marked wanted [] bs = bs
all_marked wanted (name ∷ names) bs = all_marked wanted names (marked (method_from 0 name wanted) bs)

-- each method that is wanted is in the body
abbrev pub defines_all : List Signature → List WrittenStmt → Bool
defines_all wanted xs = list_all (λ b. b) (all_marked wanted (method_names xs) (replicate (length wanted) false))
