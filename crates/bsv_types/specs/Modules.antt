-- When a statement of a module, and a module whole, keeps its rules (Bluespec reference guide, "Module
-- definitions").
use Rattle.std.specs.Prelude.{ℕ, ◌+◌, ◌==◌, nat_lt, Bool, true, false, ◌&&◌, ◌||◌, not, List, [], ◌∷◌, ◌++◌, map, length, slice_get, Option, Some, None}
use Rattle.std.specs.List.{list_all, list_any}
use Rattle.std.specs.Str.{bytes_eq}
use Rattle.bsv_ast.specs.Names.{is_lower}
use Rattle.bsv_types.specs.declared.expressions.Expr.{Expr}
use Rattle.bsv_types.specs.declared.makers.Make.{Make}
use Rattle.bsv_types.specs.declared.makers.Maker.{Maker}
use Rattle.bsv_types.specs.declared.makers.Maker.TheVariants as maker
use Rattle.bsv_types.specs.declared.makers.GivenMaker.{GivenMaker}
use Rattle.bsv_types.specs.declared.makers.Argument.{Argument}
use Rattle.bsv_types.specs.declared.makers.Argument.TheVariants as argument
use Rattle.bsv_types.specs.declared.definitions.Param.{Param}
use Rattle.bsv_types.specs.declared.modules.Rule.{Rule}
use Rattle.bsv_types.specs.declared.modules.Method.{Method}
use Rattle.bsv_types.specs.declared.modules.Module.{Module}
use Rattle.bsv_types.specs.declared.modules.ModuleStmt.{ModuleStmt, fold-ModuleStmt, out-ModuleStmt}
use Rattle.bsv_types.specs.declared.modules.ModuleStmt.TheOpen.{ModuleStmt-F, ModuleBranch-F}
use Rattle.bsv_types.specs.declared.modules.ModuleBranch.{ModuleBranch}
use Rattle.bsv_types.specs.Kinds.{Kind, bool, integer, part, bare, kind, same_kind, same_part}
use Rattle.bsv_types.specs.Shapes.{is_value, is_instance}
use Rattle.bsv_types.specs.Operators.{◌>>=◌, is_kind, same_kinds}
use Rattle.bsv_types.specs.Methods.{Signature, effect, same_effect, param_kinds, methods, made_part, maker_params}
use Rattle.bsv_types.specs.Expressions.{Frame, one, many, World, many_at, has_type, place_typing}
use Rattle.bsv_types.specs.Statements.{Run, if_right, run, inner, all_inner, inner_too, assigns, in_loop, acts_right, body_right}
use Rattle.bsv_types.specs.Names.{lower_names, countable, of_module, of_rule}

-- a module as its instances see it: the types of its parameters, and its interface
abbrev pub Header : Type 0
Header = List Kind × Kind

abbrev pub header : Module → Header
header m = (param_kinds m.params, kind m.interface)

-- what a statement of a module may name beside variables
pub record ModuleContext : Type 0 where
  pub world : World
  pub headers : List Header
  pub rules : List Rule
  pub methods : List Method
  -- the methods of the module's interface
  pub wanted : List Signature

abbrev pub argument_right : World → Frame → Argument → Kind → Bool
argument_right w frame (argument.Value e) k = is_value w.shapes k && has_type w frame e k
argument_right w frame (argument.Instance place) k = is_instance w.shapes k && is_kind (place_typing w place frame) k

abbrev pub arguments_right : World → Frame → List Argument → List Kind → Bool
arguments_right w frame [] [] = true
arguments_right w frame (x ∷ xs) (k ∷ ks) = argument_right w frame x k && arguments_right w frame xs ks
arguments_right w frame _ _ = false

-- the given maker makes an instance of this type from these arguments
abbrev pub given_makes : World → Frame → GivenMaker → List Argument → Kind → Bool
given_makes w frame g xs (part p t) = same_part p (made_part g) && arguments_right w frame xs (maker_params g t)
given_makes w frame g xs (bare p) = same_part p (made_part g) && arguments_right w frame xs []
given_makes w frame g xs _ = false

abbrev pub module_makes : World → Frame → Option Header → List Argument → Kind → Bool
module_makes w frame None xs k = false
module_makes w frame (Some h) xs k = same_kind h.1 k && arguments_right w frame xs h.0

abbrev pub makes : ModuleContext → Frame → Make → Kind → Bool
makes site frame m k = by m.maker where
  by : Maker → Bool
  by (maker.Given g) = given_makes site.world frame g m.arguments k
  by (maker.Module number) = module_makes site.world frame (slice_get site.headers number) m.arguments k

abbrev pub param_names : List Param → List (List ℕ)
param_names ps = map (λ p. p.name) ps

abbrev pub param_slots : List Param → Frame
param_slots ps = map (λ p. one (kind p.ty)) ps

-- a condition, where there is one, is a Bool
abbrev pub condition_right : World → Frame → Option Expr → Bool
condition_right w frame None = true
condition_right w frame (Some e) = has_type w frame e bool

abbrev pub rule_right : World → Frame → Option Rule → Bool
rule_right w frame None = false
rule_right w frame (Some r) =
    is_lower r.name && list_all of_rule r.attributes && condition_right w frame r.condition && acts_right w (length frame) frame r.body

-- the method that the interface wants
abbrev pub method_right : World → Frame → Option Signature → Option Method → Bool
method_right w frame (Some s) (Some m) =
    bytes_eq m.name s.name && is_lower m.name && lower_names (param_names m.params) && same_kinds (param_kinds m.params) s.params && same_effect (effect m.result) s.effect && condition_right w frame m.condition && body_right w (length frame) (frame ++ param_slots m.params) s.effect m.body
method_right w frame _ _ = false

-- a place in an array, and what is made there
abbrev pub place_right : ModuleContext → Frame → ℕ → Expr → Make → Bool
place_right site frame level index m = has_type site.world frame index integer && of (many_at frame level) where
  of : Option Kind → Bool
  of None = false
  of (Some k) = makes site frame m k

abbrev pub module_stmt_step : ModuleContext → ModuleStmt-F Run Run → Run
module_stmt_step site (ModuleStmt-F.Instance t name m) frame = if_right (is_instance site.world.shapes (kind t) && is_lower name && makes site frame m (kind t)) (frame ++ one (kind t) ∷ [])
module_stmt_step site (ModuleStmt-F.Array t name e) frame = if_right (is_instance site.world.shapes (kind t) && is_lower name && has_type site.world frame e integer) (frame ++ many (kind t) ∷ [])
module_stmt_step site (ModuleStmt-F.Place level index m) frame = if_right (place_right site frame level index m) frame
module_stmt_step site (ModuleStmt-F.Declare t name e) frame = if_right (is_value site.world.shapes (kind t) && is_lower name && has_type site.world frame e (kind t)) (frame ++ one (kind t) ∷ [])
module_stmt_step site (ModuleStmt-F.Assign level e) frame = if_right (assigns site.world 0 frame level e) frame
module_stmt_step site (ModuleStmt-F.Block xs) frame = if_right (inner (run xs) frame) frame
module_stmt_step site (ModuleStmt-F.If bs otherwise) frame = if_right (all_inner bs frame && inner_too otherwise frame) frame
module_stmt_step site (ModuleStmt-F.For head x) frame = if_right (inner (λ f. in_loop site.world 0 head f >>= x) frame) frame
module_stmt_step site (ModuleStmt-F.Rule number) frame = if_right (rule_right site.world frame (slice_get site.rules number)) frame
module_stmt_step site (ModuleStmt-F.Method number) frame = if_right (method_right site.world frame (slice_get site.wanted number) (slice_get site.methods number)) frame

abbrev pub module_branch_step : ModuleContext → ModuleBranch-F Run Run → Run
module_branch_step site b frame = if_right (has_type site.world frame b.condition bool) frame >>= b.arm

abbrev pub module_stmt_run : ModuleContext → ModuleStmt → Run
module_stmt_run site = fold-ModuleStmt Run Run (module_stmt_step site) (module_branch_step site)

abbrev pub or_empty : Option (List ℕ) → List ℕ
or_empty None = []
or_empty (Some xs) = xs

abbrev pub concatenated : List (List ℕ) → List ℕ
concatenated [] = []
concatenated (xs ∷ xss) = xs ++ concatenated xss

-- the numbers that statements name, in the order of the text, where `own` tells those of one without parts
abbrev pub numbers_step : (ModuleStmt-F (List ℕ) (List ℕ) → List ℕ) → ModuleStmt-F (List ℕ) (List ℕ) → List ℕ
numbers_step own (ModuleStmt-F.Block xs) = concatenated xs
numbers_step own (ModuleStmt-F.If bs otherwise) = concatenated bs ++ or_empty otherwise
numbers_step own (ModuleStmt-F.For head x) = x
numbers_step own x = own x

abbrev pub own_rule : ModuleStmt-F (List ℕ) (List ℕ) → List ℕ
own_rule (ModuleStmt-F.Rule number) = number ∷ []
own_rule _ = []

abbrev pub own_method : ModuleStmt-F (List ℕ) (List ℕ) → List ℕ
own_method (ModuleStmt-F.Method number) = number ∷ []
own_method _ = []

abbrev pub rules_of : List ModuleStmt → List ℕ
rules_of xs = concatenated (map (fold-ModuleStmt (List ℕ) (List ℕ) (numbers_step own_rule) (λ b. b.arm)) xs)

abbrev pub methods_in : List ModuleStmt → List ℕ
methods_in xs = concatenated (map (fold-ModuleStmt (List ℕ) (List ℕ) (numbers_step own_method) (λ b. b.arm)) xs)

-- the methods that stand directly in the body
abbrev pub direct : List ModuleStmt → List ℕ
direct [] = []
direct (x ∷ xs) = own (out-ModuleStmt x) ++ direct xs where
  own : ModuleStmt-F ModuleStmt ModuleBranch → List ℕ
  own (ModuleStmt-F.Method number) = number ∷ []
  own _ = []

-- the numbers from `first` on, so many of them, in order
abbrev pub counts_up : ℕ → List ℕ → Bool
counts_up first [] = true
counts_up first (x ∷ xs) = x == first && counts_up (first + 1) xs

-- no number twice, and none from `limit` on
abbrev pub each_once : ℕ → List ℕ → Bool
each_once limit [] = true
each_once limit (x ∷ xs) = nat_lt x limit && not (list_any (λ y. x == y) xs) && each_once limit xs

-- rules are numbered in the order of the text; each method is once, directly in the body
abbrev pub numbers_right : Module → Bool
numbers_right m =
    counts_up 0 (rules_of m.body) && length (rules_of m.body) == length m.rules &&
    each_once (length m.methods) (direct m.body) && length (direct m.body) == length m.methods && length (methods_in m.body) == length m.methods

abbrev pub site_of : World → List Header → Module → ModuleContext
site_of w headers m = record { world = w; headers = headers; rules = m.rules; methods = m.methods; wanted = methods w.shapes (kind m.interface) }

abbrev pub param_right : World → Param → Bool
param_right w p = is_value w.shapes (kind p.ty) || is_instance w.shapes (kind p.ty)

abbrev pub module_right : World → List Header → Module → Bool
module_right w headers m =
    is_lower m.name && list_all of_module m.attributes && lower_names (param_names m.params) && list_all (param_right w) m.params &&
    is_instance w.shapes (kind m.interface) && length m.methods == length (methods w.shapes (kind m.interface)) && countable m.rules && countable m.methods &&
    numbers_right m && inner (run (map (module_stmt_run (site_of w headers m)) m.body)) (param_slots m.params)
