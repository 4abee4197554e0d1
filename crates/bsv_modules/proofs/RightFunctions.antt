-- What a function is typed as is in order, where the functions that it may call are in the world.
use Rattle.std.proofs.Common.{◌≡◌, ℕ, Bool, true, false, ◌&&◌, List, [], ◌∷◌, map, take, Ok, refl, sym, subst}
use Rattle.std.specs.List.{list_all}
use Rattle.std.proofs.lemmas.Bool.{and_parts, and_from}
use Rattle.bsv_ast.specs.Names.{is_lower}
use Rattle.bsv_ast.specs.declared.package.Function.{Function as Written}
use Rattle.bsv_types.specs.declared.definitions.Body.{Body}
use Rattle.bsv_types.specs.declared.definitions.Function.{Function}
use Rattle.bsv_types.specs.declared.definitions.Param.{Param}
use Rattle.bsv_types.specs.Kinds.{Kind, kind}
use Rattle.bsv_types.specs.Shapes.{Shapes, is_value}
use Rattle.bsv_types.specs.Methods.{value, param_kinds}
use Rattle.bsv_types.specs.Expressions.{World}
use Rattle.bsv_types.specs.Names.{lower_names}
use Rattle.bsv_types.specs.Statements.{gives_body}
use Rattle.bsv_types.specs.Modules.{param_names, param_slots}
use Rattle.bsv_types.specs.Programs.{call_of, function_right}
use Rattle.bsv_context.specs.Env.{is_typed_value}
use Rattle.bsv_statements.specs.Bodies.{Scopes}
use Rattle.bsv_typing.specs.Laws.{FitsWorld}
use Rattle.bsv_typing.proofs.Typings.{kind_back}
use Rattle.bsv_typing.proofs.RightOperands.{strict_value}
use Rattle.bsv_typing.proofs.RightExpressions.{ground_is}
use Rattle.bsv_statements.proofs.RightStatements.{value_slot_right}
use Rattle.bsv_statements.proofs.RightCalls.{ok_is, went, passed, at_is}
use Rattle.bsv_modules.specs.Modules.{InBody, params_at, with_params, are_named, task_of, value_body}
use Rattle.bsv_modules.specs.Programs.{Program, type_names, env_of, value_kind, function_header, function_made, is_function, param_scopes, function_case, written_at, value_params, function_body}
use Rattle.bsv_modules.proofs.RightElements.{value_right}
use Rattle.bsv_modules.proofs.RightMethods.{sure_is, EachKind, params_are, SlotRight, params_in}
use Rattle.bsv_modules.proofs.RightModules.{no_variables}

-- the functions before one, and the types, are the world in which it is in order
abbrev pub world_before : Shapes → List Function → ℕ → World
world_before s fs number = record { shapes = s; functions = map call_of (take number fs) }

abbrev IsValue : Shapes → Kind → Type 0
IsValue s k = is_value s k ≡ true

slots_of : (s : Shapes) (ps : List Param) → EachKind (IsValue s) ps → EachKind (SlotRight s) ps
slots_of s [] each = tt
slots_of s (p ∷ ps) each = (value_slot_right s (kind p.ty) each.0, slots_of s ps each.1)

all_values : (s : Shapes) (ps : List Param) → EachKind (IsValue s) ps → list_all (is_value s) (param_kinds ps) ≡ true
all_values s [] each = refl
all_values s (p ∷ ps) each = and_from (is_value s (kind p.ty)) (list_all (is_value s) (param_kinds ps)) each.0 (all_values s ps each.1)

module _ (p : Program) (number : ℕ) (w : World) (fits : FitsWorld (env_of p number) w) where
  value_is : (k : Kind) → value_kind p k ≡ true → is_value w.shapes k ≡ true
  unfolding env_of
  value_is k e = strict_value w k (subst (λ g. is_typed_value g k ≡ true) (ground_is (env_of p number) w fits) e)

  record HeaderRight (f : Written) (h : List Param × Kind) : Type 0 where
    pub lower : is_lower f.name.name ≡ true
    pub names : lower_names (param_names h.0) ≡ true
    pub values : EachKind (IsValue w.shapes) h.0
    pub result : is_value w.shapes h.1 ≡ true

  header_right : (f : Written) (h : List Param × Kind) → function_header p f ≡ Ok h → HeaderRight f h
  unfolding function_header value_params
  header_right f h e =
      let k = went (written_at f.span f.result p.types) _ h e in
      let ps = went (params_at (type_names p.types) (value_kind p) f.span f.params) _ h k.2 in
      let c = sure_is f.span (is_lower f.name.name && value_kind p k.0 && are_named ps.0) (ps.0, k.0) h ps.2 in
      let a = and_parts (is_lower f.name.name && value_kind p k.0) (are_named ps.0) c.0 in
      let b = and_parts (is_lower f.name.name) (value_kind p k.0) a.0 in
      let values = params_are (type_names p.types) (value_kind p) (IsValue w.shapes) (λ t j is passes. value_is j passes) f.span f.params ps.0 ps.1 in
      subst (HeaderRight f) c.1 (record { lower = b.0; names = a.1; values = values; result = value_is k.0 b.1 })

  body_is : (f : Written) (h : List Param × Kind) (inner : Scopes) (b : InBody) → EachKind (IsValue w.shapes) h.0 → param_scopes f.span h.0 ≡ Ok inner →
      value_body (task_of (env_of p number) (type_names p.types) (value h.1) 0) f.span inner h.1 f.body ≡ Ok b → gives_body w false 0 (param_slots h.0) h.1 b.1 ≡ true
  body_is f h inner b values opens e =
      let params = params_in w.shapes h.0 ([] ∷ []) inner (slots_of w.shapes h.0 values) (no_variables w.shapes) (at_is f.span (with_params h.0 ([] ∷ [])) inner opens) in
      let right = (value_right (task_of (env_of p number) (type_names p.types) (value h.1) 0) w fits f.span inner h.1 f.body b refl params.fit e).0 in
      subst (λ frame. gives_body w false 0 frame h.1 b.1 ≡ true) params.frame right

  -- what a function has to keep, where its result is of this type
  abbrev tested : Function → Kind → Bool
  tested x k =
      is_lower x.name && lower_names (param_names x.params) && list_all (is_value w.shapes) (param_kinds x.params) && is_value w.shapes k && gives_body w false 0 (param_slots x.params) k x.body

  made_right : (f : Written) (h : List Param × Kind) (b : Body) → HeaderRight f h → gives_body w false 0 (param_slots h.0) h.1 b ≡ true → tested (function_made f h.0 h.1 b) (kind (function_made f h.0 h.1 b).result) ≡ true
  made_right f h b header gives =
      subst (λ k. tested (function_made f h.0 h.1 b) k ≡ true) (sym (kind_back h.1))
      (and_from _ (gives_body w false 0 (param_slots h.0) h.1 b) (and_from _ (is_value w.shapes h.1) (and_from _ (list_all (is_value w.shapes) (param_kinds h.0)) (and_from (is_lower f.name.name) (lower_names (param_names h.0)) header.lower header.names)
      (all_values w.shapes h.0 header.values)) header.result) gives)

  function_body_right : (f : Written) (h : List Param × Kind) (b : Body) → HeaderRight f h → function_body p number f.span h.0 h.1 f.body ≡ Ok b → gives_body w false 0 (param_slots h.0) h.1 b ≡ true
  unfolding function_body
  function_body_right f h b header e =
      let inner = went (param_scopes f.span h.0) _ b e in
      let r = went (value_body (task_of (env_of p number) (type_names p.types) (value h.1) 0) f.span inner.0 h.1 f.body) (λ r. Ok r.1) b inner.2 in
      subst (λ y. gives_body w false 0 (param_slots h.0) h.1 y ≡ true) (ok_is r.0.1 b r.2) (body_is f h inner.0 r.0 header.values inner.1 r.1)

  case_right : (f : Written) (x : Function) → function_case p number f ≡ Ok x → tested x (kind x.result) ≡ true
  case_right f x e =
      let h = went (function_header p f) _ x e in
      let own = passed f.span (is_function p f.name.name number) true _ x h.2 in
      let b = went (function_body p number f.span h.0.0 h.0.1 f.body) (λ b. Ok (function_made f h.0.0 h.0.1 b)) x own.1 in
      let header = header_right f h.0 h.1 in
      subst (λ y. tested y (kind y.result) ≡ true) (ok_is (function_made f h.0.0 h.0.1 b.0) x b.2) (made_right f h.0 b.0 header (function_body_right f h.0 b.0 header b.1))

-- a function calls only functions before it
pub functions_right : (p : Program) (s : Shapes) (fs : List Function) (number : ℕ) → FitsWorld (env_of p number) (world_before s fs number) → (f : Written) (x : Function) → function_case p number f ≡ Ok x → function_right s fs number x ≡ true
functions_right p s fs number fits f x e = case_right p number (world_before s fs number) fits f x e
