-- What a module is typed as is in order.
use Rattle.std.proofs.Common.{◌≡◌, ◌∙◌, ℕ, Bool, true, ◌&&◌, List, [], ◌∷◌, map, length, Some, None, Ok, refl, sym, ap, subst, arith}
use Rattle.std.specs.Prelude.{◌==◌, slice_get}
use Rattle.std.specs.List.{list_all}
use Rattle.std.proofs.lemmas.Bool.{eq-eqb, and_parts, and_from}
use Rattle.std.proofs.lemmas.List.{length-map}
use Rattle.bsv_ast.specs.Names.{is_lower}
use Rattle.bsv_ast.specs.declared.modules.Module.{Module as Written}
use Rattle.bsv_types.specs.declared.asked.Owner.TheVariants as owner
use Rattle.bsv_types.specs.declared.attributes.Attribute.{Attribute}
use Rattle.bsv_types.specs.declared.definitions.Param.{Param}
use Rattle.bsv_types.specs.declared.modules.Rule.{Rule}
use Rattle.bsv_types.specs.declared.modules.Method.{Method}
use Rattle.bsv_types.specs.declared.modules.Module.{Module}
use Rattle.bsv_types.specs.declared.modules.ModuleStmt.{ModuleStmt}
use Rattle.bsv_types.specs.Kinds.{Kind, kind, is_interface}
use Rattle.bsv_types.specs.Shapes.{Shapes, is_instance}
use Rattle.bsv_types.specs.Methods.{methods}
use Rattle.bsv_types.specs.Expressions.{one, World}
use Rattle.bsv_types.specs.Names.{lower_names, countable, of_module}
use Rattle.bsv_types.specs.Statements as typed
use Rattle.bsv_types.specs.Modules as rules
use Rattle.bsv_types.specs.Modules.{param_names, param_slots, param_right}
use Rattle.bsv_statements.specs.Bodies.{Or, Scopes}
use Rattle.bsv_typing.specs.Laws.{slot_right}
use Rattle.bsv_statements.specs.Laws.{frame_of, ScopesFit}
use Rattle.bsv_typing.proofs.Typings.{kind_back}
use Rattle.bsv_typing.proofs.RightPlaces.{instance_slot}
use Rattle.bsv_statements.proofs.RightCalls.{ok_is, went, passed, at_is}
use Rattle.bsv_typing.proofs.RightExpressions.{ground_is}
use Rattle.bsv_statements.proofs.RightBlocks.{inner_true}
use Rattle.bsv_modules.specs.Laws.{FitsProgram}
use Rattle.bsv_modules.specs.Modules.{State, asked, params_at, with_params, are_named, all_in, direct, defines_all}
use Rattle.bsv_modules.specs.Programs.{Program, type_names, param_scopes, param_kind, module_header, site_of, is_module, all_there, Parts, module_made, opening_state, module_body, module_parts, module_params, site_at, env_of, written_at, module_case}
use Rattle.bsv_modules.proofs.RightSites.{FitsSite, written_right}
use Rattle.bsv_modules.proofs.WrittenAt.{written_is}
use Rattle.bsv_modules.proofs.RightAttributes.{asked_right}
use Rattle.bsv_modules.proofs.RightMethods.{sure_is, EachKind, params_are, ParamsIn, SlotRight, params_in, methods_lower}
use Rattle.bsv_modules.proofs.RightStates.{Later, run_in}
use Rattle.bsv_modules.proofs.RightNested.{all_ran}
use Rattle.bsv_modules.proofs.RightStatementsOfModules.{all_good}
use Rattle.bsv_modules.proofs.MethodPlaces.{none_stand, there_all}
use Rattle.bsv_modules.proofs.NumbersOfModules.{all_direct}

-- ---- what a module may name

pub site_fits : (p : Program) (w : World) (headers : List rules.Header) (k : Kind) → FitsProgram p w headers → FitsSite (site_of p k) w headers
unfolding site_at env_of type_names
site_fits p w headers k fits = record {
  world = fits.world;
  limits = ground_is _ w fits.world;
  types = fits.types;
  modules = fits.modules;
  lower = λ n q is. methods_lower w.shapes k n q fits.world.right (subst (λ s. slice_get (methods s k) n ≡ Some q) fits.world.shapes is);
}

-- ---- the header of a module

-- no scope but one, with no variable in it
pub no_variables : (s : Shapes) → ScopesFit s ([] ∷ [])
no_variables s = record { placed = (tt, tt); slots = λ level slot is. absurd cc }

module _ (p : Program) (w : World) (headers : List rules.Header) (fits : FitsProgram p w headers) where
  abbrev ParamRight : Kind → Type 0
  ParamRight k = slot_right w.shapes (one k) ≡ true

  record HeaderRight (m : Written) (h : List Param × Kind) : Type 0 where
    pub lower : is_lower m.name.name ≡ true
    pub names : lower_names (param_names h.0) ≡ true
    pub slots : EachKind (SlotRight w.shapes) h.0
    pub instance : is_instance w.shapes h.1 ≡ true

  header_right : (m : Written) (h : List Param × Kind) → module_header p m ≡ Ok h → HeaderRight m h
  unfolding module_header module_params site_at
  header_right m h e =
      let ps = went (params_at (type_names p.types) (param_kind p) m.span m.params) _ h e in
      let k = went (written_at m.span m.interface p.types) _ h ps.2 in
      let c = sure_is m.span (is_lower m.name.name && is_interface k.0 && are_named ps.0) (ps.0, k.0) h k.2 in
      let a = and_parts (is_lower m.name.name && is_interface k.0) (are_named ps.0) c.0 in
      let b = and_parts (is_lower m.name.name) (is_interface k.0) a.0 in
      let site = site_of p k.0 in
      let right = written_right site w headers (site_fits p w headers k.0 fits) in
      let slots = params_are (type_names p.types) (param_kind p) (SlotRight w.shapes) (λ t j is passes. right t j is) m.span m.params ps.0 ps.1 in
      subst (HeaderRight m) c.1 (record { lower = b.0; names = a.1; slots = slots; instance = instance_slot w.shapes k.0 b.1 (right m.interface k.0 (written_is m.span m.interface p.types k.0 k.1)) })

  params_right : (ps : List Param) → EachKind (SlotRight w.shapes) ps → list_all (param_right w) ps ≡ true
  params_right [] each = refl
  params_right (x ∷ ps) each = and_from (param_right w x) (list_all (param_right w) ps) each.0 (params_right ps each.1)

  -- ---- the body

  record BodyRight (k : Kind) (ps : List Param) (rs : List Rule) (ms : List Method) (xs : List ModuleStmt) : Type 0 where
    pub right : typed.inner (typed.run (map (run_in w headers (methods w.shapes k) rs ms) xs)) (param_slots ps) ≡ true
    pub up : rules.counts_up 0 (rules.rules_of xs) ≡ true
    pub rule_count : length (rules.rules_of xs) ≡ length rs
    pub once : rules.each_once (length ms) (rules.direct xs) ≡ true
    pub direct_count : length (rules.direct xs) ≡ length ms
    pub method_count : length (rules.methods_in xs) ≡ length ms
    pub wanted_count : length ms ≡ length (methods w.shapes k)

  body_right : (m : Written) (k : Kind) (ps : List Param) (inner : Scopes) (q : State × List ModuleStmt) (ms : List Method) → ParamsIn w.shapes ps ([] ∷ []) inner → module_body (site_of p k) m inner ≡ Ok q →
      all_there m.span q.0.methods ≡ Ok ms → BodyRight k ps q.0.rules ms q.1
  unfolding module_body site_at env_of
  body_right m k ps inner q ms params e every =
      let site = site_of p k in
      let st = opening_state site inner in
      let run_is = passed m.span (defines_all site.wanted m.body) st (all_in (map (direct site) m.body)) q e in
      let site_fit = site_fits p w headers k fits in
      let h = all_ran w headers site.wanted (map (direct site) m.body) st q (all_good site w headers site_fit m.body) params.fit run_is.1 in
      let g = all_direct site m.body st q run_is.1 in
      let a = there_all m.span q.0.methods ms every in
      let later : Later q.0.rules q.0.methods q.0.rules ms = record { rules = λ n r is. is; methods = a.there } in
      let wanted = ap (λ s. methods s k) fits.world.shapes in
      let ran = subst (λ ws. typed.run (map (run_in w headers ws q.0.rules ms) q.1) (frame_of inner) ≡ Some (frame_of q.0.scopes)) wanted (h.right q.0.rules ms later) in
      let framed = subst (λ f. typed.run (map (run_in w headers (methods w.shapes k) q.0.rules ms) q.1) f ≡ Some (frame_of q.0.scopes)) params.frame ran in
      let many = sym a.many ∙ g.many in
      let count : length (rules.direct q.1) ≡ length ms = omega (arith, none_stand site.wanted, g.stand, a.stand) in
      let counted : length (rules.rules_of q.1) ≡ length q.0.rules = omega (arith, g.counts.many) in
      record {
        right = inner_true (typed.run (map (run_in w headers (methods w.shapes k) q.0.rules ms) q.1)) (param_slots ps) (frame_of q.0.scopes) framed;
        up = g.counts.up;
        rule_count = counted;
        once = subst (λ n. rules.each_once n (rules.direct q.1) ≡ true) (sym many) g.once;
        direct_count = count;
        method_count = ap length g.same ∙ count;
        wanted_count = many ∙ length-map site.wanted (λ x. None) ∙ ap length wanted;
      }

  -- ---- the whole

  numbers_are : (x : Module) (k : Kind) → BodyRight k x.params x.rules x.methods x.body → rules.numbers_right x ≡ true
  numbers_are x k h =
      and_from _ _ (and_from _ _ (and_from _ _ (and_from _ _ h.up (eq-eqb (length (rules.rules_of x.body)) (length x.rules) h.rule_count)) h.once)
      (eq-eqb (length (rules.direct x.body)) (length x.methods) h.direct_count)) (eq-eqb (length (rules.methods_in x.body)) (length x.methods) h.method_count)

  -- what does not depend on the body
  front_is : (x : Module) (k : Kind) → is_lower x.name ≡ true → list_all of_module x.attributes ≡ true → lower_names (param_names x.params) ≡ true → list_all (param_right w) x.params ≡ true → is_instance w.shapes k ≡ true →
      (is_lower x.name && list_all of_module x.attributes && lower_names (param_names x.params) && list_all (param_right w) x.params && is_instance w.shapes k) ≡ true
  front_is x k lower owned names slots instance =
      and_from (is_lower x.name && list_all of_module x.attributes && lower_names (param_names x.params) && list_all (param_right w) x.params) (is_instance w.shapes k)
      (and_from (is_lower x.name && list_all of_module x.attributes && lower_names (param_names x.params)) (list_all (param_right w) x.params)
      (and_from (is_lower x.name && list_all of_module x.attributes) (lower_names (param_names x.params)) (and_from (is_lower x.name) (list_all of_module x.attributes) lower owned) names) slots) instance

  abbrev body_test : Module → Kind → Bool
  body_test x k = typed.inner (typed.run (map (run_in w headers (methods w.shapes k) x.rules x.methods) x.body)) (param_slots x.params)

  abbrev tested : Module → Kind → Bool
  tested x k =
      is_lower x.name && list_all of_module x.attributes && lower_names (param_names x.params) && list_all (param_right w) x.params && is_instance w.shapes k &&
      length x.methods == length (methods w.shapes k) && countable x.rules && countable x.methods && rules.numbers_right x && body_test x k

  all_is : (x : Module) (k : Kind) → (is_lower x.name && list_all of_module x.attributes && lower_names (param_names x.params) && list_all (param_right w) x.params && is_instance w.shapes k) ≡ true →
      countable x.rules ≡ true → countable x.methods ≡ true → BodyRight k x.params x.rules x.methods x.body → tested x k ≡ true
  all_is x k front few_rules few_methods h =
      and_from _ (body_test x k) (and_from _ (rules.numbers_right x) (and_from _ (countable x.methods) (and_from _ (countable x.rules)
      (and_from _ (length x.methods == length (methods w.shapes k)) front (eq-eqb (length x.methods) (length (methods w.shapes k)) h.wanted_count)) few_rules) few_methods) (numbers_are x k h)) h.right

  module_is : (x : Module) (k : Kind) → kind x.interface ≡ k → tested x k ≡ true → rules.module_right w headers x ≡ true
  module_is x k is right = subst (λ j. tested x j ≡ true) (sym is) right

  -- the parts of a module, and what they came from
  record Came (k : Kind) (m : Written) (ps : List Param) (parts : Parts) : Type 0 where
    inner : Scopes
    opens : param_scopes m.span ps ≡ Ok inner
    q : State × List ModuleStmt
    ran : module_body (site_of p k) m inner ≡ Ok q
    rules_are : q.0.rules ≡ parts.0
    every : all_there m.span q.0.methods ≡ Ok parts.1
    body_is : q.1 ≡ parts.2

  came : (k : Kind) (m : Written) (ps : List Param) (parts : Parts) → module_parts (site_of p k) m ps ≡ Ok parts → Came k m ps parts
  unfolding module_parts
  came k m ps parts e =
      let inner = went (param_scopes m.span ps) _ parts e in
      let q = went (module_body (site_of p k) m inner.0) _ parts inner.2 in
      let ms = went (all_there m.span q.0.0.methods) (λ ms. Ok (q.0.0.rules, ms, q.0.1)) parts q.2 in
      subst (Came k m ps) (ok_is (q.0.0.rules, ms.0, q.0.1) parts ms.2)
      (record { inner = inner.0; opens = inner.1; q = q.0; ran = q.1; rules_are = refl; every = ms.1; body_is = refl })

  -- a module that is made of parts that are typed
  made_right : (m : Written) (attributes : List Attribute) (h : List Param × Kind) (parts : Parts) → asked m.span owner.Module m.attributes ≡ Ok attributes →
      module_header p m ≡ Ok h → Came h.1 m h.0 parts → countable parts.0 ≡ true → countable parts.1 ≡ true → rules.module_right w headers (module_made m attributes h parts) ≡ true
  made_right m attributes h parts owned headed c few_rules few_methods =
      let made = module_made m attributes h parts in
      let header = header_right m h headed in
      let params = params_in w.shapes h.0 ([] ∷ []) c.inner header.slots (no_variables w.shapes) (at_is m.span (with_params h.0 ([] ∷ [])) c.inner c.opens) in
      let body = subst (λ xs. BodyRight h.1 h.0 parts.0 parts.1 xs) c.body_is (subst (λ rs. BodyRight h.1 h.0 rs parts.1 c.q.1) c.rules_are (body_right m h.1 h.0 c.inner c.q parts.1 params c.ran c.every)) in
      let front = front_is made h.1 header.lower (asked_right m.span owner.Module m.attributes attributes owned) header.names (params_right h.0 header.slots) header.instance in
      module_is made h.1 (kind_back h.1) (all_is made h.1 front few_rules few_methods body)

  -- what is made is what the module is typed as
  made_is : (made x : Module) → ◌≡◌ {A = Or Module} (Ok made) (Ok x) → (countable made.rules ≡ true → countable made.methods ≡ true → rules.module_right w headers made ≡ true) →
      countable x.rules ≡ true → countable x.methods ≡ true → rules.module_right w headers x ≡ true
  made_is made x e right = subst (λ (y : Module). countable y.rules ≡ true → countable y.methods ≡ true → rules.module_right w headers y ≡ true) (ok_is made x e) right

  pub modules_right : (number : ℕ) (m : Written) (x : Module) → module_case p number m ≡ Ok x → countable x.rules ≡ true → countable x.methods ≡ true → rules.module_right w headers x ≡ true
  modules_right number m x e =
      let attributes = went (asked m.span owner.Module m.attributes) _ x e in
      let h = went (module_header p m) _ x attributes.2 in
      let own = passed m.span (is_module p m.name.name number) true _ x h.2 in
      let parts = went (module_parts (site_of p h.0.1) m h.0.0) (λ parts. Ok (module_made m attributes.0 h.0 parts)) x own.1 in
      made_is (module_made m attributes.0 h.0 parts.0) x parts.2 (made_right m attributes.0 h.0 parts.0 attributes.1 h.1 (came h.0.1 m h.0.0 parts.0 parts.1))
