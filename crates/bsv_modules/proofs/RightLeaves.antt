-- Statements of modules without statements in them are in order.
use Rattle.std.proofs.Common.{◌≡◌, ◌∙◌, ℕ, Bool, true, false, ◌&&◌, ◌||◌, List, [], ◌∷◌, ◌++◌, length, Option, Some, None, Ok, refl, sym, ap, subst}
use Rattle.std.specs.Prelude.{slice_get}
use Rattle.std.proofs.lemmas.Option.{same_Some}
use Rattle.std.proofs.lemmas.Bool.{and_from}
use Rattle.bsv_lemmas.proofs.Places.{stays_left, at_end}
use Rattle.bsv_ast.specs.Names.{is_lower}
use Rattle.bsv_ast.specs.declared.text.Span.{Span}
use Rattle.bsv_ast.specs.declared.expressions.Expr.{Expr as Written}
use Rattle.bsv_ast.specs.declared.types.WrittenType.{WrittenType}
use Rattle.bsv_ast.specs.declared.statements.Declaration.{Declaration}
use Rattle.bsv_ast.specs.declared.modules.Make.{Make as WrittenMake}
use Rattle.bsv_ast.specs.declared.modules.Rule.{Rule as WrittenRule}
use Rattle.bsv_ast.specs.declared.modules.Method.{Method as WrittenMethod}
use Rattle.bsv_types.specs.declared.asked.Owner.TheVariants as owner
use Rattle.bsv_types.specs.declared.expressions.Expr.{Expr}
use Rattle.bsv_types.specs.declared.makers.Make.{Make}
use Rattle.bsv_types.specs.declared.modules.Rule.{Rule}
use Rattle.bsv_types.specs.declared.modules.Method.{Method}
use Rattle.bsv_types.specs.declared.modules.ModuleStmt.{ModuleStmt, Instance as InstanceAt, Array, Place, Declare, Assign, Rule as RuleAt, Method as MethodAt, fold-roll-ModuleStmt}
use Rattle.bsv_types.specs.declared.modules.ModuleStmt.TheOpen.{ModuleStmt-F}
use Rattle.bsv_types.specs.declared.modules.ModuleStmt.TheViews.{rolls-Instance, rolls-Array, rolls-Place, rolls-Declare, rolls-Assign, rolls-Rule, rolls-Method}
use Rattle.bsv_types.specs.Kinds.{Kind, integer, is_interface, type_of}
use Rattle.bsv_types.specs.Shapes.{Shapes, is_value, is_instance}
use Rattle.bsv_types.specs.Methods.{Signature}
use Rattle.bsv_types.specs.Expressions.{Slot, one, many, World, Frame, typing, has_type, many_at}
use Rattle.bsv_types.specs.Statements as typed
use Rattle.bsv_types.specs.Modules as rules
use Rattle.bsv_scopes.specs.Scopes.{closed}
use Rattle.bsv_context.specs.Env.{variable_in}
use Rattle.bsv_context.specs.Methods.{method_from}
use Rattle.bsv_context.specs.Written.{written}
use Rattle.bsv_statements.specs.Bodies.{Or, Scopes, with_variable, check, of_kind, declared_kind, assignable}
use Rattle.bsv_typing.specs.Laws.{slot_right}
use Rattle.bsv_statements.specs.Laws.{frame_of, ScopesFit}
use Rattle.bsv_typing.proofs.Typings.{kind_back, value_typed}
use Rattle.bsv_typing.proofs.RightPlaces.{instance_slot}
use Rattle.bsv_typing.proofs.RightSuffixes.{many_is}
use Rattle.bsv_statements.proofs.RightScopes.{scopes_fit, defined_right}
use Rattle.bsv_statements.proofs.RightCalls.{ok_is, went, there_is, passed, has_true, assigns_true, check_right, kind_right, assignable_right}
use Rattle.bsv_statements.proofs.RightStatements.{if_right_true, value_slot_right}
use Rattle.bsv_modules.specs.Modules.{ModuleContext, State, task, scoped, make_at, guard, asked, rule_made, rule_body, with_rule, rule_case, rule_at, method_at, done, is_free, method_header, method_made, method_body, wanted_method, with_method, method_case, array_named, interface_at, lower_name, with_slot, instance_case, array_case, count_at, place_case, declare_case, assign_case}
use Rattle.bsv_modules.proofs.RightSites.{FitsSite, written_right}
use Rattle.bsv_modules.proofs.RightMakers.{typed_site, make_right}
use Rattle.bsv_modules.proofs.RightElements.{RuleRan, rule_ran}
use Rattle.bsv_modules.proofs.RightMethods.{sure_is, MethodRan, method_ran}
use Rattle.bsv_modules.proofs.RightStates.{set_there, set_kept, run_in, Ran, GoodRun, ended, defines}

instance_one : (s : Shapes) (k : Kind) → is_instance s k ≡ true → slot_right s (one k) ≡ true
instance_one s k e = by (is_value s k) where
  by : (b : Bool) → (b || is_instance s k) ≡ true
  by true = refl
  by false = e

-- ---- the typed statements

module _ (w : World) (headers : List rules.Header) (wanted : List Signature) (rs : List Rule) (ms : List Method) where
  abbrev in_site : rules.ModuleContext
  in_site = typed_site w headers wanted rs ms

  abbrev ran : ModuleStmt → typed.Run
  ran = run_in w headers wanted rs ms

  instance_typed : (frame : Frame) (k : Kind) (name : List ℕ) (m : Make) → is_instance w.shapes k ≡ true → is_lower name ≡ true → rules.makes in_site frame m k ≡ true → ran (InstanceAt (type_of k) name m) frame ≡ Some (frame ++ one k ∷ [])
  instance_typed frame k name m right lower made =
      ap (λ y. ran y frame) (sym (rolls-Instance (type_of k) name m)) ∙
      ap (λ f. f frame) (fold-roll-ModuleStmt typed.Run typed.Run (rules.module_stmt_step in_site) (rules.module_branch_step in_site) (ModuleStmt-F.Instance (type_of k) name m)) ∙
      ap (λ j. typed.if_right (is_instance w.shapes j && is_lower name && rules.makes in_site frame m j) (frame ++ one j ∷ [])) (kind_back k) ∙
      if_right_true (is_instance w.shapes k && is_lower name && rules.makes in_site frame m k) (frame ++ one k ∷ [])
      (and_from (is_instance w.shapes k && is_lower name) (rules.makes in_site frame m k) (and_from (is_instance w.shapes k) (is_lower name) right lower) made)

  array_typed : (frame : Frame) (k : Kind) (name : List ℕ) (x : Expr) → is_instance w.shapes k ≡ true → is_lower name ≡ true → typing w x frame ≡ Some integer → ran (Array (type_of k) name x) frame ≡ Some (frame ++ many k ∷ [])
  array_typed frame k name x right lower many_is =
      ap (λ y. ran y frame) (sym (rolls-Array (type_of k) name x)) ∙
      ap (λ f. f frame) (fold-roll-ModuleStmt typed.Run typed.Run (rules.module_stmt_step in_site) (rules.module_branch_step in_site) (ModuleStmt-F.Array (type_of k) name x)) ∙
      ap (λ j. typed.if_right (is_instance w.shapes j && is_lower name && has_type w frame x integer) (frame ++ many j ∷ [])) (kind_back k) ∙
      if_right_true (is_instance w.shapes k && is_lower name && has_type w frame x integer) (frame ++ many k ∷ [])
      (and_from (is_instance w.shapes k && is_lower name) (has_type w frame x integer) (and_from (is_instance w.shapes k) (is_lower name) right lower) (has_true w frame x integer many_is))

  place_is : (frame : Frame) (level : ℕ) (x : Expr) (m : Make) (k : Kind) → many_at frame level ≡ Some k → typing w x frame ≡ Some integer → rules.makes in_site frame m k ≡ true → rules.place_right in_site frame level x m ≡ true
  place_is frame level x m k here index made = rw here (and_from (has_type w frame x integer) (rules.makes in_site frame m k) (has_true w frame x integer index) made)

  place_typed : (frame : Frame) (level : ℕ) (x : Expr) (m : Make) (k : Kind) → many_at frame level ≡ Some k → typing w x frame ≡ Some integer → rules.makes in_site frame m k ≡ true → ran (Place level x m) frame ≡ Some frame
  place_typed frame level x m k here index made =
      ap (λ y. ran y frame) (sym (rolls-Place level x m)) ∙
      ap (λ f. f frame) (fold-roll-ModuleStmt typed.Run typed.Run (rules.module_stmt_step in_site) (rules.module_branch_step in_site) (ModuleStmt-F.Place level x m)) ∙
      if_right_true (rules.place_right in_site frame level x m) frame (place_is frame level x m k here index made)

  declare_typed : (frame : Frame) (k : Kind) (name : List ℕ) (x : Expr) → is_lower name ≡ true → typing w x frame ≡ Some k → ran (Declare (type_of k) name x) frame ≡ Some (frame ++ one k ∷ [])
  declare_typed frame k name x lower h =
      ap (λ y. ran y frame) (sym (rolls-Declare (type_of k) name x)) ∙
      ap (λ f. f frame) (fold-roll-ModuleStmt typed.Run typed.Run (rules.module_stmt_step in_site) (rules.module_branch_step in_site) (ModuleStmt-F.Declare (type_of k) name x)) ∙
      ap (λ j. typed.if_right (is_value w.shapes j && is_lower name && has_type w frame x j) (frame ++ one j ∷ [])) (kind_back k) ∙
      if_right_true (is_value w.shapes k && is_lower name && has_type w frame x k) (frame ++ one k ∷ [])
      (and_from (is_value w.shapes k && is_lower name) (has_type w frame x k) (and_from (is_value w.shapes k) (is_lower name) (value_typed w frame x k h) lower) (has_true w frame x k h))

  assign_typed : (frame : Frame) (level : ℕ) (x : Expr) → typed.assigns w 0 frame level x ≡ true → ran (Assign level x) frame ≡ Some frame
  assign_typed frame level x right =
      ap (λ y. ran y frame) (sym (rolls-Assign level x)) ∙
      ap (λ f. f frame) (fold-roll-ModuleStmt typed.Run typed.Run (rules.module_stmt_step in_site) (rules.module_branch_step in_site) (ModuleStmt-F.Assign level x)) ∙
      if_right_true (typed.assigns w 0 frame level x) frame right

  rule_typed : (frame : Frame) (number : ℕ) (r : Rule) → slice_get rs number ≡ Some r → rules.rule_right w frame (Some r) ≡ true → ran (RuleAt number) frame ≡ Some frame
  rule_typed frame number r there right =
      ap (λ y. ran y frame) (sym (rolls-Rule number)) ∙
      ap (λ f. f frame) (fold-roll-ModuleStmt typed.Run typed.Run (rules.module_stmt_step in_site) (rules.module_branch_step in_site) (ModuleStmt-F.Rule number)) ∙
      if_right_true (rules.rule_right w frame (slice_get rs number)) frame (ap (λ (o : Option Rule). rules.rule_right w frame o) there ∙ right)

  method_typed : (frame : Frame) (number : ℕ) → rules.method_right w frame (slice_get wanted number) (slice_get ms number) ≡ true → ran (MethodAt number) frame ≡ Some frame
  method_typed frame number right =
      ap (λ y. ran y frame) (sym (rolls-Method number)) ∙
      ap (λ f. f frame) (fold-roll-ModuleStmt typed.Run typed.Run (rules.module_stmt_step in_site) (rules.module_branch_step in_site) (ModuleStmt-F.Method number)) ∙
      if_right_true (rules.method_right w frame (slice_get wanted number) (slice_get ms number)) frame right

-- ---- the forms

module _ (site : ModuleContext) (w : World) (headers : List rules.Header) (fits : FitsSite site w headers) where
  abbrev pub Good : (State → Or (State × ModuleStmt)) → Type 0
  Good = GoodRun w headers site.wanted

  interface_right : (s : Span) (t : WrittenType) (k : Kind) → interface_at site s t ≡ Ok k → is_instance w.shapes k ≡ true
  interface_right s t k e =
      let j = there_is s (written site.types t) _ k e in
      let h = sure_is s (is_interface j.0) j.0 k j.2 in
      subst (λ i. is_instance w.shapes i ≡ true) h.1 (instance_slot w.shapes j.0 h.0 (written_right site w headers fits t j.0 j.1))

  own_name : (s : Span) (name own : List ℕ) → lower_name s name ≡ Ok own → is_lower own ≡ true
  own_name s name own e = let h = sure_is s (is_lower name) name own e in subst (λ n. is_lower n ≡ true) h.1 h.0

  -- the scopes with a variable more
  slot_more : (s : Span) (name : List ℕ) (slot : Slot) (st next : State) → with_slot s name slot st ≡ Ok next → (ss : Scopes) × (with_variable name slot st.scopes ≡ Some ss) × (scoped st ss ≡ next)
  slot_more s name slot st next e =
      let ss = there_is s (with_variable name slot st.scopes) _ next e in
      (ss.0, ss.1, ok_is (scoped st ss.0) next ss.2)

  pub instance_good : (s : Span) (t : WrittenType) (name : List ℕ) (m : WrittenMake) → Good (instance_case site s t name m)
  instance_good s t name m st r fit e =
      let k = went (interface_at site s t) _ r e in
      let made = went (make_at site st.scopes s m k.0) _ r k.2 in
      let own = went (lower_name s name) _ r made.2 in
      let next = went (with_slot s name (one k.0) st) _ r own.2 in
      let more = slot_more s name (one k.0) st next.0 next.1 in
      let right = interface_right s t k.0 k.1 in
      defines w headers site.wanted st next.0 more.0 (one k.0) (InstanceAt (type_of k.0) own.0 made.0) r (defined_right w.shapes name (one k.0) st.scopes more.0 fit (instance_one w.shapes k.0 right) more.1) more.2
      (λ rs ms. instance_typed w headers site.wanted rs ms (frame_of st.scopes) k.0 own.0 made.0 right (own_name s name own.0 own.1) (make_right site w headers fits st.scopes fit site.wanted rs ms s m k.0 made.0 made.1)) next.2

  pub array_good : (s : Span) (t : WrittenType) (name : List ℕ) (c : Written) → Good (array_case site s t name c)
  unfolding count_at
  array_good s t name c st r fit e =
      let k = went (interface_at site s t) _ r e in
      let n = went (of_kind (task site) st.scopes s c integer) _ r k.2 in
      let own = went (lower_name s name) _ r n.2 in
      let next = went (with_slot s name (many k.0) st) _ r own.2 in
      let more = slot_more s name (many k.0) st next.0 next.1 in
      let right = interface_right s t k.0 k.1 in
      defines w headers site.wanted st next.0 more.0 (many k.0) (Array (type_of k.0) own.0 n.0) r (defined_right w.shapes name (many k.0) st.scopes more.0 fit right more.1) more.2
      (λ rs ms. array_typed w headers site.wanted rs ms (frame_of st.scopes) k.0 own.0 n.0 right (own_name s name own.0 own.1) (kind_right (task site) w fits.world st.scopes fit s c integer n.0 n.1)) next.2

  array_stands : (ss : Scopes) (name : List ℕ) (a : ℕ × Kind) → ScopesFit w.shapes ss → array_named (variable_in ss name) ≡ Some a → many_at (frame_of ss) a.0 ≡ Some a.1
  array_stands ss name a fit e = by (variable_in ss name) refl e where
    by_slot : (v : ℕ × Slot) (x : Slot) → v.1 ≡ x → slice_get (frame_of ss) v.0 ≡ Some v.1 → array_named (Some v) ≡ Some a → many_at (frame_of ss) a.0 ≡ Some a.1
    by_slot v (many k) is here given =
        let same = same_Some (v.0, k) a (rw is at given) in
        subst (λ (b : ℕ × Kind). many_at (frame_of ss) b.0 ≡ Some b.1) same (many_is w (frame_of ss) v.0 k (here ∙ ap Some is))
    by_slot v (one k) is here given = let none = rw is at given in absurd cc

    by : (o : Option (ℕ × Slot)) → variable_in ss name ≡ o → array_named o ≡ Some a → many_at (frame_of ss) a.0 ≡ Some a.1
    by None named at = absurd cc
    by (Some v) named at = by_slot v v.1 refl ((scopes_fit site.env w ss fits.world fit).variables name v named) at

  pub place_good : (s : Span) (name : List ℕ) (c : Written) (m : WrittenMake) → Good (place_case site s name c m)
  place_good s name c m st r fit e =
      let i = went (of_kind (task site) st.scopes s c integer) _ r e in
      let a = there_is s (array_named (variable_in st.scopes name)) _ r i.2 in
      let made = went (make_at site st.scopes s m a.0.1) _ r a.2 in
      ended w headers site.wanted st (Place a.0.0 i.0 made.0) r fit
      (λ rs ms. place_typed w headers site.wanted rs ms (frame_of st.scopes) a.0.0 i.0 made.0 a.0.1 (array_stands st.scopes name a.0 fit a.1) (kind_right (task site) w fits.world st.scopes fit s c integer i.0 i.1)
      (make_right site w headers fits st.scopes fit site.wanted rs ms s m a.0.1 made.0 made.1)) made.2

  pub declare_good : (s : Span) (d : Declaration) → Good (declare_case site s d)
  declare_good s d st r fit e =
      let want = went (declared_kind (task site) s d.declared) _ r e in
      let m = there_is s (check (task site) st.scopes d.value want.0) _ r want.2 in
      let k = m.0.kind in
      let own = went (lower_name s d.name.name) _ r m.2 in
      let next = went (with_slot s d.name.name (one k) st) _ r own.2 in
      let more = slot_more s d.name.name (one k) st next.0 next.1 in
      let typed_is = (check_right (task site) w fits.world st.scopes fit d.value want.0 m.0 m.1).0 in
      defines w headers site.wanted st next.0 more.0 (one k) (Declare (type_of k) own.0 m.0.expr) r
      (defined_right w.shapes d.name.name (one k) st.scopes more.0 fit (value_slot_right w.shapes k (value_typed w (frame_of st.scopes) m.0.expr k typed_is)) more.1) more.2
      (λ rs ms. declare_typed w headers site.wanted rs ms (frame_of st.scopes) k own.0 m.0.expr (own_name s d.name.name own.0 own.1) typed_is) next.2

  pub assign_good : (s : Span) (name : List ℕ) (c : Written) → Good (assign_case site s name c)
  assign_good s name c st r fit e =
      let v = there_is s (assignable (task site) st.scopes name) _ r e in
      let m = went (of_kind (task site) st.scopes s c v.0.1) _ r v.2 in
      let h = assignable_right (task site) w fits.world st.scopes fit name v.0 v.1 in
      let right = assigns_true w 0 (frame_of st.scopes) v.0.0 m.0 v.0.1 h.own h.here h.right (kind_right (task site) w fits.world st.scopes fit s c v.0.1 m.0 m.1) in
      ended w headers site.wanted st (Assign v.0.0 m.0) r fit (λ rs ms. assign_typed w headers site.wanted rs ms (frame_of st.scopes) v.0.0 m.0 right) m.2

  -- a rule is appended
  rule_stands : (st : State) (ss : Scopes) (q : Rule) (r : State × ModuleStmt) → ScopesFit w.shapes st.scopes → RuleRan site w fits.world st.scopes (ss, q) → ◌≡◌ {A = Or (State × ModuleStmt)} (Ok (with_rule st ss q, RuleAt (length st.rules))) (Ok r) → Ran w headers site.wanted st r
  rule_stands st ss q r fit h e =
      subst (Ran w headers site.wanted st) (ok_is (with_rule st ss q, RuleAt (length st.rules)) r e) (record {
        right = λ rs ms later. rule_typed w headers site.wanted rs ms (frame_of st.scopes) (length st.rules) q (later.rules (length st.rules) q (at_end st.rules q)) h.right ∙ ap (λ z. Some (frame_of z)) (sym h.same);
        earlier = λ rs ms later. record { rules = λ n x is. later.rules n x (stays_left st.rules (q ∷ []) n x is); methods = later.methods };
        fit = subst (ScopesFit w.shapes) (sym h.same) fit;
        outer = ap (λ z. closed z) h.same;
      })

  rule_whole : (s : Span) (r : WrittenRule) (ss : Scopes) (x : Scopes × Rule) → ScopesFit w.shapes ss → rule_at site s r ss ≡ Ok x → RuleRan site w fits.world ss x
  rule_whole s r ss x fit e =
      let attributes = went (asked s owner.Rule r.attributes) _ x e in
      let named = passed s (is_lower r.name.name) true _ x attributes.2 in
      let test = went (guard (task site) s ss r.condition) _ x named.1 in
      let b = went (rule_body site r.body ss) (λ b. Ok (b.0, rule_made r attributes.0 test.0 b.1)) x test.2 in
      subst (RuleRan site w fits.world ss) (ok_is (b.0.0, rule_made r attributes.0 test.0 b.0.1) x b.2) (rule_ran site w fits.world s r ss attributes.0 test.0 b.0 fit attributes.1 named.0 test.1 b.1)

  pub rule_good : (s : Span) (r : WrittenRule) → Good (rule_case site s r)
  rule_good s r st q fit e =
      let x = went (rule_at site s r st.scopes) (λ x. done (with_rule st x.0 x.1) (RuleAt (length st.rules))) q e in
      rule_stands st x.0.0 x.0.1 q fit (rule_whole s r st.scopes x.0 fit x.1) x.2

  -- a method takes its place, which was free
  method_stands : (st : State) (ss : Scopes) (number : ℕ) (m : Method) (r : State × ModuleStmt) → ScopesFit w.shapes st.scopes → is_free number st.methods ≡ true → MethodRan site w headers fits st.scopes number (ss, m) →
      ◌≡◌ {A = Or (State × ModuleStmt)} (Ok (with_method st ss number m, MethodAt number)) (Ok r) → Ran w headers site.wanted st r
  method_stands st ss number m r fit free h e =
      subst (Ran w headers site.wanted st) (ok_is (with_method st ss number m, MethodAt number) r e) (record {
        right = λ rs ms later. method_typed w headers site.wanted rs ms (frame_of st.scopes) number (h.right (slice_get ms number) (later.methods number m (set_there st.methods number m free))) ∙ ap (λ z. Some (frame_of z)) (sym h.same);
        earlier = λ rs ms later. record { rules = later.rules; methods = λ n x is. later.methods n x (set_kept st.methods number n m x free is) };
        fit = subst (ScopesFit w.shapes) (sym h.same) fit;
        outer = ap (λ z. closed z) h.same;
      })

  method_whole : (s : Span) (m : WrittenMethod) (ss : Scopes) (q : ℕ × Signature) (x : Scopes × Method) → ScopesFit w.shapes ss → method_from 0 m.name.name site.wanted ≡ Some q → method_at site s m q.1 ss ≡ Ok x → MethodRan site w headers fits ss q.0 x
  method_whole s m ss q x fit named e =
      let h = went (method_header site s m q.1) _ x e in
      let test = went (guard (task site) s ss m.condition) _ x h.2 in
      let b = went (method_body site s h.0.0 h.0.1 m.body ss) (λ b. Ok (b.0, method_made m h.0.0 h.0.1 test.0 b.1)) x test.2 in
      subst (MethodRan site w headers fits ss q.0) (ok_is (b.0.0, method_made m h.0.0 h.0.1 test.0 b.0.1) x b.2) (method_ran site w headers fits s m ss q h.0 test.0 b.0 fit named h.1 test.1 b.1)

  pub method_good : (s : Span) (m : WrittenMethod) → Good (method_case site s m)
  method_good s m st r fit e =
      let q = went (wanted_method site s m.name.name st) _ r e in
      let found = there_is s (method_from 0 m.name.name site.wanted) _ q.0 q.1 in
      let free = sure_is s (is_free found.0.0 st.methods) found.0 q.0 found.2 in
      let named = found.1 ∙ ap Some free.1 in
      let is_open = subst (λ (p : ℕ × Signature). is_free p.0 st.methods ≡ true) free.1 free.0 in
      let x = went (method_at site s m q.0.1 st.scopes) (λ x. done (with_method st x.0 q.0.0 x.1) (MethodAt q.0.0)) r q.2 in
      method_stands st x.0.0 q.0.0 x.0.1 r fit is_open (method_whole s m st.scopes q.0 x.0 fit named x.1) x.2
