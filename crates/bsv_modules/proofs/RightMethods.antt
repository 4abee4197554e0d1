-- Methods are in order.
use Rattle.std.proofs.Common.{◌≡◌, ◌∙◌, ℕ, suc, ◌+◌, Bool, true, false, cond, ◌&&◌, List, [], ◌∷◌, ◌++◌, length, Option, Some, None, Ok, refl, sym, ap, subst, arith, append_assoc, append-nil}
use Rattle.std.specs.Prelude.{slice_get}
use Rattle.std.specs.List.{list_all}
use Rattle.std.specs.Str.{bytes_eq}
use Rattle.std.proofs.lemmas.Slice.Eq.{bytes_eq-Decides}
use Rattle.std.proofs.lemmas.Bool.{and_parts}
use Rattle.std.proofs.lemmas.Option.{same_Some}
use Rattle.bsv_lemmas.proofs.Places.{passes_at}
use Rattle.bsv_ast.specs.Names.{is_lower, is_keyword, grammar_words, reserved_words}
use Rattle.bsv_ast.specs.declared.text.Span.{Span}
use Rattle.bsv_ast.specs.declared.types.WrittenType.{WrittenType}
use Rattle.bsv_ast.specs.declared.modules.Body.{Body as WrittenBody}
use Rattle.bsv_ast.specs.declared.modules.Param.{Param as WrittenParam}
use Rattle.bsv_ast.specs.declared.modules.Method.{Method as WrittenMethod}
use Rattle.bsv_scopes.specs.Scopes.{opened, closed, in_scope}
use Rattle.bsv_types.specs.declared.definitions.Body.{Body}
use Rattle.bsv_types.specs.declared.definitions.Param.{Param}
use Rattle.bsv_types.specs.declared.definitions.Interface.{Interface}
use Rattle.bsv_types.specs.declared.expressions.Expr.{Expr}
use Rattle.bsv_types.specs.declared.modules.Method.{Method}
use Rattle.bsv_types.specs.declared.types.PartTy.{PartTy}
use Rattle.bsv_types.specs.declared.types.PartTy.TheVariants as part_type
use Rattle.bsv_types.specs.Kinds.{Kind, interface, part, bare, kind}
use Rattle.bsv_types.specs.Shapes.{Shapes}
use Rattle.bsv_types.specs.Operators.{same_kinds}
use Rattle.bsv_types.specs.Methods.{Signature, Effect, value, action, action_value, effect, same_effect, methods, methods_of, part_methods, bare_methods, param_kinds}
use Rattle.bsv_types.specs.Expressions.{one, World, Frame}
use Rattle.bsv_types.specs.Names.{lower_names}
use Rattle.bsv_types.specs.Programs.{interface_right, method_header_right, effect_right, shapes_right, begins_empty}
use Rattle.bsv_types.specs.Statements as typed
use Rattle.bsv_types.specs.Modules as rules
use Rattle.bsv_types.specs.Modules.{param_names, param_slots}
use Rattle.bsv_types.proofs.Same.{same_is, same_self}
use Rattle.bsv_context.specs.Methods.{method_from}
use Rattle.bsv_context.specs.Written.{TypeNames, written, written_effect}
use Rattle.bsv_statements.specs.Bodies.{at, sure, Scopes, with_variable}
use Rattle.bsv_typing.specs.Laws.{slot_right}
use Rattle.bsv_statements.specs.Laws.{frame_of, ScopesFit}
use Rattle.bsv_typing.proofs.Bound.{taken}
use Rattle.bsv_typing.proofs.Typings.{kind_back}
use Rattle.bsv_statements.proofs.RightScopes.{frame_opened, opened_fit, defined_right, frame_length}
use Rattle.bsv_statements.proofs.RightCalls.{ok_is, went, there_is, passed, header_at}
use Rattle.bsv_modules.specs.Modules.{ModuleContext, task, InBody, body_of, guard, param, param_at, params_at, with_params, are_named, method_result, any_kind, method_header, method_made, method_body}
use Rattle.bsv_modules.proofs.RightSites.{FitsSite, written_right}
use Rattle.bsv_modules.proofs.RightElements.{body_right, guard_right}

pub sure_is : {A : Type 0} (s : Span) (b : Bool) (x y : A) → sure s b x ≡ Ok y → (b ≡ true) × (x ≡ y)
sure_is s true x y e = (refl, ok_is x y e)
sure_is s false x y e = absurd cc

-- ---- parameters

abbrev pub EachKind : (Kind → Type 0) → List Param → Type 0
EachKind P [] = Unit {0}
EachKind P (p ∷ ps) = P (kind p.ty) × EachKind P ps

module _ (types : TypeNames) (test : Kind → Bool) (P : Kind → Type 0) (right : (t : WrittenType) (k : Kind) → written types t ≡ Some k → test k ≡ true → P k) where
  param_is : (s : Span) (x : WrittenParam) (p : Param) → param_at types test s x ≡ Ok p → P (kind p.ty)
  param_is s x p e =
      let k = there_is s (written types x.written) _ p e in
      let h = sure_is s (test k.0) (param x.name.name k.0) p k.2 in
      subst (λ (q : Param). P (kind q.ty)) h.1 (subst P (sym (kind_back k.0)) (right x.written k.0 k.1 h.0))

  pub params_are : (s : Span) (xs : List WrittenParam) (ps : List Param) → params_at types test s xs ≡ Ok ps → EachKind P ps
  params_are s [] ps e = subst (EachKind P) (ok_is [] ps e) tt
  params_are s (x ∷ xs) ps e =
      let p = went (param_at types test s x) _ ps e in
      let more = went (params_at types test s xs) _ ps p.2 in
      subst (EachKind P) (ok_is (p.0 ∷ more.0) ps more.2) (param_is s x p.0 p.1, params_are s xs more.0 more.1)

-- parameters are defined, in the innermost scope
pub record ParamsIn (s : Shapes) (ps : List Param) (ss inner : Scopes) : Type 0 where
  pub fit : ScopesFit s inner
  pub frame : frame_of inner ≡ frame_of ss ++ param_slots ps
  pub outer : closed inner ≡ closed ss

abbrev pub SlotRight : Shapes → Kind → Type 0
SlotRight s k = slot_right s (one k) ≡ true

pub params_in : (s : Shapes) (ps : List Param) (ss inner : Scopes) → EachKind (SlotRight s) ps → ScopesFit s ss → with_params ps ss ≡ Some inner → ParamsIn s ps ss inner
params_in s [] ss inner right fit e = subst (ParamsIn s [] ss) (same_Some ss inner e) (record { fit = fit; frame = sym (append-nil (frame_of ss)); outer = refl })
params_in s (p ∷ ps) ss inner right fit e =
    let next = taken (with_variable p.name (one (kind p.ty)) ss) (with_params ps) inner e in
    let d = defined_right s p.name (one (kind p.ty)) ss next.0 fit right.0 next.1 in
    let more = params_in s ps next.0 inner right.1 d.fit next.2 in
    record {
      fit = more.fit;
      frame = more.frame ∙ ap (λ f. f ++ param_slots ps) d.frame ∙ append_assoc (frame_of ss) (one (kind p.ty) ∷ []) (param_slots ps);
      outer = more.outer ∙ d.outer;
    }

-- ---- effects

pub effect_back : (f : Effect) → effect (method_result f) ≡ f
effect_back (value k) = ap value (kind_back k)
effect_back action = refl
effect_back (action_value k) = ap action_value (kind_back k)

effect_is : (f g : Effect) → same_effect f g ≡ true → f ≡ g
effect_is (value j) (value k) e = ap value (same_is j k e)
effect_is action action e = refl
effect_is (action_value j) (action_value k) e = ap action_value (same_is j k e)
effect_is _ _ e = absurd cc

-- ---- the methods that an interface wants

pub text_is : (xs ys : List ℕ) → bytes_eq xs ys ≡ true → xs ≡ ys
text_is xs ys e = (bytes_eq-Decides xs ys).0 e

pub wanted_at : (n : ℕ) (name : List ℕ) (ms : List Signature) (q : ℕ × Signature) → method_from n name ms ≡ Some q → (i : ℕ) × (q.0 ≡ n + i) × (slice_get ms i ≡ Some q.1) × (bytes_eq name q.1.name ≡ true)
wanted_at n name [] q e = absurd cc
wanted_at n name (m ∷ ms) q e = by (bytes_eq name m.name) refl (wanted_at (n + 1) name ms q) e where
  by : (b : Bool) → bytes_eq name m.name ≡ b → (method_from (n + 1) name ms ≡ Some q → (i : ℕ) × (q.0 ≡ n + 1 + i) × (slice_get ms i ≡ Some q.1) × (bytes_eq name q.1.name ≡ true)) →
      cond b (Some (n, m)) (method_from (n + 1) name ms) ≡ Some q → (i : ℕ) × (q.0 ≡ n + i) × (slice_get (m ∷ ms) i ≡ Some q.1) × (bytes_eq name q.1.name ≡ true)
  by true named later at =
      let is = same_Some (n, m) q at in
      let first : n ≡ n + 0 = omega arith in
      (0, sym (ap (λ (r : ℕ × Signature). r.0) is) ∙ first, ap (λ (r : ℕ × Signature). Some r.1) is, subst (λ (r : ℕ × Signature). bytes_eq name r.1.name ≡ true) is named)
  by false named later at =
      let more = later at in
      let next : n + 1 + more.0 ≡ n + suc more.0 = omega arith in
      (suc more.0, more.1 ∙ next, more.2, more.3)

-- the method that has the name is that of its number
pub record Wanted (ms : List Signature) (name : List ℕ) (q : ℕ × Signature) : Type 0 where
  pub there : slice_get ms q.0 ≡ Some q.1
  pub named : bytes_eq name q.1.name ≡ true

pub wanted_is : (name : List ℕ) (ms : List Signature) (q : ℕ × Signature) → method_from 0 name ms ≡ Some q → Wanted ms name q
wanted_is name ms q e =
    let h = wanted_at 0 name ms q e in
    let first : 0 + h.0 ≡ h.0 = omega arith in
    record { there = ap (slice_get ms) (h.1 ∙ first) ∙ h.2; named = h.3 }

abbrev has_lower : Signature → Bool
has_lower q = is_lower q.name

part_lower : (p : PartTy) (k : Kind) → list_all has_lower (part_methods p k) ≡ true
unfolding is_lower is_keyword grammar_words reserved_words
part_lower part_type.Reg k = refl
part_lower part_type.Wire k = refl
part_lower part_type.RWire k = refl
part_lower part_type.PulseWire k = refl
part_lower part_type.Fifo k = refl
part_lower part_type.Fifof k = refl

bare_lower : (p : PartTy) → list_all has_lower (bare_methods p) ≡ true
unfolding is_lower is_keyword grammar_words reserved_words
bare_lower part_type.PulseWire = refl
bare_lower _ = refl

-- the methods of an interface have Lower names
pub methods_lower : (s : Shapes) (k : Kind) (n : ℕ) (q : Signature) → shapes_right s ≡ true → slice_get (methods s k) n ≡ Some q → is_lower q.name ≡ true
methods_lower s (interface i) n q right is = by (slice_get s.interfaces i) refl is where
  by : (o : Option Interface) → slice_get s.interfaces i ≡ o → slice_get (methods_of o) n ≡ Some q → is_lower q.name ≡ true
  by None at here = absurd cc
  by (Some face) at here =
      let h = header_at face.methods n q here in
      let faces = (and_parts _ (list_all (interface_right s) s.interfaces) (and_parts _ (begins_empty s.interfaces) right).0).1 in
      let face_right = passes_at (interface_right s) s.interfaces i face faces at in
      let header = passes_at (method_header_right s) face.methods n h.0 (and_parts _ (list_all (method_header_right s) face.methods) face_right).1 h.1 in
      let named = (and_parts (is_lower h.0.name) _ (and_parts _ _ (and_parts _ (effect_right s (effect h.0.result)) header).0).0).0 in
      subst (λ (r : Signature). is_lower r.name ≡ true) h.2 named
methods_lower s (part p t) n q right is = passes_at has_lower (part_methods p t) n q (part_lower p t) is
methods_lower s (bare p) n q right is = passes_at has_lower (bare_methods p) n q (bare_lower p) is
methods_lower s _ n q right is = absurd cc

-- ---- methods

module _ (site : ModuleContext) (w : World) (headers : List rules.Header) (fits : FitsSite site w headers) where
  record HeaderIs (wanted : Signature) (h : List Param × Effect) : Type 0 where
    pub kinds : same_kinds (param_kinds h.0) wanted.params ≡ true
    pub names : lower_names (param_names h.0) ≡ true
    pub slots : EachKind (SlotRight w.shapes) h.0
    pub same : h.1 ≡ wanted.effect

  header_is : (s : Span) (m : WrittenMethod) (wanted : Signature) (h : List Param × Effect) → method_header site s m wanted ≡ Ok h → HeaderIs wanted h
  header_is s m wanted h e =
      let ps = went (params_at site.types any_kind s m.params) _ h e in
      let p = passed s (same_kinds (param_kinds ps.0) wanted.params && are_named ps.0) true _ h ps.2 in
      let f = there_is s (written_effect site.types m.result) _ h p.1 in
      let same = sure_is s (same_effect f.0 wanted.effect) (ps.0, f.0) h f.2 in
      let b = and_parts (same_kinds (param_kinds ps.0) wanted.params) (are_named ps.0) p.0 in
      let slots = params_are site.types any_kind (SlotRight w.shapes) (λ t k is passes. written_right site w headers fits t k is) s m.params ps.0 ps.1 in
      subst (HeaderIs wanted) same.1 (record { kinds = b.0; names = b.1; slots = slots; same = effect_is f.0 wanted.effect same.0 })

  method_acts : (s : Span) (ps : List Param) (f : Effect) (b : WrittenBody) (ss : Scopes) (r : InBody) → EachKind (SlotRight w.shapes) ps → ScopesFit w.shapes ss → method_body site s ps f b ss ≡ Ok r →
      (typed.body_right w (length (frame_of ss)) (frame_of ss ++ param_slots ps) f r.1 ≡ true) × (r.0 ≡ ss)
  method_acts s ps f b ss r slots fit e =
      let inner = there_is s (with_params ps (opened ss)) _ r e in
      let q = went (body_of site.env site.types s (in_scope ss) inner.0 f b) _ r inner.2 in
      let d = params_in w.shapes ps (opened ss) inner.0 slots (opened_fit w.shapes ss fit) inner.1 in
      let h = body_right site w fits.world s (in_scope ss) inner.0 f b q.0 d.fit q.1 in
      let framed = subst (λ z. typed.body_right w (in_scope ss) z f q.0.1 ≡ true) (d.frame ∙ ap (λ z. z ++ param_slots ps) (frame_opened ss)) h.0 in
      let right = subst (λ n. typed.body_right w n (frame_of ss ++ param_slots ps) f q.0.1 ≡ true) (sym (frame_length ss)) framed in
      subst (λ (c : InBody). (typed.body_right w (length (frame_of ss)) (frame_of ss ++ param_slots ps) f c.1 ≡ true) × (c.0 ≡ ss)) (ok_is (closed q.0.0, q.0.1) r q.2) (right, h.1 ∙ d.outer)

  -- a method that is made of parts in order
  method_is : (frame : Frame) (m : WrittenMethod) (wanted : Signature) (ps : List Param) (f : Effect) (test : Option Expr) (b : Body) → bytes_eq m.name.name wanted.name ≡ true → is_lower wanted.name ≡ true →
      HeaderIs wanted (ps, f) → rules.condition_right w frame test ≡ true → typed.body_right w (length frame) (frame ++ param_slots ps) f b ≡ true →
      rules.method_right w frame (Some wanted) (Some (method_made m ps f test b)) ≡ true
  method_is frame m wanted ps f test b named lower header asks acts =
      let n = bytes_eq m.name.name wanted.name in
      let own = subst (λ name. is_lower name ≡ true) (sym (text_is m.name.name wanted.name named)) lower in
      let effects = subst (λ g. same_effect (effect (method_result f)) g ≡ true) (effect_back f ∙ header.same) (same_effect_self (effect (method_result f))) in
      let body_is = subst (λ g. typed.body_right w (length frame) (frame ++ param_slots ps) g b ≡ true) header.same acts in
      all_seven n (is_lower m.name.name) (lower_names (param_names ps)) (same_kinds (param_kinds ps) wanted.params) (same_effect (effect (method_result f)) wanted.effect) (rules.condition_right w frame test) (typed.body_right w (length frame) (frame ++ param_slots ps) wanted.effect b)
      named own header.names header.kinds effects asks body_is
    where
      same_effect_self : (g : Effect) → same_effect g g ≡ true
      same_effect_self (value k) = same_self k
      same_effect_self action = refl
      same_effect_self (action_value k) = same_self k

      all_seven : (a b c d x y z : Bool) → a ≡ true → b ≡ true → c ≡ true → d ≡ true → x ≡ true → y ≡ true → z ≡ true → (a && b && c && d && x && y && z) ≡ true
      all_seven true true true true true true true h i j k l o p = refl
      all_seven false b c d x y z h i j k l o p = absurd cc
      all_seven true false c d x y z h i j k l o p = absurd cc
      all_seven true true false d x y z h i j k l o p = absurd cc
      all_seven true true true false x y z h i j k l o p = absurd cc
      all_seven true true true true false y z h i j k l o p = absurd cc
      all_seven true true true true true false z h i j k l o p = absurd cc
      all_seven true true true true true true false h i j k l o p = absurd cc

  -- a method that is typed, where the interface wants it
  pub record MethodRan (ss : Scopes) (number : ℕ) (b : Scopes × Method) : Type 0 where
    pub right : (m : Option Method) → m ≡ Some b.1 → rules.method_right w (frame_of ss) (slice_get site.wanted number) m ≡ true
    pub same : b.0 ≡ ss

  pub method_ran : (s : Span) (m : WrittenMethod) (ss : Scopes) (q : ℕ × Signature) (h : List Param × Effect) (test : Option Expr) (b : InBody) → ScopesFit w.shapes ss → method_from 0 m.name.name site.wanted ≡ Some q →
      method_header site s m q.1 ≡ Ok h → guard (task site) s ss m.condition ≡ Ok test → method_body site s h.0 h.1 m.body ss ≡ Ok b → MethodRan ss q.0 (b.0, method_made m h.0 h.1 test b.1)
  method_ran s m ss q h test b fit named headed guarded body_is =
      let wanted = wanted_is m.name.name site.wanted q named in
      let header = header_is s m q.1 h headed in
      let acts = method_acts s h.0 h.1 m.body ss b header.slots fit body_is in
      let right = method_is (frame_of ss) m q.1 h.0 h.1 test b.1 wanted.named (fits.lower q.0 q.1 wanted.there) header (guard_right site w fits.world s ss m.condition test fit guarded) acts.0 in
      record {
        right = λ o is. ap (λ (z : Option Signature). rules.method_right w (frame_of ss) z o) wanted.there ∙ ap (λ (z : Option Method). rules.method_right w (frame_of ss) (Some q.1) z) is ∙ right;
        same = acts.1;
      }
