-- What statements name is in order: expressions of a type, variables that take values, and methods with their
-- arguments.
use Rattle.std.proofs.Common.{◌≡◌, ◌∙◌, ℕ, zero, suc, Bool, true, false, ◌&&◌, List, [], ◌∷◌, map, Option, Some, None, Ok, Err, refl, sym, ap, subst}
use Rattle.std.specs.Prelude.{nat_le, slice_get, codes}
use Rattle.std.specs.List.{list_all}
use Rattle.std.proofs.lemmas.Bool.{and_parts, and_from}
use Rattle.std.proofs.lemmas.Option.{same_Some as some_is}
use Rattle.bsv_lemmas.proofs.Places.{passes_at}
use Rattle.bsv_ast.specs.declared.text.Span.{Span}
use Rattle.bsv_ast.specs.declared.expressions.Expr.{Expr as Written}
use Rattle.bsv_ast.specs.declared.statements.Place.{Place as WrittenPlace}
use Rattle.bsv_ast.specs.declared.statements.Place.TheVariants as place
use Rattle.bsv_ast.specs.declared.statements.Call.{Call}
use Rattle.bsv_types.specs.declared.definitions.Interface.{Interface}
use Rattle.bsv_types.specs.declared.definitions.MethodHeader.{MethodHeader}
use Rattle.bsv_types.specs.declared.expressions.Expr.{Expr}
use Rattle.bsv_types.specs.declared.types.PartTy.{PartTy}
use Rattle.bsv_types.specs.declared.types.PartTy.TheVariants as part_type
use Rattle.bsv_types.specs.Kinds.{Kind, integer, interface, part, bare}
use Rattle.bsv_types.specs.Shapes.{Shapes, is_value}
use Rattle.bsv_types.specs.Operators.{is_kind, same_kinds}
use Rattle.bsv_types.specs.Methods.{Signature, Effect, action, action_value, effect, methods, methods_of, header_signature, part_methods, bare_methods}
use Rattle.bsv_types.specs.Expressions.{Slot, one, many, World, Frame, typing, place_typing, method_at, one_at, is_typed, has_type, have_types}
use Rattle.bsv_types.specs.Statements.{calls, assigns}
use Rattle.bsv_types.specs.Programs.{interface_right, method_header_right, effect_right, shapes_right, begins_empty}
use Rattle.bsv_types.proofs.Same.{same_self}
use Rattle.bsv_context.specs.Env.{TypedExpr, variable_in, is_typed_value}
use Rattle.bsv_typing.specs.Forms.{arguments}
use Rattle.bsv_context.specs.Methods.{method_named}
use Rattle.bsv_typing.specs.Places.{Instance, place_of}
use Rattle.bsv_statements.specs.Bodies.{Or, ◌>=>◌, at, sure, Scopes, with_scopes, Task, check, of_kind, one_instance, one_of_many, instance_at, operands_of, Called, called, call_at, is_written, assignable}
use Rattle.bsv_typing.specs.Laws.{FitsWorld, Typed}
use Rattle.bsv_statements.specs.Laws.{ScopesFit, frame_of}
use Rattle.bsv_typing.proofs.Bound.{tested_step, HasKind}
use Rattle.bsv_typing.proofs.Typings.{Each}
use Rattle.bsv_typing.proofs.RightOperands.{strictly, strict_value, EachGood}
use Rattle.bsv_typing.proofs.RightGiven.{bits_value, arguments_right, same_kinds_self}
use Rattle.bsv_typing.proofs.RightPlaces.{method_is}
use Rattle.bsv_typing.proofs.RightSuffixes.{place_one, place_each, one_is, many_is}
use Rattle.bsv_typing.proofs.RightExpressions.{ground_is, expressions_good}
use Rattle.bsv_statements.proofs.RightScopes.{scopes_fit}

-- ---- steps that may have a fault

pub ok_is : {A : Type 0} (x y : A) → ◌≡◌ {A = Or A} (Ok x) (Ok y) → x ≡ y
ok_is x y e = cc

pub went : {A B : Type 0} (r : Or A) (f : A → Or B) (y : B) → (r >=> f) ≡ Ok y → (x : A) × (r ≡ Ok x) × (f x ≡ Ok y)
went (Ok x) f y e = (x, refl, e)
went (Err s) f y e = absurd cc

-- after what is there, and after a test that is passed
pub there_is : {A B : Type 0} (s : Span) (o : Option A) (f : A → Or B) (y : B) → (at s o >=> f) ≡ Ok y → (x : A) × (o ≡ Some x) × (f x ≡ Ok y)
there_is s None f y e = absurd cc
there_is s (Some x) f y e = (x, refl, e)

pub passed : {A B : Type 0} (s : Span) (b : Bool) (x : A) (f : A → Or B) (y : B) → (sure s b x >=> f) ≡ Ok y → (b ≡ true) × (f x ≡ Ok y)
passed s true x f y e = (refl, e)
passed s false x f y e = absurd cc

pub at_is : {A : Type 0} (s : Span) (o : Option A) (x : A) → at s o ≡ Ok x → o ≡ Some x
at_is s None x e = absurd cc
at_is s (Some y) x e = ap Some (ok_is y x e)

-- ---- the types that methods give

pub header_at : (hs : List MethodHeader) (n : ℕ) (q : Signature) → slice_get (map header_signature hs) n ≡ Some q → (h : MethodHeader) × (slice_get hs n ≡ Some h) × (header_signature h ≡ q)
header_at [] n q e = absurd cc
header_at (h ∷ hs) zero q e = (h, refl, some_is (header_signature h) q e)
header_at (h ∷ hs) (suc n) q e = header_at hs n q e

abbrev gives_none : Signature → Bool
gives_none q = by q.effect where
  by : Effect → Bool
  by (action_value k) = false
  by _ = true

part_gives : (p : PartTy) (k : Kind) → list_all gives_none (part_methods p k) ≡ true
part_gives part_type.Reg k = refl
part_gives part_type.Wire k = refl
part_gives part_type.RWire k = refl
part_gives part_type.PulseWire k = refl
part_gives part_type.Fifo k = refl
part_gives part_type.Fifof k = refl

bare_gives : (p : PartTy) → list_all gives_none (bare_methods p) ≡ true
bare_gives part_type.PulseWire = refl
bare_gives _ = refl

none_given : (q : Signature) (k : Kind) → gives_none q ≡ true → q.effect ≡ action_value k → ⊥
none_given q k none is = let h = rw is at none in absurd cc

-- what an action gives has a type of values
pub bound_value : (s : Shapes) (j : Kind) (n : ℕ) (q : Signature) (k : Kind) → shapes_right s ≡ true → slice_get (methods s j) n ≡ Some q → q.effect ≡ action_value k → is_value s k ≡ true
bound_value s (interface i) n q k right is gives = by (slice_get s.interfaces i) refl is where
  by : (o : Option Interface) → slice_get s.interfaces i ≡ o → slice_get (methods_of o) n ≡ Some q → is_value s k ≡ true
  by None at here = absurd cc
  by (Some face) at here =
      let h = header_at face.methods n q here in
      let faces = (and_parts _ (list_all (interface_right s) s.interfaces) (and_parts _ (begins_empty s.interfaces) right).0).1 in
      let face_right = passes_at (interface_right s) s.interfaces i face faces at in
      let header = passes_at (method_header_right s) face.methods n h.0 (and_parts _ (list_all (method_header_right s) face.methods) face_right).1 h.1 in
      let effect_is = (and_parts _ (effect_right s (effect h.0.result)) header).1 in
      bits_value s k (subst (λ e. effect_right s e ≡ true) (ap (λ (r : Signature). r.effect) h.2 ∙ gives) effect_is)
bound_value s (part p t) n q k right is gives = absurd (none_given q k (passes_at gives_none (part_methods p t) n q (part_gives p t) is) gives)
bound_value s (bare p) n q k right is gives = absurd (none_given q k (passes_at gives_none (bare_methods p) n q (bare_gives p) is) gives)
bound_value s _ n q k right is gives = absurd cc

-- a write is an action
pub write_acts : (w : World) (k : Kind) (q : ℕ × Signature) → is_written k ≡ true → method_named (strictly w) k (codes "_write") ≡ Some q → q.1.effect ≡ action
unfolding method_named
write_acts w (part part_type.Reg k) q written named = sym (ap (λ (r : ℕ × Signature). r.1.effect) (some_is _ q named))
write_acts w (part part_type.Wire k) q written named = sym (ap (λ (r : ℕ × Signature). r.1.effect) (some_is _ q named))
write_acts w _ q written named = absurd cc

pub has_true : (w : World) (frame : Frame) (x : Expr) (k : Kind) → typing w x frame ≡ Some k → has_type w frame x k ≡ true
has_true w frame x k h = ap (λ o. is_kind o k) h ∙ same_self k

pub assigns_true : (w : World) (base : ℕ) (frame : Frame) (level : ℕ) (x : Expr) (k : Kind) → nat_le base level ≡ true → one_at frame level ≡ Some k → is_value w.shapes k ≡ true → typing w x frame ≡ Some k → assigns w base frame level x ≡ true
assigns_true w base frame level x k own here right h = rw here (and_from (nat_le base level) (is_value w.shapes k && has_type w frame x k) own (and_from (is_value w.shapes k) (has_type w frame x k) right (has_true w frame x k h)))

module _ (t : Task) (w : World) (fits : FitsWorld t.env w) (ss : Scopes) (fit : ScopesFit w.shapes ss) where
  -- ---- expressions

  pub check_right : (e : Written) (want : Option Kind) (m : TypedExpr) → check t ss e want ≡ Some m → Typed w (frame_of ss) m × HasKind want m.kind
  check_right e want m is = expressions_good (with_scopes t.env ss) w (frame_of ss) (scopes_fit t.env w ss fits fit) e want m is

  pub kind_right : (s : Span) (e : Written) (k : Kind) (x : Expr) → of_kind t ss s e k ≡ Ok x → typing w x (frame_of ss) ≡ Some k
  kind_right s e k x is =
      let m = there_is s (check t ss e (Some k)) _ x is in
      let h = check_right e (Some k) m.0 m.1 in
      subst (λ y. typing w y (frame_of ss) ≡ Some k) (ok_is m.0.expr x m.2) (h.0 ∙ ap Some h.1)

  operands_good : (xs : List Written) → EachGood w (frame_of ss) (operands_of t ss xs)
  operands_good [] = tt
  operands_good (x ∷ xs) = (expressions_good (with_scopes t.env ss) w (frame_of ss) (scopes_fit t.env w ss fits fit) x, operands_good xs)

  variable_is : (name : List ℕ) (v : ℕ × Slot) → variable_in ss name ≡ Some v → slice_get (frame_of ss) v.0 ≡ Some v.1
  variable_is name v e = (scopes_fit t.env w ss fits fit).variables name v e

  -- ---- instances

  abbrev pub Stands : Instance → Type 0
  Stands i = place_typing w (place_of i) (frame_of ss) ≡ Some i.kind

  one_stands : (o : Option (ℕ × Slot)) (i : Instance) → ((v : ℕ × Slot) → o ≡ Some v → slice_get (frame_of ss) v.0 ≡ Some v.1) → one_instance o ≡ Some i → Stands i
  one_stands None i here e = absurd cc
  one_stands (Some v) i here e = by v.1 refl where
    by : (x : Slot) → v.1 ≡ x → Stands i
    by (one k) is = subst Stands (some_is (record { level = v.0; index = None; kind = k }) i (rw is at e)) (place_one w (frame_of ss) v.0 k (one_is w (frame_of ss) v.0 k (here v refl ∙ ap Some is)))
    by (many k) is = let none = rw is at e in absurd cc

  each_stands : (o : Option (ℕ × Slot)) (x : Expr) (i : Instance) → ((v : ℕ × Slot) → o ≡ Some v → slice_get (frame_of ss) v.0 ≡ Some v.1) → typing w x (frame_of ss) ≡ Some integer → one_of_many o x ≡ Some i → Stands i
  each_stands None x i here index e = absurd cc
  each_stands (Some v) x i here index e = by v.1 refl where
    by : (y : Slot) → v.1 ≡ y → Stands i
    by (many k) is = subst Stands (some_is (record { level = v.0; index = Some x; kind = k }) i (rw is at e)) (place_each w (frame_of ss) v.0 x k index (many_is w (frame_of ss) v.0 k (here v refl ∙ ap Some is)))
    by (one k) is = let none = rw is at e in absurd cc

  pub instance_right : (s : Span) (p : WrittenPlace) (i : Instance) → instance_at t ss s p ≡ Ok i → Stands i
  instance_right s (place.Name p name) i e = one_stands (variable_in ss name.name) i (variable_is name.name) (at_is s (one_instance (variable_in ss name.name)) i e)
  instance_right s (place.Index p name x) i e =
      let h = went (of_kind t ss s x integer) _ i e in
      each_stands (variable_in ss name.name) h.0 i (variable_is name.name) (kind_right s x integer h.0 h.1) (at_is s (one_of_many (variable_in ss name.name) h.0) i h.2)

  -- ---- methods with their arguments

  pub record CallRight (name : List ℕ) (c : Called) : Type 0 where
    pub method : ℕ × Signature
    pub named : method_named (strictly w) c.0.kind name ≡ Some method
    pub number : method.0 ≡ c.1
    pub effect_is : method.1.effect ≡ c.2
    pub typed : Each w (frame_of ss) c.3 method.1.params
    pub stands : Stands c.0

  pub called_right : (s : Span) (i : Instance) (name : List ℕ) (xs : List Written) (c : Called) → Stands i → called t ss s i name xs ≡ Ok c → CallRight name c × (i ≡ c.0)
  called_right s i name xs c stands e =
      let m = there_is s (method_named t.env.limits i.kind name) _ c e in
      let a = there_is s (arguments m.0.1.params (operands_of t ss xs)) _ c m.2 in
      let named = subst (λ g. method_named g i.kind name ≡ Some m.0) (ground_is t.env w fits) m.1 in
      let typed = arguments_right w (frame_of ss) m.0.1.params (operands_of t ss xs) a.0 (operands_good xs) a.1 in
      subst (λ d. CallRight name d × (i ≡ d.0)) (ok_is (i, m.0.0, m.0.1.effect, a.0) c a.2)
      (record { method = m.0; named = named; number = refl; effect_is = refl; typed = typed; stands = stands }, refl)

  pub call_right : (s : Span) (call : Call) (c : Called) → call_at t ss s call ≡ Ok c → CallRight call.method.name c
  call_right s call c e =
      let i = went (instance_at t ss s call.place) _ c e in
      (called_right s i.0 call.method.name call.arguments c (instance_right s call.place i.0 i.1) i.2).0

  pub calls_true : (name : List ℕ) (c : Called) (p : Effect → Bool) → CallRight name c → p c.2 ≡ true → calls w (frame_of ss) (place_of c.0) c.1 c.3 p ≡ true
  calls_true name c p h passes =
      let there = method_is w c.0.kind name h.method h.named in
      let found : method_at w.shapes (place_typing w (place_of c.0) (frame_of ss)) c.1 ≡ Some h.method.1 =
      ap (λ o. method_at w.shapes o c.1) h.stands ∙ subst (λ n. slice_get (methods w.shapes c.0.kind) n ≡ Some h.method.1) h.number there in
      let types : have_types w (frame_of ss) c.3 h.method.1.params ≡ true = ap (λ o. is_typed o (λ js. same_kinds js h.method.1.params)) h.typed ∙ same_kinds_self h.method.1.params in
      let last : p h.method.1.effect ≡ true = subst (λ e. p e ≡ true) (sym h.effect_is) passes in
      rw found (and_from (have_types w (frame_of ss) c.3 h.method.1.params) (p h.method.1.effect) types last)

  -- ---- variables that take values

  pub record Takes (v : ℕ × Kind) : Type 0 where
    pub here : one_at (frame_of ss) v.0 ≡ Some v.1
    pub own : nat_le t.base v.0 ≡ true
    pub right : is_value w.shapes v.1 ≡ true

  pub assignable_right : (name : List ℕ) (v : ℕ × Kind) → assignable t ss name ≡ Some v → Takes v
  assignable_right name v e = by (variable_in ss name) refl where
    slot_takes : (u : ℕ × Slot) (x : Slot) → u.1 ≡ x → variable_in ss name ≡ Some u → Takes v
    slot_takes u (one k) is named =
        let h = tested_step (nat_le t.base u.0 && is_typed_value t.env.limits k) (Some (u.0, k)) v (rw is at (rw named at e)) in
        let b = and_parts (nat_le t.base u.0) (is_typed_value t.env.limits k) h.0 in
        let here = one_is w (frame_of ss) u.0 k (variable_is name u named ∙ ap Some is) in
        subst Takes (some_is (u.0, k) v h.1) (record { here = here; own = b.0; right = strict_value w k (subst (λ g. is_typed_value g k ≡ true) (ground_is t.env w fits) b.1) })
    slot_takes u (many k) is named = let none = rw is at (rw named at e) in absurd cc

    by : (o : Option (ℕ × Slot)) → variable_in ss name ≡ o → Takes v
    by None is = let none = rw is at e in absurd cc
    by (Some u) is = slot_takes u u.1 refl is
