-- Carrying out any expression, and any place, gives what it means.
use Rattle.std.proofs.Common.{◌≡◌, ℕ, true, false, List, [], ◌∷◌, length, map, Option, Some, None, Ok, refl, sym, ap, ◌∙◌, subst}
use Rattle.std.specs.Prelude.{slice_get, pos, negsuc}
use Rattle.bsv_lemmas.proofs.Choices.{same_ok}
use Rattle.bsv_fail.specs.Given.{◌>>=◌}
use Rattle.bsv_bits.specs.Words.{Bits}
use Rattle.bsv_types.specs.declared.operators.Op.{Op}
use Rattle.bsv_types.specs.declared.expressions.Expr.{Expr, roll-Expr, ind-Expr, map-Expr, fold-roll-Expr}
use Rattle.bsv_types.specs.declared.expressions.Expr.TheOpen.{Expr-F, Place-F}
use Rattle.bsv_types.specs.declared.expressions.Place.{Place, roll-Place, ind-Place, map-Place, fold-roll-Place}
use Rattle.bsv_types.specs.Kinds.{Kind as Sort, kind}
use Rattle.bsv_tree.specs.declared.statics.Binding.{Binding}
use Rattle.bsv_tree.specs.declared.statics.Static.{Static}
use Rattle.bsv_tree.specs.declared.statics.Static.TheVariants as bound_to
use Rattle.bsv_tree.specs.declared.values.Value.{Value}
use Rattle.bsv_tree.specs.declared.values.Value.TheVariants as value
use Rattle.bsv_tree.specs.declared.values.Constant.TheVariants as constant
use Rattle.bsv_tree.specs.declared.values.Count.{Count}
use Rattle.bsv_tree.specs.declared.values.Work.{Work}
use Rattle.bsv_tree.specs.declared.values.Fault.{Fault}
use Rattle.bsv_tree.specs.carrying.Values as values
use Rattle.bsv_tree.specs.carrying.Calls as calls
use Rattle.bsv_tree.specs.tree.Contexts.{Context}
use Rattle.bsv_tree.specs.carrying.Calls.{Caller, static_fault}
use Rattle.bsv_tree.specs.carrying.Carrying as carrying
use Rattle.bsv_tree.specs.carrying.Carrying.{Carry, Carried, Placing}
use Rattle.bsv_tree.specs.meaning.Evaluation.{Results}
use Rattle.bsv_tree.specs.carrying.Running.{in_turn}
use Rattle.bsv_tree.specs.carrying.Working.{Valued, counted, no_steps}
use Rattle.bsv_tree.specs.meaning.Values.{Value as Val, Variables}
use Rattle.bsv_tree.specs.meaning.Evaluation as evaluation
use Rattle.bsv_tree.specs.meaning.Evaluation.{Evaluation, Evaluated, yields}
use Rattle.bsv_tree.specs.meaning.Control.{Means, chosen}
use Rattle.bsv_tree.specs.meaning.Operators as means
use Rattle.bsv_tree.specs.meaning.Meaning as meaning
use Rattle.bsv_tree.specs.meaning.Meaning.{Meant, Calling}
use Rattle.bsv_tree.proofs.meaning.Same.{Shows, AllShow, AllHold, Same, here, got}
use Rattle.bsv_tree.proofs.meaning.Pieces.{counted_is, bound, given, nothing_more, from_alike, alike_long, alike_ran}
use Rattle.bsv_tree.proofs.meaning.Operating.{V}
use Rattle.bsv_tree.proofs.meaning.InTurn.{operated_is}
use Rattle.bsv_tree.proofs.meaning.Expressions.{Matches, AllMatch, Carries, Places, CallsSame, all_is, static_is, literal_shows, variable_shows, first_same}
use Rattle.bsv_tree.proofs.meaning.Called.{loosened_shows}
use Rattle.bsv_tree.proofs.meaning.Methods.{function_is, method_is}
use Rattle.bsv_tree.proofs.meaning.Choices.{choice_from_is, means_of}

placed_is : (f : Fault) (o : Option Binding) (m : ℕ) → calls.placed f o ≡ Ok m → meaning.instance o 0 ≡ m
placed_is f None m e = absurd cc
placed_is f (Some b) m e = by b.value e where
  by : (x : Static) → calls.placed f (Some (record b { value = x })) ≡ Ok m → meaning.instance (Some (record b { value = x })) 0 ≡ m
  by (bound_to.Place k) e = same_ok k m e
  by (bound_to.Places k) e = absurd cc
  by (bound_to.Number k) e = absurd cc
  by (bound_to.Bits k) e = absurd cc
  by (bound_to.Truth k) e = absurd cc

set_is : (f : Fault) (o : Option (Option ℕ)) (m : ℕ) → calls.set_place f o ≡ Ok m → meaning.set_of o ≡ m
set_is f None m e = absurd cc
set_is f (Some None) m e = absurd cc
set_is f (Some (Some n)) m e = same_ok n m e

placed_at_is : (f : Fault) (o : Option Binding) (at m : ℕ) → calls.placed_at f o at ≡ Ok m → meaning.instance o at ≡ m
placed_at_is f None at m e = absurd cc
placed_at_is f (Some b) at m e = by b.value e where
  by : (x : Static) → calls.placed_at f (Some (record b { value = x })) at ≡ Ok m → meaning.instance (Some (record b { value = x })) at ≡ m
  by (bound_to.Places ks) e = set_is f (slice_get ks at) m e
  by (bound_to.Place k) e = absurd cc
  by (bound_to.Number k) e = absurd cc
  by (bound_to.Bits k) e = absurd cc
  by (bound_to.Truth k) e = absurd cc

module _ (r : Results) (call : Caller) (calling : Calling) (calls_same : CallsSame r call calling) (site : Context) where
  -- ---- nodes

  settled_carries : (c : Carry) (m : Means) (t : Sort) → Carries r c m → Carries r (λ vs w. c vs w >>= carrying.as_static call site t) m
  unfolding Carries
  settled_carries c m t h p ws n k vs us w long hold x v e =
      let g = got (c vs w) (carrying.as_static call site t) (x, v) e in
      h p ws n k vs us w long hold x v (g.1 ∙ ap (λ (o : Value × Work). let u : Valued = Ok o in u) (static_is call site t g.0 (x, v) g.2))

  literal_is : (t : Sort) (number : ℕ) → Carries r (λ vs w. counted w 1 >>= λ w. carrying.literal site.shapes (static_fault site) t number w) (λ us. yields (meaning.literal site.shapes t number))
  unfolding Carries
  literal_is t number p ws n k vs us w long hold x v e =
      let g = got (counted w 1) _ (x, v) e in
      let like = counted_is w 1 g.0 g.1 in
      let it = literal_shows site.shapes (static_fault site) (V r p ws n k g.0) t number g.0 x v g.2 in
      from_alike r p ws n k (λ W y. Shows W x y) w g.0 v (yields (meaning.literal site.shapes t number)) like
      (subst (λ u. Same r p ws n k (λ W y. Shows W x y) g.0 u (here r p ws n k g.0 (yields (meaning.literal site.shapes t number)))) it.0
      (nothing_more r p ws n k (λ W y. Shows W x y) g.0 (alike_long r p ws n k w g.0 like long) _ it.1))

  variable_is : (level : ℕ) → Carries r (λ vs w. counted w 1 >>= λ w. calls.variable site level vs >>= λ x. Ok (x, w)) (λ us. yields (meaning.variable_of r calling site level (slice_get site.bindings level) us))
  unfolding Carries calls.variable
  variable_is level p ws n k vs us w long hold x v e =
      let g = got (counted w 1) _ (x, v) e in
      let like = counted_is w 1 g.0 g.1 in
      let h = got (calls.variable site level vs) (λ y. Ok (y, g.0)) (x, v) g.2 in
      let it = same_ok (h.0, g.0) (x, v) h.2 in
      let hold' = subst (λ W. AllHold W vs us) (ap (λ o. o.words) (sym (alike_ran r p ws n k w g.0 like))) hold in
      from_alike r p ws n k (λ W y. Shows W x y) w g.0 v (yields (meaning.variable_of r calling site level (slice_get site.bindings level) us)) like
      (subst (λ (o : Value × Work). Same r p ws n k (λ W y. Shows W o.0 y) g.0 o.1 (here r p ws n k g.0 (yields (meaning.variable_of r calling site level (slice_get site.bindings level) us)))) it
      (nothing_more r p ws n k (λ W y. Shows W h.0 y) g.0 (alike_long r p ws n k w g.0 like long) _
      (variable_shows r calling site (V r p ws n k g.0) vs us hold' level (slice_get site.bindings level) h.0 h.1)))

  apply_is : (t : Sort) (os : List Op) (cs : List Carried) (ms : List Meant) → AllMatch r cs ms
      → Carries r (carrying.apply call site t os cs) (λ us. evaluation.◌>>=◌ (meaning.all ms us) (λ xs. yields (means.applied site.shapes t (meaning.first_sort t ms) os xs)))
  unfolding Carries carrying.apply
  apply_is t os cs ms h p ws n k vs us w long hold x v e =
      let g = got (counted w (length os)) _ (x, v) e in
      let like = counted_is w (length os) g.0 g.1 in
      let hold' = subst (λ W. AllHold W vs us) (ap (λ o. o.words) (sym (alike_ran r p ws n k w g.0 like))) hold in
      let u = carrying.first_type t cs in
      from_alike r p ws n k (λ W y. Shows W x y) w g.0 v (evaluation.◌>>=◌ (meaning.all ms us) (λ xs. yields (means.applied site.shapes t (meaning.first_sort t ms) os xs))) like
      (subst (λ q. Same r p ws n k (λ W y. Shows W x y) g.0 v (here r p ws n k g.0 (evaluation.◌>>=◌ (meaning.all ms us) (λ xs. yields (means.applied site.shapes t q os xs))))) (first_same r t cs ms h)
      (operated_is r p ws n k vs us site.shapes (static_fault site) os t u cs ms h g.0 (alike_long r p ws n k w g.0 like long) hold' x v g.2))

  call_is : (number : ℕ) (cs : List Carried) (ms : List Meant) → AllMatch r cs ms
      → Carries r (carrying.function call site number cs)
      (λ us. evaluation.◌>>=◌ (meaning.all ms us) (λ xs. evaluation.◌>>=◌ (meaning.function r calling site (slice_get site.functions number) xs) (λ x. yields (meaning.loosened xs x))))
  unfolding Carries carrying.function
  call_is number cs ms h p ws n k vs us w long hold x v e =
      let g = got (counted w 1) _ (x, v) e in
      let like = counted_is w 1 g.0 g.1 in
      let hold' = subst (λ W. AllHold W vs us) (ap (λ o. o.words) (sym (alike_ran r p ws n k w g.0 like))) hold in
      let l = got (carrying.all cs vs g.0) _ (x, v) g.2 in
      let all = all_is r cs ms h p ws n k vs us g.0 (alike_long r p ws n k w g.0 like long) hold' l.0.0 l.0.1 l.1 in
      let ys = (here r p ws n k g.0 (meaning.all ms us)).gives in
      let o = got (calls.function_at call site (slice_get site.functions number) l.0.0 l.0.1) (λ q. Ok (carrying.loosened l.0.0 q.0, q.1)) (x, v) l.2 in
      let one = function_is r call calling calls_same site p ws n k (slice_get site.functions number) l.0.0 ys l.0.1 all.long all.gives o.0.0 o.0.1 o.1 in
      let whole : Variables → Evaluation Val = λ us. evaluation.◌>>=◌ (meaning.all ms us) (λ xs. evaluation.◌>>=◌ (meaning.function r calling site (slice_get site.functions number) xs) (λ x. yields (meaning.loosened xs x))) in
      from_alike r p ws n k (λ W y. Shows W x y) w g.0 v (whole us) like
      (subst (λ (q : Value × Work). Same r p ws n k (λ W y. Shows W q.0 y) g.0 q.1 (here r p ws n k g.0 (whole us))) (same_ok (carrying.loosened l.0.0 o.0.0, o.0.1) (x, v) o.2)
      (bound r p ws n k (λ W zs. AllShow W l.0.0 zs) (λ W y. Shows W (carrying.loosened l.0.0 o.0.0) y) g.0 l.0.1 o.0.1 (meaning.all ms us) (λ xs. evaluation.◌>>=◌ (meaning.function r calling site (slice_get site.functions number) xs) (λ x. yields (meaning.loosened xs x))) all
      (given r p ws n k (λ W y. Shows W o.0.0 y) (λ W y. Shows W (carrying.loosened l.0.0 o.0.0) y) l.0.1 o.0.1 (meaning.function r calling site (slice_get site.functions number) ys) (meaning.loosened ys) one
      (loosened_shows (V r p ws n k o.0.1) (V r p ws n k l.0.1) l.0.0 ys all.gives o.0.0 _ one.gives))))

  method_carries : (c : Placing) (m : Variables → Evaluation ℕ) → Places r c m → (number : ℕ) (cs : List Carried) (ms : List Meant) → AllMatch r cs ms
      → Carries r (carrying.method call site c number cs) (meaning.calls r calling site false m number ms)
  unfolding Carries
  method_carries c m same number cs ms h p ws n k vs us w long hold x v e = method_is r call calling calls_same site p ws n k cs ms h vs us c m same number w long hold x v e

  choice_carries : (ts xs : List Carried) (ms zs : List Meant) → AllMatch r ts ms → AllMatch r xs zs
      → Carries r (carrying.choice call site ts xs) (chosen (map (λ (m : Meant). m.means) ms) (map (λ (m : Meant). m.means) zs))
  unfolding Carries carrying.choice means_of
  choice_carries ts xs ms zs h h' p ws n k vs us w long hold x v e = choice_from_is r vs us p ws n k w long hold ts xs ms zs h h' (static_fault site) w.count refl x v e

  -- ---- all nodes

  unfoldable pub ExprSame : Expr → Type 0
  ExprSame e = Matches r (carrying.expression call site e) (meaning.expression r calling site e)

  unfoldable pub PlaceSame : Place → Type 0
  PlaceSame p = Places r (carrying.place call site p) (meaning.place r calling site p)

  abbrev Child : Type 0
  Child = (e : Expr) × ExprSame e

  abbrev PlaceChild : Type 0
  PlaceChild = (p : Place) × PlaceSame p

  each : (xs : List Child) → AllMatch r (map (carrying.expression call site) (map (λ (x : Child). x.0) xs)) (map (meaning.expression r calling site) (map (λ (x : Child). x.0) xs))
  unfolding ExprSame
  each [] = tt
  each (x ∷ xs) = (x.1, each xs)

  -- one layer, whose parts match
  abbrev Layer : Expr-F Expr Place → Type 0
  Layer y =
      (let c = carrying.expr_step call site (map-Expr Expr Place Carried Placing (carrying.expression call site) (carrying.place call site) y) in
      let m = meaning.expr_step r calling site (map-Expr Expr Place Meant (Variables → Evaluation ℕ) (meaning.expression r calling site) (meaning.place r calling site) y) in
      (c.sort ≡ m.sort) × Carries r c.carry m.means)

  layer : (y : Expr-F Child PlaceChild) → Layer (map-Expr Child PlaceChild Expr Place (λ x. x.0) (λ x. x.0) y)
  unfolding PlaceSame
  layer (Expr-F.Literal t number) = (refl, settled_carries _ _ (kind t) (literal_is (kind t) number))
  layer (Expr-F.Variable t level) = (refl, settled_carries _ _ (kind t) (variable_is level))
  layer (Expr-F.Apply t os xs) = (refl, settled_carries _ _ (kind t) (apply_is (kind t) os _ _ (each xs)))
  layer (Expr-F.Call t number xs) = (refl, settled_carries _ _ (kind t) (call_is number _ _ (each xs)))
  layer (Expr-F.Method t q number xs) = (refl, settled_carries _ _ (kind t) (method_carries (carrying.place call site q.0) (meaning.place r calling site q.0) q.1 number _ _ (each xs)))
  layer (Expr-F.Choice t ts xs) = (refl, settled_carries _ _ (kind t) (choice_carries _ _ _ _ (each ts) (each xs)))

  -- ---- places

  static_index : (x : Value) (at : ℕ) → carrying.index_of call site x ≡ Ok at → (values.is_static x ≡ true) × ((W : List Bits) (y : Val) → Shows W x y → meaning.index_of r calling site y ≡ at)
  static_index (value.Static (constant.Number (pos m))) at e = (refl, λ W y s. ap (meaning.index_of r calling site) s ∙ same_ok m at e)
  static_index (value.Static (constant.Number (negsuc m))) at e = absurd cc
  static_index (value.Static (constant.Bits m)) at e = absurd cc
  static_index (value.Open m) at e = absurd cc

  one_place_is : (level : ℕ) → Places r (carrying.place_of call site level None) (meaning.place_of r calling site level None)
  unfolding Places
  one_place_is level p W n k vs us a long hold i b e =
      let g = got (calls.placed (static_fault site) (slice_get site.bindings level)) (λ m. Ok (m, a)) (i, b) e in
      let it = same_ok (g.0, a) (i, b) g.2 in
      let at : meaning.instance (slice_get site.bindings level) 0 ≡ i = placed_is (static_fault site) (slice_get site.bindings level) g.0 g.1 ∙ ap (λ (o : ℕ × Count). o.0) it in
      (ap (λ (o : ℕ × Count). o.1.slots) (sym it), ap (λ m. let o : Evaluated ℕ = record { gives = m; choices = n; sites = k; calls = []; needs = [] } in o) at)

  array_place_is : (level : ℕ) (c : Carried) (m : Meant) → Matches r c m → Places r (carrying.place_of call site level (Some c)) (meaning.place_of r calling site level (Some m))
  unfolding Places Carries in_turn
  array_place_is level c m h p W n k vs us a long hold i b e =
      let g = got (c.carry vs (no_steps a)) _ (i, b) e in
      let l = got (carrying.index_of call site g.0.0) _ (i, b) g.2 in
      let o = got (calls.placed_at (static_fault site) (slice_get site.bindings level) l.0) (λ m. Ok (m, carrying.after_arm a g.0.1.count)) (i, b) l.2 in
      let it = same_ok (o.0, carrying.after_arm a g.0.1.count) (i, b) o.2 in
      let index = static_index g.0.0 l.0 l.1 in
      let first = h.carries p W n k vs us (no_steps a) long hold g.0.0 g.0.1 g.1 in
      let at : meaning.instance (slice_get site.bindings level) (meaning.index_of r calling site (m.means us p n k).gives) ≡ i =
      ap (meaning.instance (slice_get site.bindings level)) (index.1 _ _ first.gives)
      ∙ placed_at_is (static_fault site) (slice_get site.bindings level) l.0 o.0 o.1 ∙ ap (λ (o : ℕ × Count). o.0) it in (
        ap (λ (o : ℕ × Count). o.1.slots) (sym it),
        ap (λ m. let o : Evaluated ℕ = record { gives = m; choices = n; sites = k; calls = []; needs = [] } in o) at,
      )

  -- ---- the trees

  same_node : (e : Expr) → (let c = carrying.expression call site e in let m = meaning.expression r calling site e in (c.sort ≡ m.sort) × Carries r c.carry m.means) → ExprSame e
  unfolding ExprSame
  same_node e h = record { sort = h.0; carries = h.1 }

  expr_rolled : (y : Expr-F Expr Place) → Layer y → ExprSame (roll-Expr y)
  unfolding carrying.expression carrying.place meaning.expression meaning.place
  expr_rolled y h =
      same_node (roll-Expr y)
      (subst (λ (m : Meant). let c = carrying.expression call site (roll-Expr y) in (c.sort ≡ m.sort) × Carries r c.carry m.means) (sym (fold-roll-Expr Meant (Variables → Evaluation ℕ) (meaning.expr_step r calling site) (meaning.place_step r calling site) y))
      (subst (λ (c : Carried). let m = meaning.expr_step r calling site (map-Expr Expr Place Meant (Variables → Evaluation ℕ) (meaning.expression r calling site) (meaning.place r calling site) y) in (c.sort ≡ m.sort) × Carries r c.carry m.means)
      (sym (fold-roll-Expr Carried Placing (carrying.expr_step call site) (carrying.place_step call site) y)) h))

  abbrev at_level : ℕ → Option Child → Place-F Child PlaceChild
  at_level level o = record { level = level; index = o }

  abbrev PlaceLayer : Place-F Expr Place → Type 0
  PlaceLayer y =
      Places r (carrying.place_step call site (map-Place Expr Place Carried Placing (carrying.expression call site) (carrying.place call site) y))
      (meaning.place_step r calling site (map-Place Expr Place Meant (Variables → Evaluation ℕ) (meaning.expression r calling site) (meaning.place r calling site) y))

  place_layer : (level : ℕ) (o : Option Child) → PlaceLayer (map-Place Child PlaceChild Expr Place (λ x. x.0) (λ x. x.0) (at_level level o))
  unfolding ExprSame
  place_layer level None = one_place_is level
  place_layer level (Some x) = array_place_is level _ _ x.1

  place_rolled : (y : Place-F Expr Place) → PlaceLayer y → PlaceSame (roll-Place y)
  unfolding carrying.expression carrying.place meaning.expression meaning.place PlaceSame
  place_rolled y h =
      subst (λ m. Places r (carrying.place call site (roll-Place y)) m) (sym (fold-roll-Place Meant (Variables → Evaluation ℕ) (meaning.expr_step r calling site) (meaning.place_step r calling site) y))
      (subst (λ c. Places r c (meaning.place_step r calling site (map-Place Expr Place Meant (Variables → Evaluation ℕ) (meaning.expression r calling site) (meaning.place r calling site) y)))
      (sym (fold-roll-Place Carried Placing (carrying.expr_step call site) (carrying.place_step call site) y)) h)

  -- every expression
  pub expr_same : (e : Expr) → ExprSame e
  expr_same = ind-Expr ExprSame PlaceSame
      (λ x y is. subst (λ z. ExprSame (roll-Expr z)) is (expr_rolled (map-Expr Child PlaceChild Expr Place (λ x. x.0) (λ x. x.0) y) (layer y)))
      (λ x y is. subst (λ z. PlaceSame (roll-Place z)) is (place_rolled (map-Place Child PlaceChild Expr Place (λ x. x.0) (λ x. x.0) y) (place_layer y.level y.index)))

  pub place_same : (p : Place) → PlaceSame p
  place_same = ind-Place ExprSame PlaceSame
      (λ x y is. subst (λ z. ExprSame (roll-Expr z)) is (expr_rolled (map-Expr Child PlaceChild Expr Place (λ x. x.0) (λ x. x.0) y) (layer y)))
      (λ x y is. subst (λ z. PlaceSame (roll-Place z)) is (place_rolled (map-Place Child PlaceChild Expr Place (λ x. x.0) (λ x. x.0) y) (place_layer y.level y.index)))

  pub exprs_same : (xs : List Expr) → AllMatch r (map (carrying.expression call site) xs) (map (meaning.expression r calling site) xs)
  unfolding ExprSame
  exprs_same [] = tt
  exprs_same (x ∷ xs) = (expr_same x, exprs_same xs)
