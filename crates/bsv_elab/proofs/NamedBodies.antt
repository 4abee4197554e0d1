-- What the body of a module makes, and the bodies of the modules in it.
use Rattle.std.proofs.Common.{◌≡◌, ◌∙◌, ℕ, zero, suc, ◌+◌, Bool, true, false, ◌&&◌, List, [], ◌∷◌, ◌++◌, map, length, Option, Some, None, Ok, refl, sym, ap, subst, arith}
use Rattle.std.specs.Prelude.{◌==◌, slice_get}
use Rattle.std.specs.List.{list_all}
use Rattle.std.proofs.lemmas.Bool.{and_parts}
use Rattle.std.proofs.lemmas.List.{map-append}
use Rattle.std.proofs.lemmas.Option.{same_Some}
use Rattle.bsv_lemmas.proofs.Choices.{same_ok}
use Rattle.bsv_lemmas.proofs.Places.{passes_at}
use Rattle.bsv_ast.specs.Names.{is_lower}
use Rattle.bsv_fail.specs.Given.{◌>>=◌}
use Rattle.bsv_types.specs.declared.modules.Method.{Method}
use Rattle.bsv_types.specs.declared.modules.Module.{Module}
use Rattle.bsv_types.specs.declared.modules.ModuleBranch.{ModuleBranch}
use Rattle.bsv_types.specs.declared.modules.ModuleStmt.{ModuleStmt, out-ModuleStmt, map-ModuleStmt, fold_out-ModuleStmt}
use Rattle.bsv_types.specs.declared.modules.ModuleBranch.{fold-ModuleBranch}
use Rattle.bsv_types.specs.declared.modules.ModuleStmt.TheOpen.{ModuleStmt-F}
use Rattle.bsv_types.specs.Kinds.{kind}
use Rattle.bsv_types.specs.Shapes.{is_instance}
use Rattle.bsv_types.specs.Methods.{methods}
use Rattle.bsv_types.specs.Expressions.{World}
use Rattle.bsv_types.specs.Statements.{Run, inner}
use Rattle.bsv_types.specs.Statements as typed
use Rattle.bsv_types.specs.Names.{distinct, lower_names, countable, of_module}
use Rattle.bsv_types.specs.Modules.{Header, param_names, param_slots, param_right, module_stmt_run, numbers_right, site_of, module_right}
use Rattle.bsv_tree.specs.declared.statics.Binding.{Binding}
use Rattle.bsv_tree.specs.declared.tree.BuiltRule.{BuiltRule}
use Rattle.bsv_design.specs.design.Paths.{joined}
use Rattle.bsv_design.proofs.Dotted.{AreLower}
use Rattle.bsv_elab.specs.declared.state.Done.{Done}
use Rattle.bsv_elab.specs.declared.state.Grown.{Grown}
use Rattle.bsv_elab.specs.declared.state.State.{State}
use Rattle.bsv_elab.specs.Statics.{Here, Builds, weigh}
use Rattle.bsv_elab.specs.Attributes.{marks_of}
use Rattle.bsv_elab.specs.Making.{Bodies}
use Rattle.bsv_elab.specs.Elements.{here_module, methods_of, method}
use Rattle.bsv_elab.specs.Bodies.{Branched, run, stmt_step, branch_step, stmt}
use Rattle.bsv_elab.specs.Building.{opening, done, body_of, body_at}
use Rattle.bsv_elab.proofs.NamedLists.{Found, in_first, in_second, found, is_in, names_differ}
use Rattle.bsv_elab.proofs.NamedGroups.{StandsDirectly}
use Rattle.bsv_elab.proofs.NamedMakes.{Kept, kept, Lows, Within, marks_both}
use Rattle.bsv_elab.proofs.NamedStill.{weigh_still}
use Rattle.bsv_elab.proofs.NamedMaking.{BodyMade, GoodBodies, LowParameters}
use Rattle.bsv_elab.proofs.NamedElements.{method_took}
use Rattle.bsv_elab.proofs.NamedStatements.{EachGood, run_good}
use Rattle.bsv_elab.proofs.NamedKnot.{body_good}
use Rattle.bsv_elab.proofs.PlacedCounts.{occurs, occurs_in, is_of, rule_counts}
use Rattle.bsv_elab.proofs.PlacedMarks.{rules_within, marks_of_within}
use Rattle.bsv_elab.proofs.FittingSteps.{went, inner_is}

-- ---- what typing says of a module

pub record Tests (b c i j : Bool) : Type 0 where
  pub second : b ≡ true
  pub third : c ≡ true
  pub numbers : i ≡ true
  pub last : j ≡ true

tests : (a b c d e f g h i j : Bool) → (a && b && c && d && e && f && g && h && i && j) ≡ true → Tests b c i j
tests a b c d e f g h i j is =
    let p9 = and_parts (a && b && c && d && e && f && g && h && i) j is in
    let p8 = and_parts (a && b && c && d && e && f && g && h) i p9.0 in
    let p7 = and_parts (a && b && c && d && e && f && g) h p8.0 in
    let p6 = and_parts (a && b && c && d && e && f) g p7.0 in
    let p5 = and_parts (a && b && c && d && e) f p6.0 in
    let p4 = and_parts (a && b && c && d) e p5.0 in
    let p3 = and_parts (a && b && c) d p4.0 in
    let p2 = and_parts (a && b) c p3.0 in
    let p1 = and_parts a b p2.0 in
    record { second = p1.1; third = p2.1; numbers = p8.1; last = p9.1 }

abbrev pub typed_body : World → List Header → Module → Run
typed_body w headers m = typed.run (map (module_stmt_run (site_of w headers m)) m.body)

pub module_tests : (w : World) (headers : List Header) (m : Module) → module_right w headers m ≡ true
    → Tests (list_all of_module m.attributes) (lower_names (param_names m.params)) (numbers_right m) (inner (typed_body w headers m) (param_slots m.params))
module_tests w headers m h =
    tests (is_lower m.name) (list_all of_module m.attributes) (lower_names (param_names m.params)) (list_all (param_right w) m.params)
    (is_instance w.shapes (kind m.interface))
    (length m.methods == length (methods w.shapes (kind m.interface))) (countable m.rules) (countable m.methods) (numbers_right m)
    (inner (typed_body w headers m) (param_slots m.params)) h

-- ---- a method that stands directly in the body

module _ (bodies : Bodies) (here : Here) where
  record Split (xs : List Builds) (a : Builds) (ys : List Builds) (s z : State) : Type 0 where
    before : State
    behind : State
    first : run bodies here xs s ≡ Ok before
    own : a before ≡ Ok behind
    last : run bodies here ys behind ≡ Ok z

  split : (xs : List Builds) (a : Builds) (ys : List Builds) (s z : State) → run bodies here (xs ++ a ∷ ys) s ≡ Ok z → Split xs a ys s z
  unfolding run
  split [] a ys s z e = let r = went (a s) _ z e in record { before = s; behind = r.0; first = refl; own = r.1; last = r.2 }
  split (x ∷ xs) a ys s z e =
      let r = went (x s) _ z e in
      let h = split xs a ys r.0 z r.2 in
      record { before = h.before; behind = h.behind; first = ap (λ q. q >>= run bodies here xs) r.1 ∙ h.first; own = h.own; last = h.last }

  direct_is : (x : ModuleStmt) (number : ℕ) → out-ModuleStmt x ≡ ModuleStmt-F.Method number
      → stmt bodies here x ≡ stmt_step bodies here (ModuleStmt-F.Method number)
  unfolding stmt
  direct_is x number is =
      fold_out-ModuleStmt Builds (Branched bodies here) (stmt_step bodies here) (branch_step bodies here) x
      ∙ ap (λ z. stmt_step bodies here (map-ModuleStmt ModuleStmt ModuleBranch Builds (Branched bodies here) (stmt bodies here)
      (fold-ModuleBranch Builds (Branched bodies here) (stmt_step bodies here) (branch_step bodies here)) z)) is

each_split : (ms : List Module) (bodies : Bodies) (here : Here) (base : List (List ℕ)) (xs ys : List Builds)
    → EachGood ms bodies here base (xs ++ ys) → (EachGood ms bodies here base xs) × (EachGood ms bodies here base ys)
each_split ms bodies here base [] ys h = (tt, h)
each_split ms bodies here base (x ∷ xs) ys h = let r = each_split ms bodies here base xs ys h.1 in ((h.0, r.0), r.1)

apart_by : (front rest : List BuiltRule) (before behind : State) (name : List ℕ) → is_in name before.scope.elements.taken ≡ false
    → is_in name behind.scope.elements.taken ≡ true
    → ((k : ℕ) (q : BuiltRule) → slice_get front k ≡ Some q → is_in q.name before.scope.elements.taken ≡ true)
    → ((k : ℕ) (q : BuiltRule) → slice_get rest k ≡ Some q → is_in q.name behind.scope.elements.taken ≡ false)
    → (i : ℕ) (r : BuiltRule) → Found front rest i r → r.name ≡ name → ⊥
apart_by front rest before behind name fresh taken h g i r (in_first e) same =
    names_differ r.name name before.scope.elements.taken (h i r e) fresh same
apart_by front rest before behind name fresh taken h g i r (in_second k is e) same =
    names_differ name r.name behind.scope.elements.taken taken (g k r e) (sym same)

module _ (ms : List Module) (bodies : Bodies) (here : Here) (base : List (List ℕ)) where
  -- rules before it and after it have other names
  directly_apart : (xs : List Builds) (a : Builds) (ys : List Builds) (s z : State) (number : ℕ) (m : Method)
      → EachGood ms bodies here base (xs ++ a ∷ ys) → Lows s.scope.bindings → s.scope.rules ≡ []
      → slice_get (methods_of (here_module here)) number ≡ Some m → a ≡ stmt_step bodies here (ModuleStmt-F.Method number)
      → run bodies here (xs ++ a ∷ ys) s ≡ Ok z
      → (i : ℕ) (r : BuiltRule) → slice_get z.scope.rules i ≡ Some r → r.name ≡ m.name → ⊥
  directly_apart xs a ys s z number m each lows none is own e i r at same =
      let p = split bodies here xs a ys s z e in
      let goods = each_split ms bodies here base xs (a ∷ ys) each in
      let first = run_good ms bodies here base xs goods.0 s p.before lows p.first in
      let second = goods.1.0 p.before p.behind first.lows p.own in
      let third = run_good ms bodies here base ys goods.1.1 p.behind z second.lows p.last in
      let w = went (weigh 1 p.before) (method here number) p.behind (ap (λ (f : Builds). f p.before) (sym own) ∙ p.own) in
      let still = weigh_still 1 p.before w.0 w.1 in
      let took = method_took here number m w.0 p.behind is w.2 in
      let front = first.makes in
      let rest = third.makes in
      let fresh = subst (λ (k : Kept). is_in m.name k.elements ≡ false) still.same took.fresh in
      let behind_rules : p.behind.scope.rules ≡ front.rules = took.rules ∙ ap (λ (k : Kept). k.rules) still.same ∙ front.rules_are ∙ ap
      (λ (rs : List BuiltRule). rs ++ front.rules) none in
      let all : z.scope.rules ≡ front.rules ++ rest.rules = rest.rules_are ∙ ap (λ (rs : List BuiltRule). rs ++ rest.rules) behind_rules in
      apart_by front.rules rest.rules p.before p.behind m.name fresh took.taken (λ k q f. front.named.taken k q f) (λ k q f. rest.named.fresh k q f)
      i r (found front.rules rest.rules i r (ap (λ (rs : List BuiltRule). slice_get rs i) (sym all) ∙ at)) same

-- ---- bodies in bodies

module _ (ms : List Module) (w : World) (headers : List Header) (right : list_all (module_right w headers) ms ≡ true) where
  pub parameters_low : LowParameters ms
  parameters_low k m is =
      let t = module_tests w headers m (passes_at (module_right w headers) ms k m right is) in
      (and_parts (list_all is_lower (param_names m.params)) (distinct (param_names m.params)) t.third).0

  module _ (bodies : Bodies) (good : GoodBodies ms bodies) (here : Here) (base : List (List ℕ)) (same : here.modules ≡ ms)
      (path : here.path ≡ joined base) (lower : AreLower base) (m : Module) (own : here_module here ≡ Some m) where
    here_is : slice_get ms here.within ≡ Some m
    here_is = ap (λ (xs : List Module). slice_get xs here.within) (sym same) ∙ own

    tested : Tests (list_all of_module m.attributes) (lower_names (param_names m.params)) (numbers_right m) (inner (typed_body w headers m) (param_slots m.params))
    tested = module_tests w headers m (passes_at (module_right w headers) ms here.within m right here_is)

    all_each : EachGood ms bodies here base (map (stmt bodies here) m.body)
    all_each =
        let t = tested in
        let goes = inner_is (typed_body w headers m) (param_slots m.params) t.last in
        body_good ms bodies here base (site_of w headers m) good parameters_low same path lower (Some m) own refl
        m.body (param_slots m.params) goes.0 goes.1

    body_apart : (bs : List Binding) (g : Grown) (z : State) → Lows bs → run bodies here (map (stmt bodies here) m.body) (opening m bs g) ≡ Ok z
        → (i number : ℕ) (r : BuiltRule) (x : Method) → slice_get z.scope.rules i ≡ Some r → slice_get m.methods number ≡ Some x
        → StandsDirectly m number → r.name ≡ x.name → ⊥
    body_apart bs g z lows e i number r x at is stands =
        let parts = ap (map (stmt bodies here)) stands.is ∙ map-append (stmt bodies here) stands.before (stands.statement ∷ stands.after) in
        let each = subst (EachGood ms bodies here base) parts all_each in
        let ran = subst (λ (xs : List Builds). run bodies here xs (opening m bs g) ≡ Ok z) parts e in
        let method_is = ap (λ (o : Option Module). slice_get (methods_of o) number) own ∙ is in
        directly_apart ms bodies here base (map (stmt bodies here) stands.before) (stmt bodies here stands.statement)
        (map (stmt bodies here) stands.after) (opening m bs g) z number x each lows refl method_is
        (direct_is bodies here stands.statement number stands.out) ran i r at

    body_made : (bs : List Binding) (g : Grown) (d : Done) → Lows bs → body_of bodies here (Some m) bs g ≡ Ok d → BodyMade ms here base g d
    body_made bs g d lows e =
        let z = went (run bodies here (map (stmt bodies here) m.body) (opening m bs g)) _ d e in
        let k = went (marks_of m z.0.scope.rules) _ d z.2 in
        let ran = run_good ms bodies here base (map (stmt bodies here) m.body) all_each (opening m bs g) z.0 lows z.1 in
        let made = ran.makes in
        let t = tested in
        let low = here.first + g.rules in
        let high = here.first + z.0.grown.rules in
        let each : (l : ℕ) (r : BuiltRule) → slice_get z.0.scope.rules l ≡ Some r → Within here.first high r.position =
        λ l r at.
        let there : slice_get made.rules l ≡ Some r = ap (λ (rs : List BuiltRule). slice_get rs l) (sym made.rules_are) ∙ at in
        let counts = rule_counts r.position made.rules l r there refl in
        let of = is_of low high (λ p. occurs p made.rules + occurs_in p made.more) made.positions r.position (omega (arith, counts)) in
        record { above = omega (arith, of.0); below = of.1 } in
        let own_marks = marks_of_within here.first high m z.0.scope.rules k.0 (rules_within here.first high z.0.scope.rules each) t.second k.1 in
        subst (BodyMade ms here base g) (same_ok (done here.within z.0 k.0) d k.2) (record {
          last = kept z.0;
          makes = made;
          instances = refl;
          count = refl;
          rules = refl;
          number = refl;
          marks = marks_both here.first high k.0 z.0.scope.marks own_marks (made.marks (record { pairs = tt; asserts = tt }));
          named = record {
            lower = λ l r at. made.named.lower l r (ap (λ (rs : List BuiltRule). slice_get rs l) (sym made.rules_are) ∙ at);
            rules = λ i j r q a b f. made.named.apart i j r q (ap (λ (rs : List BuiltRule). slice_get rs i) (sym made.rules_are) ∙ a)
                (ap (λ (rs : List BuiltRule). slice_get rs j) (sym made.rules_are) ∙ b) f;
            apart = λ i number r source x at of is stands f.
                let source_is : source ≡ m = same_Some source m (sym of ∙ here_is) in
                let is_here = subst (λ (y : Module). slice_get y.methods number ≡ Some x) source_is is in
                let stands_here = subst (λ (y : Module). StandsDirectly y number) source_is stands in
                body_apart bs g z.0 lows z.1 i number r x at is_here stands_here f;
          };
        })

  body_by : (bodies : Bodies) → GoodBodies ms bodies
      → (here : Here) (base : List (List ℕ)) (bs : List Binding) (g : Grown) (d : Done) (o : Option Module) → here_module here ≡ o
      → here.modules ≡ ms → here.path ≡ joined base → AreLower base
      → Lows bs → body_of bodies here o bs g ≡ Ok d → BodyMade ms here base g d
  body_by bodies good here base bs g d None own same path lower lows e = absurd cc
  body_by bodies good here base bs g d (Some m) own same path lower lows e = body_made bodies good here base same path lower m own bs g d lows e

  pub body_at_good : (depth : ℕ) → GoodBodies ms (body_at depth)
  unfolding body_at
  body_at_good zero here base bs g d same path lower lows e = absurd cc
  body_at_good (suc n) here base bs g d same path lower lows e =
      body_by (body_at n) (body_at_good n) here base bs g d (here_module here) refl same path lower lows e
