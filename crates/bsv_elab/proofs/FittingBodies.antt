-- What carrying out the body of a module gives agrees with the module, however deep modules are in modules.
use Rattle.std.proofs.Common.{◌≡◌, ◌∙◌, ℕ, zero, suc, ◌<◌, true, ◌&&◌, List, [], ◌∷◌, map, length, take, replicate, Option, Some, Ok, refl, sym, subst, inr}
use Rattle.std.specs.Prelude.{◌==◌, slice_get}
use Rattle.std.specs.List.{list_all}
use Rattle.std.proofs.lemmas.List.{length-replicate}
use Rattle.std.proofs.lemmas.Option.{slice_get_within, same_Some}
use Rattle.std.proofs.lemmas.Bool.{and_parts}
use Rattle.bsv_lemmas.proofs.Choices.{same_ok, err_never_ok}
use Rattle.bsv_lemmas.proofs.Places.{passes_at}
use Rattle.bsv_ast.specs.Names.{is_lower}
use Rattle.bsv_types.specs.declared.definitions.Param.{Param}
use Rattle.bsv_types.specs.declared.modules.Module.{Module}
use Rattle.bsv_types.specs.declared.typed.Typed.{Typed}
use Rattle.bsv_types.specs.Expressions.{Frame}
use Rattle.bsv_types.specs.Kinds.{kind}
use Rattle.bsv_types.specs.Methods.{methods}
use Rattle.bsv_types.specs.Modules as rules
use Rattle.bsv_types.specs.Modules.{header, module_stmt_run, param_names, param_slots, param_right, numbers_right, module_right}
use Rattle.bsv_types.specs.Names.{lower_names, countable, of_module}
use Rattle.bsv_types.specs.Shapes.{is_instance}
use Rattle.bsv_types.specs.Statements as typing
use Rattle.bsv_types.specs.Statements.{inner}
use Rattle.bsv_tree.specs.declared.statics.Binding.{Binding}
use Rattle.bsv_tree.specs.declared.tree.BuiltRule.{BuiltRule}
use Rattle.bsv_tree.specs.declared.tree.Instance.{Instance}
use Rattle.bsv_tree.specs.tree.Trees.{shapes, world, AllFit, RuleAgrees}
use Rattle.bsv_elab.specs.declared.state.Done.{Done}
use Rattle.bsv_elab.specs.declared.state.Grown.{Grown}
use Rattle.bsv_elab.specs.declared.state.Marks.{Marks}
use Rattle.bsv_elab.specs.declared.state.State.{State}
use Rattle.bsv_elab.specs.Attributes.{marks_of}
use Rattle.bsv_elab.specs.Statics.{Here}
use Rattle.bsv_elab.specs.Making.{Bodies}
use Rattle.bsv_elab.specs.Bodies.{run, stmt}
use Rattle.bsv_elab.specs.Building.{opening, done, body_of, body_at}
use Rattle.bsv_elab.proofs.Directly.{method_stands, own_methods_only}
use Rattle.bsv_elab.proofs.FittingTrees.{RulesAgree}
use Rattle.bsv_elab.proofs.FittingScopes.{fit_length, fit_levels, AllWide}
use Rattle.bsv_elab.proofs.FittingSteps.{went, inner_is}
use Rattle.bsv_elab.proofs.FittingStates.{Fit}
use Rattle.bsv_elab.proofs.FittingKinds.{modules_are_right}
use Rattle.bsv_elab.proofs.FittingMade.{home, BodyMade, BodiesRight}
use Rattle.bsv_elab.proofs.FittingLevels.{Direct, direct_right}

-- the typing rules of a body
record BodyRight (t : Typed) (m : Module) : Type 0 where
  numbers : numbers_right m ≡ true
  runs : inner (typing.run (map (module_stmt_run (rules.site_of (world t) (map header t.modules) m)) m.body)) (param_slots m.params) ≡ true

body_right : (t : Typed) (number : ℕ) (m : Module) → slice_get t.modules number ≡ Some m → BodyRight t m
body_right t number m there =
    let e = passes_at (module_right (world t) (map header t.modules)) t.modules number m (modules_are_right t) there in
    let runs = inner (typing.run (map (module_stmt_run (rules.site_of (world t) (map header t.modules) m)) m.body)) (param_slots m.params) in
    let front =
    is_lower m.name && list_all of_module m.attributes && lower_names (param_names m.params) && list_all (param_right (world t)) m.params &&
    is_instance (shapes t) (kind m.interface) && length m.methods == length (methods (shapes t) (kind m.interface)) && countable m.rules && countable m.methods in
    let a = and_parts (front && numbers_right m) runs e in
    record { numbers = (and_parts front (numbers_right m) a.0).1; runs = a.1 }

-- parameters are no arrays
params_wide : (t : Typed) (ps : List Param) → AllWide t (param_slots ps) (replicate (length (param_slots ps)) 0)
params_wide t [] = tt
params_wide t (p ∷ ps) = (tt, params_wide t ps)

rules_at : (t : Typed) (is : List Instance) (m : Module) (rs : List BuiltRule) (place : ℕ) (r : BuiltRule) → RulesAgree t is m rs → slice_get rs place ≡ Some r → RuleAgrees t is m r
rules_at t is m [] place r h e = absurd (none_there place r e) where
  none_there : (n : ℕ) (q : BuiltRule) → slice_get [] n ≡ Some q → ⊥
  none_there n q e = absurd cc
rules_at t is m (q ∷ rs) zero r h e = subst (RuleAgrees t is m) (same_Some q r e) h.0
rules_at t is m (q ∷ rs) (suc place) r h e = rules_at t is m rs place r h.1 e

module _ (t : Typed) where
  opening_fits : (m : Module) (bs : List Binding) (g : Grown) → AllFit t g.instances (param_slots m.params) bs → Fit t m (param_slots m.params) (opening m bs g)
  opening_fits m bs g fits = record {
    fits = fits;
    widths = subst (λ n. AllWide t (param_slots m.params) (replicate n 0)) (sym (fit_length t g.instances (param_slots m.params) bs fits)) (params_wide t m.params);
    rules = tt;
  }

  module _ (number : ℕ) (path around : List ℕ) (first : ℕ) (bodies : Bodies) (right : BodiesRight t first bodies) (m : Module) (of : slice_get t.modules number ≡ Some m) where
    abbrev here : Here
    here = home t number path around first

    -- the end of the body
    ended : (bs : List Binding) (g : Grown) (s : State) (marks : Marks) (f : Frame) → Direct t m number path around first bodies right of m.body (param_slots m.params) (opening m bs g) f s → BodyMade t number g (done number s marks)
    ended bs g s marks f h =
        let numbers = (body_right t number m of).numbers in
        let many : length s.scope.levels ≡ length m.methods = h.moved.as_many ∙ length-replicate (length m.methods) 0 in
        record {
          number_is = refl;
          grew = h.moved.grew;
          agrees = record {
            «module» = m;
            of = of;
            rules = λ place r there. rules_at t s.grown.instances m s.scope.rules place r h.moved.fit.rules there;
            as_many = many;
            methods = λ n level there.
                let below : n < length m.methods = subst (λ k. n < k) many (slice_get_within s.scope.levels n level there) in
                let l = h.levels n (inr (method_stands m numbers n below)) level there in
                record { frame = take level f; typed = l.typed; fits = fit_levels t s.grown.instances level f s.scope.bindings h.moved.fit.fits };
          };
        }

    body_made : (bs : List Binding) (g : Grown) (d : Done) → AllFit t g.instances (param_slots m.params) bs → body_of bodies here (Some m) bs g ≡ Ok d → BodyMade t number g d
    body_made bs g d fits e =
        let typed = body_right t number m of in
        let s = went (run bodies here (map (stmt bodies here) m.body) (opening m bs g)) _ d e in
        let marks = went (marks_of m s.0.scope.rules) _ d s.2 in
        let f = inner_is (typing.run (map (module_stmt_run (rules.site_of (world t) (map header t.modules) m)) m.body)) (param_slots m.params) typed.runs in
        let h = direct_right t m number path around first bodies right of m.body (own_methods_only m typed.numbers) (opening m bs g) s.0 (param_slots m.params) f.0 (opening_fits m bs g fits) f.1 s.1 in
        subst (BodyMade t number g) (same_ok (done number s.0 marks.0) d marks.2) (ended bs g s.0 marks.0 f.0 h)

  -- modules in modules
  pub bodies_right : (depth first : ℕ) → BodiesRight t first (body_at depth)
  unfolding body_at
  bodies_right zero first number path around source bs g d there fits e = absurd (err_never_ok _ d e)
  bodies_right (suc depth) first number path around source bs g d there fits e =
      body_made number path around first (body_at depth) (bodies_right depth first) source there bs g d fits
      (subst (λ (o : Option Module). body_of (body_at depth) (home t number path around first) o bs g ≡ Ok d) there e)
