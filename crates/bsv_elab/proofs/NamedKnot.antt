-- What each typed statement of a module makes.
use Rattle.std.proofs.Common.{◌≡◌, ◌∙◌, ℕ, Bool, true, false, ◌&&◌, List, [], ◌∷◌, ◌++◌, map, length, Option, Some, None, refl, sym, ap, subst}
use Rattle.std.specs.Prelude.{slice_get}
use Rattle.std.specs.List.{list_all}
use Rattle.std.proofs.lemmas.Bool.{and_parts}
use Rattle.bsv_ast.specs.Names.{is_lower}
use Rattle.bsv_types.specs.declared.expressions.Expr.{Expr}
use Rattle.bsv_types.specs.declared.modules.Module.{Module}
use Rattle.bsv_types.specs.declared.modules.Rule.{Rule}
use Rattle.bsv_types.specs.declared.modules.ModuleBranch.{ModuleBranch, roll-ModuleBranch, fold-ModuleBranch, fold-roll-ModuleBranch}
use Rattle.bsv_types.specs.declared.modules.ModuleStmt.{ModuleStmt, roll-ModuleStmt, ind-ModuleStmt, map-ModuleStmt, fold-ModuleStmt, fold-roll-ModuleStmt}
use Rattle.bsv_types.specs.declared.modules.ModuleStmt.TheOpen.{ModuleStmt-F}
use Rattle.bsv_types.specs.declared.statements.Head.{Head}
use Rattle.bsv_types.specs.Kinds.{bool, integer, kind}
use Rattle.bsv_types.specs.Operators.{◌>>=◌ as and_then}
use Rattle.bsv_types.specs.Shapes.{is_value, is_instance}
use Rattle.bsv_types.specs.Expressions.{Frame, one, many, World, has_type}
use Rattle.bsv_types.specs.Statements.{Run, if_right, inner, all_inner, inner_too, assigns, in_loop, acts_right}
use Rattle.bsv_types.specs.Statements as typed
use Rattle.bsv_types.specs.Names.{of_rule}
use Rattle.bsv_types.specs.Modules.{ModuleContext, makes, condition_right, rule_right, module_stmt_step, module_branch_step}
use Rattle.bsv_design.specs.design.Paths.{joined}
use Rattle.bsv_design.proofs.Dotted.{AreLower}
use Rattle.bsv_elab.specs.Statics.{Here, Builds, weigh}
use Rattle.bsv_elab.specs.Making.{Bodies, width_in}
use Rattle.bsv_elab.specs.Elements.{rules_of, here_module}
use Rattle.bsv_elab.specs.Bodies.{Branched, run, stmt_case, stmt_step, branch_step, stmt}
use Rattle.bsv_elab.proofs.NamedMakes.{Good}
use Rattle.bsv_elab.proofs.NamedStill.{weigh_still, truth_still, still_ran, ran_after, inside_good}
use Rattle.bsv_elab.proofs.NamedMaking.{GoodBodies, LowParameters}
use Rattle.bsv_elab.proofs.NamedElements.{rule_good, method_good}
use Rattle.bsv_elab.proofs.NamedStatements.{EachGood, GoodArm, EachArm, run_good, chain_good, set_good, looped_good, instance_good, array_good, place_good, declare_good}
use Rattle.bsv_elab.proofs.FittingSteps.{went as through, inner_is}

-- ---- what typing says

right_is : (b : Bool) (frame next : Frame) → if_right b frame ≡ Some next → b ≡ true
right_is true frame next e = refl
right_is false frame next e = absurd cc

-- one step after the other
record Went (x y : Run) (frame last : Frame) : Type 0 where
  next : Frame
  first : x frame ≡ Some next
  rest : y next ≡ Some last

went : (x y : Run) (frame last : Frame) → and_then (x frame) y ≡ Some last → Went x y frame last
went x y frame last e = by (x frame) refl e where
  by : (o : Option Frame) → x frame ≡ o → and_then o y ≡ Some last → Went x y frame last
  by None is f = absurd cc
  by (Some next) is f = record { next = next; first = is; rest = f }

enters : (w : World) (h : Head) (frame next : Frame) → in_loop w 0 h frame ≡ Some next → is_lower h.variable ≡ true
enters w h frame next e = by (is_lower h.variable) refl where
  by : (b : Bool) → is_lower h.variable ≡ b → is_lower h.variable ≡ true
  by true is = is
  by false is = let never = rw is at e in absurd cc

module _ (ms : List Module) (bodies : Bodies) (here : Here) (base : List (List ℕ)) (site : ModuleContext) where
  abbrev ran : ModuleStmt → Run
  ran = fold-ModuleStmt Run Run (module_stmt_step site) (module_branch_step site)

  abbrev ran_branch : ModuleBranch → Run
  ran_branch = fold-ModuleBranch Run Run (module_stmt_step site) (module_branch_step site)

  abbrev built : ModuleStmt → Builds
  built = fold-ModuleStmt Builds (Branched bodies here) (stmt_step bodies here) (branch_step bodies here)

  abbrev built_branch : ModuleBranch → Branched bodies here
  built_branch = fold-ModuleBranch Builds (Branched bodies here) (stmt_step bodies here) (branch_step bodies here)

  -- where it is typed it makes what it may
  abbrev IsGood : Run → Builds → Type 0
  IsGood r a = (frame next : Frame) → r frame ≡ Some next → Good ms here base a

  abbrev IsGoodArm : Run → Branched bodies here → Type 0
  IsGoodArm r b = (frame next : Frame) → r frame ≡ Some next → GoodArm ms bodies here base b

  abbrev Child : Type 0
  Child = (x : ModuleStmt) × IsGood (ran x) (built x)

  abbrev ArmChild : Type 0
  ArmChild = (x : ModuleBranch) × IsGoodArm (ran_branch x) (built_branch x)

  each_good : (xs : List Child) (frame next : Frame) → typed.run (map ran (map (λ (x : Child). x.0) xs)) frame ≡ Some next
      → EachGood ms bodies here base (map built (map (λ (x : Child). x.0) xs))
  each_good [] frame next e = tt
  each_good (x ∷ xs) frame next e =
      let h = went (ran x.0) (typed.run (map ran (map (λ (x : Child). x.0) xs))) frame next e in
      (x.1 frame h.next h.first, each_good xs h.next next h.rest)

  each_arm : (xs : List ArmChild) (frame : Frame) → all_inner (map ran_branch (map (λ (x : ArmChild). x.0) xs)) frame ≡ true
      → EachArm ms bodies here base (map built_branch (map (λ (x : ArmChild). x.0) xs))
  each_arm [] frame e = tt
  each_arm (x ∷ xs) frame e =
      let h = and_parts (inner (ran_branch x.0) frame) (all_inner (map ran_branch (map (λ (x : ArmChild). x.0) xs)) frame) e in
      let next = inner_is (ran_branch x.0) frame h.0 in
      (x.1 frame next.0 next.1, each_arm xs frame h.1)

  weighed_good : (x : ModuleStmt-F Builds (Branched bodies here)) → Good ms here base (stmt_case bodies here x)
      → Good ms here base (stmt_step bodies here x)
  weighed_good x good s z lows e =
      let r = through (weigh 1 s) _ z e in
      let still = weigh_still 1 s r.0 r.1 in
      let first = still_ran ms here base s r.0 lows still in
      ran_after ms here base s r.0 z still (good r.0 z first.lows r.2)

  module _ (good : GoodBodies ms bodies) (params : LowParameters ms) (same : here.modules ≡ ms) (path : here.path ≡ joined base)
      (lower : AreLower base) (own : Option Module) (own_is : here_module here ≡ own) (rules_are : site.rules ≡ rules_of own) where
    rule_low : (number : ℕ) (frame : Frame) (r : Rule) → rule_right site.world frame (slice_get site.rules number) ≡ true
        → slice_get (rules_of (here_module here)) number ≡ Some r → is_lower r.name ≡ true
    rule_low number frame r right is =
        let there : slice_get site.rules number ≡ Some r = ap (λ (rs : List Rule). slice_get rs number)
        (rules_are ∙ sym (ap rules_of own_is)) ∙ is in
        let right_there = subst (λ (o : Option Rule). rule_right site.world frame o ≡ true) there right in
        let a = and_parts (is_lower r.name && list_all of_rule r.attributes && condition_right site.world frame r.condition)
        (acts_right site.world (length frame) frame r.body) right_there in
        let b = and_parts (is_lower r.name && list_all of_rule r.attributes) (condition_right site.world frame r.condition) a.0 in
        (and_parts (is_lower r.name) (list_all of_rule r.attributes) b.0).0

    abbrev bare : ModuleStmt-F Child ArmChild → ModuleStmt-F ModuleStmt ModuleBranch
    bare y = map-ModuleStmt Child ArmChild ModuleStmt ModuleBranch (λ x. x.0) (λ x. x.0) y

    abbrev ran_layer : ModuleStmt-F Child ArmChild → Run
    ran_layer y = module_stmt_step site (map-ModuleStmt ModuleStmt ModuleBranch Run Run ran ran_branch (bare y))

    abbrev built_layer : ModuleStmt-F Child ArmChild → Builds
    built_layer y = stmt_step bodies here (map-ModuleStmt ModuleStmt ModuleBranch Builds (Branched bodies here) built built_branch (bare y))

    layer : (y : ModuleStmt-F Child ArmChild) → IsGood (ran_layer y) (built_layer y)
    layer (ModuleStmt-F.Instance t name m) frame next e =
        let a = right_is (is_instance site.world.shapes (kind t) && is_lower name && makes site frame m (kind t))
        (frame ++ one (kind t) ∷ []) next e in
        let b = and_parts (is_instance site.world.shapes (kind t) && is_lower name) (makes site frame m (kind t)) a in
        let low = (and_parts (is_instance site.world.shapes (kind t)) (is_lower name) b.0).1 in
        weighed_good (ModuleStmt-F.Instance t name m)
        (instance_good ms bodies here base good params same path lower (width_in here (kind t)) name m low)
    layer (ModuleStmt-F.Array t name x) frame next e =
        let a = right_is (is_instance site.world.shapes (kind t) && is_lower name && has_type site.world frame x integer)
        (frame ++ many (kind t) ∷ []) next e in
        let b = and_parts (is_instance site.world.shapes (kind t) && is_lower name) (has_type site.world frame x integer) a in
        let low = (and_parts (is_instance site.world.shapes (kind t)) (is_lower name) b.0).1 in
        weighed_good (ModuleStmt-F.Array t name x) (array_good ms bodies here base good params same path lower (width_in here (kind t)) name x low)
    layer (ModuleStmt-F.Place level x m) frame next e =
        weighed_good (ModuleStmt-F.Place level x m) (place_good ms bodies here base good params same path lower level x m)
    layer (ModuleStmt-F.Declare t name x) frame next e =
        let a = right_is (is_value site.world.shapes (kind t) && is_lower name && has_type site.world frame x (kind t)) (frame ++ one (kind t) ∷ [])
        next e in
        let b = and_parts (is_value site.world.shapes (kind t) && is_lower name) (has_type site.world frame x (kind t)) a in
        let low = (and_parts (is_value site.world.shapes (kind t)) (is_lower name) b.0).1 in
        weighed_good (ModuleStmt-F.Declare t name x) (declare_good ms bodies here base good params same path lower (kind t) name x low)
    layer (ModuleStmt-F.Assign level x) frame next e = weighed_good (ModuleStmt-F.Assign level x) (set_good ms bodies here base level x)
    layer (ModuleStmt-F.Block xs) frame next e =
        let a = right_is (inner (typed.run (map ran (map (λ (x : Child). x.0) xs))) frame) frame next e in
        let h = inner_is (typed.run (map ran (map (λ (x : Child). x.0) xs))) frame a in
        let own_runs = map built (map (λ (x : Child). x.0) xs) in
        weighed_good (ModuleStmt-F.Block own_runs) (inside_good ms here base (run bodies here own_runs)
        (run_good ms bodies here base own_runs (each_good xs frame h.0 h.1)))
    layer (ModuleStmt-F.If bs None) frame next e =
        let a = right_is (all_inner (map ran_branch (map (λ (x : ArmChild). x.0) bs)) frame && true) frame next e in
        let b = and_parts (all_inner (map ran_branch (map (λ (x : ArmChild). x.0) bs)) frame) true a in
        let own_arms = map built_branch (map (λ (x : ArmChild). x.0) bs) in
        weighed_good (ModuleStmt-F.If own_arms None) (chain_good ms bodies here base None own_arms tt (each_arm bs frame b.0))
    layer (ModuleStmt-F.If bs (Some x)) frame next e =
        let a = right_is (all_inner (map ran_branch (map (λ (x : ArmChild). x.0) bs)) frame && inner (ran x.0) frame) frame next e in
        let b = and_parts (all_inner (map ran_branch (map (λ (x : ArmChild). x.0) bs)) frame) (inner (ran x.0) frame) a in
        let last = inner_is (ran x.0) frame b.1 in
        let own_arms = map built_branch (map (λ (x : ArmChild). x.0) bs) in
        weighed_good (ModuleStmt-F.If own_arms (Some (built x.0)))
        (chain_good ms bodies here base (Some (built x.0)) own_arms (x.1 frame last.0 last.1) (each_arm bs frame b.0))
    layer (ModuleStmt-F.For h x) frame next e =
        let a = right_is (inner (λ f. and_then (in_loop site.world 0 h f) (ran x.0)) frame) frame next e in
        let g = inner_is (λ f. and_then (in_loop site.world 0 h f) (ran x.0)) frame a in
        let w = went (in_loop site.world 0 h) (ran x.0) frame g.0 g.1 in
        weighed_good (ModuleStmt-F.For h (built x.0))
        (looped_good ms bodies here base h (built x.0) (enters site.world h frame w.next w.first) (x.1 w.next g.0 w.rest))
    layer (ModuleStmt-F.Rule number) frame next e =
        let a = right_is (rule_right site.world frame (slice_get site.rules number)) frame next e in
        weighed_good (ModuleStmt-F.Rule number) (rule_good ms here base number (λ r is. rule_low number frame r a is))
    layer (ModuleStmt-F.Method number) frame next e = weighed_good (ModuleStmt-F.Method number) (method_good ms here base number)

    arm_good : (test : Expr) (x : ModuleStmt) → IsGood (ran x) (built x)
        → IsGoodArm (ran_branch (roll-ModuleBranch (record { condition = test; arm = x }))) (built_branch (roll-ModuleBranch (record { condition = test; arm = x })))
    arm_good test x h =
        let here_arm : IsGoodArm (module_branch_step site (record { condition = test; arm = ran x }))
        (branch_step bodies here (record { condition = test; arm = built x })) =
        λ frame next e. let w = went (λ f. if_right (has_type site.world f test bool) f) (ran x) frame next e in
        record { asks = λ s r f. truth_still here test s r f; arm = h w.next next w.rest } in
        let typed_is = fold-roll-ModuleBranch Run Run (module_stmt_step site) (module_branch_step site) (record { condition = test; arm = x }) in
        let built_is = fold-roll-ModuleBranch Builds (Branched bodies here) (stmt_step bodies here) (branch_step bodies here)
        (record { condition = test; arm = x }) in
        subst (λ (r : Run). IsGoodArm r (built_branch (roll-ModuleBranch (record { condition = test; arm = x })))) (sym typed_is)
        (subst (λ (b : Branched bodies here). IsGoodArm (module_branch_step site (record { condition = test; arm = ran x })) b) (sym built_is)
        here_arm)

    rolled : (y : ModuleStmt-F Child ArmChild) → IsGood (ran (roll-ModuleStmt (bare y))) (built (roll-ModuleStmt (bare y)))
    rolled y =
        let typed_is = fold-roll-ModuleStmt Run Run (module_stmt_step site) (module_branch_step site) (bare y) in
        let built_is = fold-roll-ModuleStmt Builds (Branched bodies here) (stmt_step bodies here) (branch_step bodies here) (bare y) in
        subst (λ (r : Run). IsGood r (built (roll-ModuleStmt (bare y)))) (sym typed_is)
        (subst (λ (a : Builds). IsGood (ran_layer y) a) (sym built_is) (layer y))

    pub all_good : (x : ModuleStmt) → IsGood (ran x) (built x)
    all_good = ind-ModuleStmt (λ x. IsGood (ran x) (built x)) (λ b. IsGoodArm (ran_branch b) (built_branch b))
        (λ x y is. subst (λ z. IsGood (ran (roll-ModuleStmt z)) (built (roll-ModuleStmt z))) is (rolled y))
        (λ b y is. subst (λ z. IsGoodArm (ran_branch (roll-ModuleBranch z)) (built_branch (roll-ModuleBranch z))) is
        (arm_good y.condition y.arm.0 y.arm.1))

    -- each of several
    pub body_good : (xs : List ModuleStmt) (frame next : Frame) → typed.run (map ran xs) frame ≡ Some next
        → EachGood ms bodies here base (map (stmt bodies here) xs)
    unfolding stmt
    body_good [] frame next e = tt
    body_good (x ∷ xs) frame next e =
        let h = went (ran x) (typed.run (map ran xs)) frame next e in
        (all_good x frame h.next h.first, body_good xs h.next next h.rest)
