-- A statement of a module keeps all rules accepted, where the bodies of modules do.
use Rattle.std.proofs.Common.{ℕ, zero, suc, List, [], ◌∷◌, map, Option, Some, None, refl, sym, subst}
use Rattle.std.specs.Prelude.{ℤ, slice_get}
use Rattle.bsv_types.specs.declared.expressions.Expr.{Expr}
use Rattle.bsv_types.specs.declared.makers.Make.{Make}
use Rattle.bsv_types.specs.declared.modules.ModuleBranch.{ModuleBranch, roll-ModuleBranch, map-ModuleBranch, fold-roll-ModuleBranch}
use Rattle.bsv_types.specs.declared.modules.ModuleStmt.{ModuleStmt, roll-ModuleStmt, ind-ModuleStmt, map-ModuleStmt, fold-roll-ModuleStmt}
use Rattle.bsv_types.specs.declared.modules.ModuleStmt.TheOpen.{ModuleStmt-F, ModuleBranch-F}
use Rattle.bsv_types.specs.declared.statements.Head.{Head}
use Rattle.bsv_types.specs.Kinds.{Kind as Sort, kind}
use Rattle.bsv_tree.specs.declared.statics.Binding.{Binding}
use Rattle.bsv_elab.specs.declared.state.State.{State}
use Rattle.bsv_elab.specs.Statics.{Here, Builds, static_fault, held, bind, inside}
use Rattle.bsv_elab.specs.Making.{Bodies, width_in}
use Rattle.bsv_elab.specs.Bodies as body
use Rattle.bsv_elab.specs.Bodies.{Branched, run, stmt, branch}
use Rattle.bsv_elab.proofs.accepted.Gives.{Gives, gives_then, anything, gives_if}
use Rattle.bsv_elab.proofs.accepted.States.{Went, went_then, went_still, after, GoodRun, weigh_went, constant_went, number_went, truth_went, inside_went, assign_went}
use Rattle.bsv_elab.proofs.accepted.Elements.{rule_went, method_went}
use Rattle.bsv_elab.proofs.accepted.Making.{BodiesGo, make_went}

module _ (bodies : Bodies) (here : Here) where
  abbrev Good : Builds → Type 0
  Good a = GoodRun here a

  record GoodBranch (b : Branched bodies here) : Type 0 where
    pub asks : (s : State) → Gives (λ r. Went here s r.1) (b.asks s)
    pub arm : Good b.arm

  abbrev EachGood : List Builds → Type 0
  EachGood [] = Unit {0}
  EachGood (a ∷ more) = Good a × EachGood more

  abbrev EachBranch : List (Branched bodies here) → Type 0
  EachBranch [] = Unit {0}
  EachBranch (b ∷ more) = GoodBranch b × EachBranch more

  abbrev MaybeGood : Option Builds → Type 0
  MaybeGood None = Unit {0}
  MaybeGood (Some a) = Good a

  run_good : (xs : List Builds) → EachGood xs → Good (run bodies here xs)
  unfolding run
  run_good [] h s = record { gives = went_still here s s refl refl }
  run_good (a ∷ more) h s = gives_then _ (h.0 s) (λ r went. after here s r (run bodies here more r) went (run_good more h.1 r))

  -- ---- variables

  array_good : (width : ℕ) (name : List ℕ) (e : Expr) → Good (body.array bodies here width name e)
  unfolding body.array
  array_good width name e s =
      gives_then _ (number_went here e s) (λ r went. gives_then _ (anything (body.length_of (static_fault here) r.0))
      (λ n u. record { gives = went_then here s r.1 _ went (went_still here r.1 _ refl refl) }))

  declare_good : (k : Sort) (name : List ℕ) (e : Expr) → Good (body.declare bodies here k name e)
  declare_good k name e s =
      gives_then _ (constant_went here e s) (λ r went. record { gives = went_then here s r.1 _ went (went_still here r.1 _ refl refl) })

  set_good : (level : ℕ) (e : Expr) → Good (body.set bodies here level e)
  set_good level e s =
      gives_then _ (constant_went here e s) (λ r went. record { gives = went_then here s r.1 _ went (assign_went here level r.0 r.1) })

  with_place_went : (level at number : ℕ) (b : Option Binding) (s : State) → Went here s (body.with_place level at number b s)
  with_place_went level at number None s = went_still here s s refl refl
  with_place_went level at number (Some b) s = went_still here s _ refl refl

  set_place_went : (level at number : ℕ) (s : State) → Went here s (body.set_place level at number s)
  unfolding body.set_place
  set_place_went level at number s = with_place_went level at number (slice_get s.scope.bindings level) s

  -- ---- branches and loops

  nothing_good : (a : Option Builds) → MaybeGood a → Good (body.or_nothing bodies here a)
  nothing_good None h s = record { gives = went_still here s s refl refl }
  nothing_good (Some a) h s = inside_went here a h s

  chain_good : (last : Option Builds) → MaybeGood last → (bs : List (Branched bodies here)) → EachBranch bs → Good (body.chain bodies here last bs)
  unfolding body.chain
  chain_good last g [] h s = nothing_good last g s
  chain_good last g (b ∷ bs) h s =
      gives_then _ (h.0.asks s) (λ r went. gives_if r.0 (after here s r.1 (inside b.arm r.1) went (inside_went here b.arm h.0.arm r.1))
      (after here s r.1 (body.chain bodies here last bs r.1) went (chain_good last g bs h.1 r.1)))

  turn_good : (head : Head) (a : Builds) → Good a → Good (body.turn bodies here head a)
  unfolding body.turn
  turn_good head a h s =
      gives_then _ (inside_went here a h s) (λ r went. after here s r (body.set bodies here head.stepped head.step r) went
      (set_good head.stepped head.step r))

  turns_good : (n : ℕ) (head : Head) (a : Builds) → Good a → Good (body.turns bodies here n head a)
  unfolding body.turns
  turns_good zero head a h s =
      gives_then _ (truth_went here head.condition s) (λ r went. gives_if r.0 (record { gives = tt }) (record { gives = went }))
  turns_good (suc n) head a h s =
      gives_then _ (truth_went here head.condition s) (λ r went. gives_if r.0
      (gives_then _ (after here s r.1 (body.turn bodies here head a r.1) went (turn_good head a h r.1))
      (λ q gone. after here s q (body.turns bodies here n head a q) gone (turns_good n head a h q)))
      (record { gives = went }))

  looped_good : (head : Head) (a : Builds) → Good a → Good (body.looped bodies here head a)
  unfolding body.looped
  looped_good head a h =
      inside_went here _ (λ s. gives_then _ (constant_went here head.first s)
      (λ r went. after here s _ _ (went_then here s r.1 (bind head.variable (held r.0) 0 r.1) went (went_still here r.1 _ refl refl))
      (turns_good body.most_turns head a h (bind head.variable (held r.0) 0 r.1))))

  -- ---- instances

  module _ (go : BodiesGo bodies) where
    instance_good : (width : ℕ) (name : List ℕ) (m : Make) → Good (body.one_instance bodies here width name m)
    unfolding body.one_instance
    instance_good width name m s =
        gives_then _ (make_went here bodies go width name m s) (λ r went. record {
          gives = went_then here s r.1 _ went
              (went_still here r.1 _ refl refl);
        })

    place_from_good : (level : ℕ) (index : ℤ) (m : Make) → Good (body.place_from bodies here level index m)
    place_from_good level index m s =
        gives_then _ (anything (body.index_in (static_fault here) (body.places (slice_get s.scope.bindings level)) index)) (λ at u.
        gives_then _ (make_went here bodies go (body.or_one (slice_get s.scope.widths level)) (body.name_of (slice_get s.scope.bindings level)) m s)
        (λ r went. record { gives = went_then here s r.1 _ went (set_place_went level at r.0 r.1) }))

    place_good : (level : ℕ) (e : Expr) (m : Make) → Good (body.one_place bodies here level e m)
    unfolding body.one_place
    place_good level e m s =
        gives_then _ (number_went here e s) (λ r went. after here s r.1 (body.place_from bodies here level r.0 m r.1) went
        (place_from_good level r.0 m r.1))

    -- ---- all statements

    abbrev BranchGood : ModuleBranch → Type 0
    BranchGood x = GoodBranch (branch bodies here x)

    abbrev Child : Type 0
    Child = (x : ModuleStmt) × Good (stmt bodies here x)

    abbrev BranchChild : Type 0
    BranchChild = (x : ModuleBranch) × BranchGood x

    each : (xs : List Child) → EachGood (map (stmt bodies here) (map (λ (x : Child). x.0) xs))
    each [] = tt
    each (x ∷ xs) = (x.1, each xs)

    each_branch : (xs : List BranchChild) → EachBranch (map (branch bodies here) (map (λ (x : BranchChild). x.0) xs))
    each_branch [] = tt
    each_branch (x ∷ xs) = (x.1, each_branch xs)

    -- one layer, whose parts are good
    layer : (y : ModuleStmt-F Child BranchChild) →
        Good (body.stmt_case bodies here (map-ModuleStmt ModuleStmt ModuleBranch Builds (Branched bodies here) (stmt bodies here)
        (branch bodies here) (map-ModuleStmt Child BranchChild ModuleStmt ModuleBranch (λ x. x.0) (λ x. x.0) y)))
    layer (ModuleStmt-F.Instance t name m) s = instance_good (width_in here (kind t)) name m s
    layer (ModuleStmt-F.Array t name e) s = array_good (width_in here (kind t)) name e s
    layer (ModuleStmt-F.Place level e m) s = place_good level e m s
    layer (ModuleStmt-F.Declare t name e) s = declare_good (kind t) name e s
    layer (ModuleStmt-F.Assign level e) s = set_good level e s
    layer (ModuleStmt-F.Block xs) s = inside_went here _ (run_good _ (each xs)) s
    layer (ModuleStmt-F.If bs None) s = chain_good None tt _ (each_branch bs) s
    layer (ModuleStmt-F.If bs (Some x)) s = chain_good (Some (stmt bodies here x.0)) x.1 _ (each_branch bs) s
    layer (ModuleStmt-F.For h x) s = looped_good h (stmt bodies here x.0) x.1 s
    layer (ModuleStmt-F.Rule number) s = rule_went here number s
    layer (ModuleStmt-F.Method number) s = method_went here number s

    stmt_layer : (y : ModuleStmt-F Builds (Branched bodies here)) → Good (body.stmt_case bodies here y) → Good (body.stmt_step bodies here y)
    stmt_layer y h s = gives_then _ (weigh_went here 1 s) (λ r went. after here s r (body.stmt_case bodies here y r) went (h r))

    branch_layer : (y : ModuleBranch-F ModuleStmt ModuleBranch) → Good (stmt bodies here y.arm) →
        GoodBranch (body.branch_step bodies here (map-ModuleBranch ModuleStmt ModuleBranch Builds (Branched bodies here) (stmt bodies here)
        (branch bodies here) y))
    branch_layer y h = record { asks = λ s. truth_went here y.condition s; arm = h }

    stmt_rolled : (z : ModuleStmt-F ModuleStmt ModuleBranch) →
        Good (body.stmt_step bodies here (map-ModuleStmt ModuleStmt ModuleBranch Builds (Branched bodies here) (stmt bodies here)
        (branch bodies here) z)) → Good (stmt bodies here (roll-ModuleStmt z))
    unfolding stmt branch
    stmt_rolled z h =
        subst (λ a. Good a) (sym (fold-roll-ModuleStmt Builds (Branched bodies here) (body.stmt_step bodies here) (body.branch_step bodies here) z)) h

    branch_rolled : (z : ModuleBranch-F ModuleStmt ModuleBranch) →
        GoodBranch (body.branch_step bodies here (map-ModuleBranch ModuleStmt ModuleBranch Builds (Branched bodies here) (stmt bodies here)
        (branch bodies here) z)) → BranchGood (roll-ModuleBranch z)
    unfolding stmt branch
    branch_rolled z h =
        subst GoodBranch (sym (fold-roll-ModuleBranch Builds (Branched bodies here) (body.stmt_step bodies here) (body.branch_step bodies here) z)) h

    stmt_good : (x : ModuleStmt) → Good (stmt bodies here x)
    stmt_good = ind-ModuleStmt (λ x. Good (stmt bodies here x)) BranchGood
        (λ x y is. subst (λ z. Good (stmt bodies here (roll-ModuleStmt z))) is
        (stmt_rolled (map-ModuleStmt Child BranchChild ModuleStmt ModuleBranch (λ x. x.0) (λ x. x.0) y) (stmt_layer _ (layer y))))
        (λ x y is. subst (λ z. BranchGood (roll-ModuleBranch z)) is (branch_rolled
        (map-ModuleBranch Child BranchChild ModuleStmt ModuleBranch (λ x. x.0) (λ x. x.0) y) (branch_layer _ y.arm.1)))

    all_good : (xs : List ModuleStmt) → EachGood (map (stmt bodies here) xs)
    all_good [] = tt
    all_good (x ∷ xs) = (stmt_good x, all_good xs)

    pub statements_went : (xs : List ModuleStmt) → GoodRun here (run bodies here (map (stmt bodies here) xs))
    statements_went xs s = run_good (map (stmt bodies here) xs) (all_good xs) s
