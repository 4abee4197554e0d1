-- Blocks, branches and loops of a module keep what is in scope as its types say, where their parts do.
use Rattle.std.proofs.Common.{◌≡◌, ◌∙◌, ℕ, zero, suc, Bool, true, false, ◌&&◌, List, [], ◌∷◌, ◌++◌, map, length, Option, Some, None, option_map, Result, Ok, refl, sym, subst, append_assoc}
use Rattle.std.specs.Prelude.{if◌then◌else◌}
use Rattle.std.proofs.lemmas.Bool.{and_parts}
use Rattle.std.proofs.lemmas.Option.{same_Some}
use Rattle.bsv_lemmas.proofs.Choices.{not_refused}
use Rattle.bsv_lemmas.proofs.Lists.{left_empty, right_empty}
use Rattle.bsv_fail.specs.Given.{◌>>=◌}
use Rattle.bsv_ast.specs.Names.{is_lower}
use Rattle.bsv_types.specs.declared.expressions.Expr.{Expr}
use Rattle.bsv_types.specs.declared.modules.Module.{Module}
use Rattle.bsv_types.specs.declared.modules.ModuleStmt.{ModuleStmt}
use Rattle.bsv_types.specs.declared.modules.ModuleBranch.{ModuleBranch, fold-ModuleBranch}
use Rattle.bsv_types.specs.declared.statements.Head.{Head}
use Rattle.bsv_types.specs.declared.typed.Typed.{Typed}
use Rattle.bsv_types.specs.Expressions.{Frame, one, has_type}
use Rattle.bsv_types.specs.Kinds.{integer, bool}
use Rattle.bsv_types.specs.Modules as rules
use Rattle.bsv_types.specs.Modules.{header, concatenated, or_empty, module_stmt_run, module_stmt_step, module_branch_step}
use Rattle.bsv_types.specs.Operators as options
use Rattle.bsv_types.specs.Statements as typing
use Rattle.bsv_types.specs.Statements.{Run, if_right, inner, all_inner, inner_too, assigns, in_loop}
use Rattle.bsv_tree.specs.tree.Trees.{world}
use Rattle.bsv_elab.specs.declared.refused.Refused.{Refused}
use Rattle.bsv_elab.specs.declared.state.State.{State}
use Rattle.bsv_elab.specs.Statics.{Here, Builds, constant_in, truth_in, held, bind, cut, inside}
use Rattle.bsv_elab.specs.Making.{Bodies}
use Rattle.bsv_elab.specs.Bodies.{Branched, run, or_nothing, chain, turn, turns, looped, most_turns, set, stmt, branch}
use Rattle.bsv_elab.proofs.Directly.{method_numbers, branch_numbers}
use Rattle.bsv_elab.proofs.FittingScopes.{plain_fits, held_as_plain}
use Rattle.bsv_elab.proofs.FittingSteps.{went, if_right_is, inner_is, Same, constant_same, truth_same}
use Rattle.bsv_elab.proofs.FittingStates.{Fit, Moved, Preserves, PreservesInside, still, moved_both, moved_again, after_weight, bind_moved, cut_moved, inside_good}
use Rattle.bsv_elab.proofs.FittingMade.{home, BodiesRight}
use Rattle.bsv_elab.proofs.FittingStatements.{lands, set_moved}

pub taken : {A B : Type 0} (r : Option A) (f : A → Option B) (y : B) → options.◌>>=◌ r f ≡ Some y → (x : A) × (r ≡ Some x) × (f x ≡ Some y)
taken None f y e = absurd cc
taken (Some x) f y e = (x, refl, e)

inner_from : (x : Run) (f : Frame) (o : Option Frame) (g : Frame) → o ≡ Some g → inner (λ z. o) f ≡ true
inner_from x f None g e = absurd cc
inner_from x f (Some h) g e = refl

either : {P : Type 0} (c : Bool) (x y : Result State Refused) (r : State) → (x ≡ Ok r → P) → (y ≡ Ok r → P) → (if c then x else y) ≡ Ok r → P
either true x y r left right e = left e
either false x y r left right e = right e

module _ (t : Typed) (m : Module) where
  -- fewer methods are met
  fewer_met : (f g : Frame) (s r : State) (ns ks : List ℕ) → (ks ≡ [] → ns ≡ []) → Moved t m f s g r ns → Moved t m f s g r ks
  fewer_met f g s r ns ks less h = record { grew = h.grew; fit = h.fit; more = h.more; longer = h.longer; quiet = λ e. h.quiet (less e); as_many = h.as_many }

  -- a branch: its condition changes the weight alone
  pub record ArmGood (bodies : Bodies) (place : Here) (b : Branched bodies place) (x : Run) (ns : List ℕ) : Type 0 where
    pub asks : (s : State) (q : Bool × State) → b.asks s ≡ Ok q → Same s q.1
    pub arm : PreservesInside t m b.arm x ns

  pub arm_good : (bodies : Bodies) (place : Here) (c : Expr) (a : Builds) (x : Run) (ns : List ℕ) → Preserves t m a x ns
      → ArmGood bodies place (record { asks = truth_in place c; arm = a }) (λ f. options.◌>>=◌ (if_right (has_type (world t) f c bool) f) x) ns
  arm_good bodies place c a x ns good = record {
    asks = λ s q e. truth_same place s c q e;
    arm = λ s r f h typed e.
        let g = inner_is (λ z. options.◌>>=◌ (if_right (has_type (world t) z c bool) z) x) f typed in
        let n = taken (if_right (has_type (world t) f c bool) f) x g.0 g.1 in
        let same = if_right_is (has_type (world t) f c bool) f n.0 n.1 in
        let ran = subst (λ z. x z ≡ Some g.0) (sym same.1) n.2 in
        inside_good t m a x ns good s r f h (inner_from x f (x f) g.0 ran) e;
  }

  module _ (number : ℕ) (path around : List ℕ) (first : ℕ) (bodies : Bodies) (right : BodiesRight t first bodies) where
    abbrev here : Here
    here = home t number path around first

    abbrev site : rules.ModuleContext
    site = rules.site_of (world t) (map header t.modules) m

    abbrev branch_run : ModuleBranch → Run
    branch_run = fold-ModuleBranch Run Run (module_stmt_step site) (module_branch_step site)

    -- what is shown of a statement and of a branch
    abbrev pub GoodStmt : ModuleStmt → Type 0
    GoodStmt x = Preserves t m (stmt bodies here x) (module_stmt_run site x) (method_numbers x)

    abbrev pub GoodBranch : ModuleBranch → Type 0
    GoodBranch b = ArmGood bodies here (branch bodies here b) (branch_run b) (branch_numbers b)

    -- ---- blocks

    abbrev pub EachGood : List ModuleStmt → Type 0
    EachGood [] = Unit {0}
    EachGood (x ∷ xs) = GoodStmt x × EachGood xs

    pub run_good : (xs : List ModuleStmt) → EachGood xs → Preserves t m (run bodies here (map (stmt bodies here) xs)) (typing.run (map (module_stmt_run site) xs)) (concatenated (map method_numbers xs))
    unfolding run
    run_good [] good s r f g h typed e = lands t m f f g s s r [] (still t m f s [] h) (same_Some f g typed) e
    run_good (x ∷ xs) good s r f g h typed e =
        let q = went (stmt bodies here x s) (run bodies here (map (stmt bodies here) xs)) r e in
        let n = taken (module_stmt_run site x f) (typing.run (map (module_stmt_run site) xs)) g typed in
        let a = good.0 s q.0 f n.0 h n.1 q.1 in
        moved_both t m f n.0 g s q.0 r (method_numbers x) (concatenated (map method_numbers xs)) a (run_good xs good.1 q.0 r n.0 g a.fit n.2 q.2)

    pub block_good : (xs : List ModuleStmt) → EachGood xs → Preserves t m (inside (run bodies here (map (stmt bodies here) xs))) (λ f. if_right (inner (typing.run (map (module_stmt_run site) xs)) f) f) (concatenated (map method_numbers xs))
    block_good xs good s r f g h typed e =
        let c = if_right_is (inner (typing.run (map (module_stmt_run site) xs)) f) f g typed in
        subst (λ z. Moved t m f s z r (concatenated (map method_numbers xs))) c.1
        (inside_good t m (run bodies here (map (stmt bodies here) xs)) (typing.run (map (module_stmt_run site) xs)) (concatenated (map method_numbers xs)) (run_good xs good) s r f h c.0 e)

    -- ---- branches

    abbrev pub EachArm : List ModuleBranch → Type 0
    EachArm [] = Unit {0}
    EachArm (b ∷ bs) = GoodBranch b × EachArm bs

    abbrev pub LastGood : Option ModuleStmt → Type 0
    LastGood None = Unit {0}
    LastGood (Some x) = GoodStmt x

    abbrev last_numbers : Option ModuleStmt → List ℕ
    last_numbers o = or_empty (option_map method_numbers o)

    abbrev arm_numbers : List ModuleBranch → List ℕ
    arm_numbers bs = concatenated (map branch_numbers bs)

    last_good : (o : Option ModuleStmt) → LastGood o → (s r : State) (f : Frame) → Fit t m f s → inner_too (option_map (module_stmt_run site) o) f ≡ true → or_nothing bodies here (option_map (stmt bodies here) o) s ≡ Ok r
        → Moved t m f s f r (last_numbers o)
    last_good None good s r f h typed e = lands t m f f f s s r [] (still t m f s [] h) refl e
    last_good (Some x) good s r f h typed e = inside_good t m (stmt bodies here x) (module_stmt_run site x) (method_numbers x) good s r f h typed e

    chain_good : (bs : List ModuleBranch) (o : Option ModuleStmt) → EachArm bs → LastGood o → (s r : State) (f : Frame) → Fit t m f s → all_inner (map branch_run bs) f ≡ true
        → inner_too (option_map (module_stmt_run site) o) f ≡ true → chain bodies here (option_map (stmt bodies here) o) (map (branch bodies here) bs) s ≡ Ok r → Moved t m f s f r (arm_numbers bs ++ last_numbers o)
    unfolding chain
    chain_good [] o good last s r f h typed typed_last e = last_good o last s r f h typed_last e
    chain_good (b ∷ bs) o good last s r f h typed typed_last e =
        let q = went ((branch bodies here b).asks s) _ r e in
        let rights = and_parts (inner (branch_run b) f) (all_inner (map branch_run bs) f) typed in
        let ns = branch_numbers b in
        let ms = arm_numbers bs in
        let ls = last_numbers o in
        after_weight t m f f s q.0.1 r ((ns ++ ms) ++ ls) (good.0.asks s q.0 q.1) h (λ z.
        either q.0.0 (inside (branch bodies here b).arm q.0.1) (chain bodies here (option_map (stmt bodies here) o) (map (branch bodies here) bs) q.0.1) r
        (λ there. fewer_met f f q.0.1 r ns ((ns ++ ms) ++ ls) (λ k. left_empty ns ms (left_empty (ns ++ ms) ls k)) (good.0.arm q.0.1 r f z rights.0 there))
        (λ there. fewer_met f f q.0.1 r (ms ++ ls) ((ns ++ ms) ++ ls) (λ k. right_empty ns (ms ++ ls) (sym (append_assoc ns ms ls) ∙ k)) (chain_good bs o good.1 last q.0.1 r f z rights.1 typed_last there))
        q.2)

    pub if_good : (bs : List ModuleBranch) (o : Option ModuleStmt) → EachArm bs → LastGood o
        → Preserves t m (chain bodies here (option_map (stmt bodies here) o) (map (branch bodies here) bs)) (λ f. if_right (all_inner (map branch_run bs) f && inner_too (option_map (module_stmt_run site) o) f) f) (arm_numbers bs ++ last_numbers o)
    if_good bs o good last s r f g h typed e =
        let c = if_right_is (all_inner (map branch_run bs) f && inner_too (option_map (module_stmt_run site) o) f) f g typed in
        let a = and_parts (all_inner (map branch_run bs) f) (inner_too (option_map (module_stmt_run site) o) f) c.0 in
        subst (λ z. Moved t m f s z r (arm_numbers bs ++ last_numbers o)) c.1 (chain_good bs o good last s r f h a.0 a.1 e)

    -- ---- loops

    module _ (head : Head) (a : Builds) (x : Run) (ns : List ℕ) (good : Preserves t m a x ns) where
      module _ (f : Frame) (body : inner x f ≡ true) (steps : assigns (world t) 0 f head.stepped head.step ≡ true) where
        turn_good : (s r : State) → Fit t m f s → turn bodies here head a s ≡ Ok r → Moved t m f s f r ns
        unfolding turn
        turn_good s r h e =
            let q = went (inside a s) (set bodies here head.stepped head.step) r e in
            let b = inside_good t m a x ns good s q.0 f h body q.1 in
            moved_again t m f f f s q.0 r ns b (set_moved t m number path around first bodies right f q.0 r head.stepped head.step ns b.fit steps q.2)

        turns_good : (n : ℕ) (s r : State) → Fit t m f s → turns bodies here n head a s ≡ Ok r → Moved t m f s f r ns
        unfolding turns
        turns_good zero s r h e =
            let q = went (truth_in here head.condition s) _ r e in
            let c = not_refused q.0.0 (Ok q.0.1) _ r q.2 in
            after_weight t m f f s q.0.1 r ns (truth_same here s head.condition q.0 q.1) h (λ z. lands t m f f f q.0.1 q.0.1 r ns (still t m f q.0.1 ns z) refl c.1)
        turns_good (suc n) s r h e =
            let q = went (truth_in here head.condition s) _ r e in
            after_weight t m f f s q.0.1 r ns (truth_same here s head.condition q.0 q.1) h (λ z.
            either q.0.0 (turn bodies here head a q.0.1 >>= turns bodies here n head a) (Ok q.0.1) r
            (λ there.
            let p = went (turn bodies here head a q.0.1) (turns bodies here n head a) r there in
            let b = turn_good q.0.1 p.0 z p.1 in
            moved_again t m f f f q.0.1 p.0 r ns b (turns_good n p.0 r b.fit p.2))
            (λ there. lands t m f f f q.0.1 q.0.1 r ns (still t m f q.0.1 ns z) refl there)
            q.2)

      record Entered (f g : Frame) : Type 0 where
        are : g ≡ f ++ one integer ∷ []
        steps : assigns (world t) 0 (f ++ one integer ∷ []) head.stepped head.step ≡ true

      entered : (f g : Frame) → in_loop (world t) 0 head f ≡ Some g → Entered f g
      entered f g e = by (is_lower head.variable && has_type (world t) f head.first integer && has_type (world t) (f ++ one integer ∷ []) head.condition bool)
          (assigns (world t) 0 (f ++ one integer ∷ []) head.stepped head.step) e refl where
            by : (b c : Bool) → (if b && c then Some (f ++ one integer ∷ []) else None) ≡ Some g → assigns (world t) 0 (f ++ one integer ∷ []) head.stepped head.step ≡ c → Entered f g
            by true true e is = record { are = sym (same_Some (f ++ one integer ∷ []) g e); steps = is }
            by true false e is = absurd cc
            by false c e is = absurd cc

      loop_moved : (f : Frame) (s r : State) → Fit t m f s → inner (λ z. options.◌>>=◌ (in_loop (world t) 0 head z) x) f ≡ true
          → (constant_in here head.first s >>= λ q. turns bodies here most_turns head a (bind head.variable (held q.0) 0 q.1)) ≡ Ok r → Moved t m f s (f ++ one integer ∷ []) r ns
      loop_moved f s r h typed e =
          let g = inner_is (λ z. options.◌>>=◌ (in_loop (world t) 0 head z) x) f typed in
          let n = taken (in_loop (world t) 0 head f) x g.0 g.1 in
          let enter = entered f n.0 n.1 in
          let inside_frame = f ++ one integer ∷ [] in
          let body = inner_from x inside_frame (x inside_frame) g.0 (subst (λ z. x z ≡ Some g.0) enter.are n.2) in
          let q = went (constant_in here head.first s) _ r e in
          after_weight t m f inside_frame s q.0.1 r ns (constant_same here s head.first q.0 q.1) h (λ z.
          let first_value = bind head.variable (held q.0.0) 0 q.0.1 in
          let b = bind_moved t m f q.0.1 (one integer) head.variable (held q.0.0) 0 ns z (plain_fits t q.0.1.grown.instances integer (held q.0.0) (held_as_plain integer q.0.0) refl) tt in
          moved_again t m f inside_frame inside_frame q.0.1 first_value r ns b (turns_good inside_frame body enter.steps most_turns first_value r b.fit q.2))

      pub for_good : Preserves t m (looped bodies here head a) (λ f. if_right (inner (λ z. options.◌>>=◌ (in_loop (world t) 0 head z) x) f) f) ns
      unfolding looped inside
      for_good s r f g h typed e =
          let c = if_right_is (inner (λ z. options.◌>>=◌ (in_loop (world t) 0 head z) x) f) f g typed in
          let q = went (constant_in here head.first s >>= λ q. turns bodies here most_turns head a (bind head.variable (held q.0) 0 q.1)) _ r e in
          let b = loop_moved f s q.0 h c.0 q.1 in
          lands t m f f g s (cut (length s.scope.bindings) q.0) r ns (cut_moved t m f (f ++ one integer ∷ []) s q.0 ns h b) c.1 q.2
