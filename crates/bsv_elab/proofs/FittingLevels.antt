-- After the body of a module each method sees the variables of a scope in which it is typed.
use Rattle.std.proofs.Common.{◌≡◌, ◌∙◌, ℕ, ◌≤◌, true, List, [], ◌∷◌, ◌++◌, map, length, take, Some, Ok, refl, sym, ap, subst, arith, ◌⊎◌, inl, inr}
use Rattle.std.specs.Prelude.{slice_get}
use Rattle.std.proofs.lemmas.Bool.{cases_eq}
use Rattle.std.proofs.lemmas.List.{take-append-le, take_all, length-append}
use Rattle.std.proofs.lemmas.Option.{same_Some}
use Rattle.bsv_lemmas.proofs.Choices.{same_ok}
use Rattle.bsv_types.specs.declared.modules.Module.{Module}
use Rattle.bsv_types.specs.declared.modules.ModuleStmt.{ModuleStmt, out-ModuleStmt, map-ModuleStmt, fold_out-ModuleStmt}
use Rattle.bsv_types.specs.declared.modules.ModuleStmt.TheOpen.{ModuleStmt-F}
use Rattle.bsv_types.specs.declared.modules.ModuleBranch.{ModuleBranch, fold-ModuleBranch}
use Rattle.bsv_types.specs.declared.typed.Typed.{Typed}
use Rattle.bsv_types.specs.Expressions.{Frame}
use Rattle.bsv_types.specs.Modules as rules
use Rattle.bsv_types.specs.Modules.{header, concatenated, method_right, module_stmt_run, module_stmt_step, module_branch_step}
use Rattle.bsv_types.specs.Operators as options
use Rattle.bsv_types.specs.Statements as typing
use Rattle.bsv_types.specs.Statements.{Run}
use Rattle.bsv_tree.specs.tree.Trees.{world}
use Rattle.bsv_elab.specs.declared.state.State.{State}
use Rattle.bsv_elab.specs.Statics.{Here, Builds, weigh, put_at}
use Rattle.bsv_elab.specs.Making.{Bodies}
use Rattle.bsv_elab.specs.Elements.{method}
use Rattle.bsv_elab.specs.Bodies.{Branched, run, stmt_step, branch_step, stmt, branch}
use Rattle.bsv_elab.proofs.Directly.{method_numbers, own_number, StandsIn, OwnOnly}
use Rattle.bsv_elab.proofs.FittingScopes.{fit_length, put_there}
use Rattle.bsv_elab.proofs.FittingSteps.{went, if_right_is, weigh_same}
use Rattle.bsv_elab.proofs.FittingStates.{Fit, Moved, still, moved_both}
use Rattle.bsv_elab.proofs.FittingMade.{home, BodiesRight}
use Rattle.bsv_elab.proofs.FittingStatements.{method_met}
use Rattle.bsv_elab.proofs.FittingKnot.{stmt_good}
use Rattle.bsv_elab.proofs.FittingNested.{taken}

-- ---- where a method stands

head_is : (x y : ModuleStmt) (xs ys : List ModuleStmt) → x ∷ xs ≡ y ∷ ys → (x ≡ y) × (xs ≡ ys)
head_is x y xs ys e = (cc, cc)

in_none : (n : ℕ) (before : List ModuleStmt) (own : ModuleStmt) (after : List ModuleStmt) → [] ≡ before ++ own ∷ after → ⊥
in_none n [] own after e = absurd cc
in_none n (x ∷ before) own after e = absurd cc

split : (x : ModuleStmt) (xs : List ModuleStmt) (n : ℕ) (before : List ModuleStmt) (own : ModuleStmt) (after : List ModuleStmt) → x ∷ xs ≡ before ++ own ∷ after → out-ModuleStmt own ≡ ModuleStmt-F.Method n
    → (out-ModuleStmt x ≡ ModuleStmt-F.Method n) ⊎ StandsIn xs n
split x xs n [] own after e is = let h = head_is x own xs after e in inl (ap (λ (z : ModuleStmt). out-ModuleStmt z) h.0 ∙ is)
split x xs n (y ∷ before) own after e is = let h = head_is x y xs (before ++ own ∷ after) e in inr (record { before = before; own = own; after = after; body_is = h.1; is_method = is })

-- it is the first one, or comes after it
first_or_after : (x : ModuleStmt) (xs : List ModuleStmt) (n : ℕ) → StandsIn (x ∷ xs) n → (out-ModuleStmt x ≡ ModuleStmt-F.Method n) ⊎ StandsIn xs n
first_or_after x xs n h = split x xs n h.before h.own h.after h.body_is h.is_method

same_number : (y : ModuleStmt-F ModuleStmt ModuleBranch) (n : ℕ) → y ≡ ModuleStmt-F.Method n → own_number y ≡ n ∷ []
same_number y n e = ap (λ (z : ModuleStmt-F ModuleStmt ModuleBranch). own_number z) e

one_number : (k n : ℕ) → k ∷ [] ≡ n ∷ [] → k ≡ n
one_number k n e = cc

no_number : (n : ℕ) → [] ≡ n ∷ [] → ⊥
no_number n e = absurd cc

module _ (t : Typed) (m : Module) where
  abbrev site : rules.ModuleContext
  site = rules.site_of (world t) (map header t.modules) m

  -- the method is typed in the scope up to this level
  pub record LevelRight (f : Frame) (n level : ℕ) : Type 0 where
    pub within : level ≤ length f
    pub typed : method_right (world t) (take level f) (slice_get site.wanted n) (slice_get m.methods n) ≡ true

  level_longer : (f more : Frame) (n level : ℕ) → LevelRight f n level → LevelRight (f ++ more) n level
  level_longer f more n level h = record {
    within = let k = h.within in omega (arith, length-append f more);
    typed = subst (λ z. method_right (world t) z (slice_get site.wanted n) (slice_get m.methods n) ≡ true) (sym (take-append-le level f more h.within)) h.typed;
  }

  abbrev pub Level : Frame → List ℕ → ℕ → Type 0
  Level f levels n = (level : ℕ) → slice_get levels n ≡ Some level → LevelRight f n level

  level_kept : (f g : Frame) (s r : State) (ns : List ℕ) (n : ℕ) → Moved t m f s g r ns → ns ≡ [] → Level f s.scope.levels n → Level g r.scope.levels n
  level_kept f g s r ns n h none before level there =
      subst (λ z. LevelRight z n level) (sym h.longer)
      (level_longer f h.more n level (before level (subst (λ ls. slice_get ls n ≡ Some level) (h.quiet none) there)))

  -- a method was met
  level_met : (f : Frame) (s : State) (k n : ℕ) → Fit t m f s → method_right (world t) f (slice_get site.wanted k) (slice_get m.methods k) ≡ true
      → (Level f s.scope.levels n ⊎ (k ≡ n)) → Level f (put_at k (length s.scope.bindings) s.scope.levels) n
  level_met f s k n h typed before level there =
      let found = put_there s.scope.levels k n (length s.scope.bindings) level there in
      elim (cases_eq n k) [
        | inl e ↦ new (found.0 e) (sym e)
        | inr e ↦ elim before [ inl b ↦ b level (found.1 e) | inr b ↦ absurd (e (sym b)) ]
      ] where
        new : length s.scope.bindings ≡ level → k ≡ n → LevelRight f n level
        new long same =
            let whole : level ≡ length f = sym long ∙ fit_length t s.grown.instances f s.scope.bindings h.fits in
            let all : length f ≤ level = omega arith in
            record {
              within = omega arith;
              typed = subst (λ i. method_right (world t) (take level f) (slice_get site.wanted i) (slice_get m.methods i) ≡ true) same
                  (subst (λ z. method_right (world t) z (slice_get site.wanted k) (slice_get m.methods k) ≡ true) (sym (take_all level f all)) typed);
            }

  module _ (number : ℕ) (path around : List ℕ) (first : ℕ) (bodies : Bodies) (right : BodiesRight t first bodies) (of : slice_get t.modules number ≡ Some m) where
    abbrev here : Here
    here = home t number path around first

    abbrev branch_run : ModuleBranch → Run
    branch_run = fold-ModuleBranch Run Run (module_stmt_step site) (module_branch_step site)

    built_is : (x : ModuleStmt) (y : ModuleStmt-F ModuleStmt ModuleBranch) → out-ModuleStmt x ≡ y → stmt bodies here x ≡ stmt_step bodies here (map-ModuleStmt ModuleStmt ModuleBranch Builds (Branched bodies here) (stmt bodies here) (branch bodies here) y)
    unfolding stmt branch
    built_is x y is =
        fold_out-ModuleStmt Builds (Branched bodies here) (stmt_step bodies here) (branch_step bodies here) x
        ∙ ap (λ z. stmt_step bodies here (map-ModuleStmt ModuleStmt ModuleBranch Builds (Branched bodies here) (stmt bodies here) (branch bodies here) z)) is

    typed_is : (x : ModuleStmt) (y : ModuleStmt-F ModuleStmt ModuleBranch) → out-ModuleStmt x ≡ y → module_stmt_run site x ≡ module_stmt_step site (map-ModuleStmt ModuleStmt ModuleBranch Run Run (module_stmt_run site) branch_run y)
    typed_is x y is =
        fold_out-ModuleStmt Run Run (module_stmt_step site) (module_branch_step site) x
        ∙ ap (λ z. module_stmt_step site (map-ModuleStmt ModuleStmt ModuleBranch Run Run (module_stmt_run site) branch_run z)) is

    method_level : (x : ModuleStmt) (k n : ℕ) (s r : State) (f g : Frame) → out-ModuleStmt x ≡ ModuleStmt-F.Method k → Fit t m f s → module_stmt_run site x f ≡ Some g → stmt bodies here x s ≡ Ok r
        → (Level f s.scope.levels n ⊎ (k ≡ n)) → Level g r.scope.levels n
    method_level x k n s r f g is h typed e before =
        let c = if_right_is (method_right (world t) f (slice_get site.wanted k) (slice_get m.methods k)) f g (sym (ap (λ (a : Run). a f) (typed_is x (ModuleStmt-F.Method k) is)) ∙ typed) in
        let q = went (weigh 1 s) (method here k) r (sym (ap (λ (a : Builds). a s) (built_is x (ModuleStmt-F.Method k) is)) ∙ e) in
        let same = weigh_same s 1 q.0 q.1 in
        let met = method_met t m number path around first of q.0 r k q.2 in
        let levels : r.scope.levels ≡ put_at k (length s.scope.bindings) s.scope.levels =
        ap (λ (z : State). z.scope.levels) met.is ∙ ap (λ (z : State). put_at k (length z.scope.bindings) z.scope.levels) same.1 in
        subst (λ z. Level z r.scope.levels n) c.1 (subst (λ ls. Level f ls n) (sym levels) (level_met f s k n h c.0 before))

    -- one statement directly in the body
    one_level : (x : ModuleStmt) (n : ℕ) (s r : State) (f g : Frame) (y : ModuleStmt-F ModuleStmt ModuleBranch) → out-ModuleStmt x ≡ y → method_numbers x ≡ own_number y → Fit t m f s → module_stmt_run site x f ≡ Some g
        → stmt bodies here x s ≡ Ok r → (Level f s.scope.levels n ⊎ (own_number y ≡ n ∷ [])) → Level g r.scope.levels n
    one_level x n s r f g (ModuleStmt-F.Method k) is only h typed e before =
        method_level x k n s r f g is h typed e (elim before [ inl b ↦ inl b | inr b ↦ inr (one_number k n b) ])
    one_level x n s r f g _ is only h typed e before =
        let moved = stmt_good t m number path around first bodies right of x s r f g h typed e in
        elim before [ inl b ↦ level_kept f g s r (method_numbers x) n moved only b | inr b ↦ absurd (no_number n b) ]

    -- statements directly in the body
    pub record Direct (xs : List ModuleStmt) (f : Frame) (s : State) (g : Frame) (r : State) : Type 0 where
      pub moved : Moved t m f s g r (concatenated (map method_numbers xs))
      pub levels : (n : ℕ) → (Level f s.scope.levels n ⊎ StandsIn xs n) → Level g r.scope.levels n

    pub direct_right : (xs : List ModuleStmt) → OwnOnly xs → (s r : State) (f g : Frame) → Fit t m f s → typing.run (map (module_stmt_run site) xs) f ≡ Some g
        → run bodies here (map (stmt bodies here) xs) s ≡ Ok r → Direct xs f s g r
    unfolding run
    direct_right [] only s r f g h typed e =
        subst (λ z. Direct [] f s g z) (same_ok s r e) (subst (λ z. Direct [] f s z s) (same_Some f g typed)
        (record { moved = still t m f s [] h; levels = λ n before. elim before [ inl b ↦ b | inr b ↦ absurd (in_none n b.before b.own b.after b.body_is) ] }))
    direct_right (x ∷ xs) only s r f g h typed e =
        let q = went (stmt bodies here x s) (run bodies here (map (stmt bodies here) xs)) r e in
        let n = taken (module_stmt_run site x f) (typing.run (map (module_stmt_run site) xs)) g typed in
        let a = stmt_good t m number path around first bodies right of x s q.0 f n.0 h n.1 q.1 in
        let b = direct_right xs only.1 q.0 r n.0 g a.fit n.2 q.2 in
        record {
          moved = moved_both t m f n.0 g s q.0 r (method_numbers x) (concatenated (map method_numbers xs)) a b.moved;
          levels = λ i before.
              let one = λ (there : Level f s.scope.levels i ⊎ (own_number (out-ModuleStmt x) ≡ i ∷ [])). one_level x i s q.0 f n.0 (out-ModuleStmt x) refl only.0 h n.1 q.1 there in
              elim before [
                | inl c ↦ b.levels i (inl (one (inl c)))
                | inr c ↦ elim (first_or_after x xs i c) [
                  | inl d ↦ b.levels i (inl (one (inr (same_number (out-ModuleStmt x) i d))))
                  | inr d ↦ b.levels i (inr d)
                ]
              ];
        }
