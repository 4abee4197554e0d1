-- Statements of modules with statements in them are in order.
use Rattle.std.proofs.Common.{◌≡◌, ◌∙◌, Bool, true, ◌&&◌, List, [], ◌∷◌, map, Option, Some, None, Ok, option_map, refl, sym, ap, subst}
use Rattle.std.proofs.lemmas.Bool.{and_from}
use Rattle.bsv_ast.specs.declared.text.Span.{Span}
use Rattle.bsv_ast.specs.declared.statements.Head.{Head as WrittenHead}
use Rattle.bsv_scopes.specs.Scopes.{opened, closed}
use Rattle.bsv_types.specs.declared.expressions.Expr.{Expr}
use Rattle.bsv_types.specs.declared.statements.Head.{Head}
use Rattle.bsv_types.specs.declared.modules.Rule.{Rule}
use Rattle.bsv_types.specs.declared.modules.Method.{Method}
use Rattle.bsv_types.specs.declared.modules.ModuleStmt.{ModuleStmt, Block, If, For, fold-roll-ModuleStmt}
use Rattle.bsv_types.specs.declared.modules.ModuleStmt.TheOpen.{ModuleStmt-F}
use Rattle.bsv_types.specs.declared.modules.ModuleStmt.TheViews.{rolls-Block, rolls-If, rolls-For}
use Rattle.bsv_types.specs.declared.modules.ModuleBranch.{ModuleBranch, fold-ModuleBranch, fold-roll-ModuleBranch}
use Rattle.bsv_types.specs.Kinds.{bool}
use Rattle.bsv_types.specs.Operators.{◌>>=◌}
use Rattle.bsv_types.specs.Methods.{Signature}
use Rattle.bsv_types.specs.Expressions.{World, Frame, has_type}
use Rattle.bsv_types.specs.Statements as typed
use Rattle.bsv_types.specs.Modules as rules
use Rattle.bsv_statements.specs.Bodies.{Or, Scopes, of_kind, in_head}
use Rattle.bsv_statements.specs.Laws.{frame_of, ScopesFit}
use Rattle.bsv_statements.proofs.RightScopes.{frame_opened, opened_fit}
use Rattle.bsv_statements.proofs.RightCalls.{ok_is, went, has_true, kind_right}
use Rattle.bsv_statements.proofs.RightStatements.{if_right_true}
use Rattle.bsv_statements.proofs.RightBlocks.{inner_true}
use Rattle.bsv_statements.proofs.RightArms.{head_right}
use Rattle.bsv_modules.specs.Modules.{ModuleContext, State, Run, task, scoped, inside, all_in, Arm, conditions, branch, arms, last_arm, if_case, block_case, for_case}
use Rattle.bsv_modules.proofs.RightSites.{FitsSite}
use Rattle.bsv_modules.proofs.RightMakers.{typed_site}
use Rattle.bsv_modules.proofs.RightStates.{LaterThan, run_in, Ran, GoodRun}

-- ---- the typed statements

module _ (w : World) (headers : List rules.Header) (wanted : List Signature) (rs : List Rule) (ms : List Method) where
  abbrev in_site : rules.ModuleContext
  in_site = typed_site w headers wanted rs ms

  abbrev ran : ModuleStmt → typed.Run
  ran = run_in w headers wanted rs ms

  abbrev pub branch_in : ModuleBranch → typed.Run
  branch_in = fold-ModuleBranch typed.Run typed.Run (rules.module_stmt_step in_site) (rules.module_branch_step in_site)

  abbrev pub last_right : Option ModuleStmt → Frame → Bool
  last_right o frame = typed.inner_too (option_map ran o) frame

  block_typed : (frame next : Frame) (ys : List ModuleStmt) → typed.run (map ran ys) frame ≡ Some next → ran (Block ys) frame ≡ Some frame
  block_typed frame next ys h =
      ap (λ y. ran y frame) (sym (rolls-Block ys)) ∙
      ap (λ f. f frame) (fold-roll-ModuleStmt typed.Run typed.Run (rules.module_stmt_step in_site) (rules.module_branch_step in_site) (ModuleStmt-F.Block ys)) ∙
      if_right_true (typed.inner (typed.run (map ran ys)) frame) frame (inner_true (typed.run (map ran ys)) frame next h)

  if_is : (frame : Frame) (bs : List ModuleBranch) (o : Option ModuleStmt) → ran (If bs o) frame ≡ typed.if_right (typed.all_inner (map branch_in bs) frame && last_right o frame) frame
  if_is frame bs None = ap (λ y. ran y frame) (sym (rolls-If bs None)) ∙ ap (λ f. f frame) (fold-roll-ModuleStmt typed.Run typed.Run (rules.module_stmt_step in_site) (rules.module_branch_step in_site) (ModuleStmt-F.If bs None))
  if_is frame bs (Some y) = ap (λ y. ran y frame) (sym (rolls-If bs (Some y))) ∙ ap (λ f. f frame) (fold-roll-ModuleStmt typed.Run typed.Run (rules.module_stmt_step in_site) (rules.module_branch_step in_site) (ModuleStmt-F.If bs (Some y)))

  if_typed : (frame : Frame) (bs : List ModuleBranch) (o : Option ModuleStmt) → typed.all_inner (map branch_in bs) frame ≡ true → last_right o frame ≡ true → ran (If bs o) frame ≡ Some frame
  if_typed frame bs o all last =
      if_is frame bs o ∙ if_right_true (typed.all_inner (map branch_in bs) frame && last_right o frame) frame (and_from (typed.all_inner (map branch_in bs) frame) (last_right o frame) all last)

  for_typed : (frame inner next : Frame) (head : Head) (y : ModuleStmt) → typed.in_loop w 0 head frame ≡ Some inner → ran y inner ≡ Some next → ran (For head y) frame ≡ Some frame
  for_typed frame inner next head y enters h =
      ap (λ y. ran y frame) (sym (rolls-For head y)) ∙
      ap (λ f. f frame) (fold-roll-ModuleStmt typed.Run typed.Run (rules.module_stmt_step in_site) (rules.module_branch_step in_site) (ModuleStmt-F.For head y)) ∙
      if_right_true (typed.inner (λ f. typed.in_loop w 0 head f >>= ran y) frame) frame
      (inner_true (λ f. typed.in_loop w 0 head f >>= ran y) frame next (ap (λ (q : Option Frame). q >>= ran y) enters ∙ h))

  goes_on : (x : typed.Run) (frame : Frame) → typed.inner x frame ≡ true → (next : Frame) × (x frame ≡ Some next)
  goes_on x frame h = by (x frame) refl where
    by : (o : Option Frame) → x frame ≡ o → (next : Frame) × (x frame ≡ Some next)
    by None is = let none = rw is at h in absurd cc
    by (Some next) is = (next, is)

  branch_typed : (frame : Frame) (test : Expr) (y : ModuleStmt) → has_type w frame test bool ≡ true → typed.inner (ran y) frame ≡ true → typed.inner (branch_in (branch test y)) frame ≡ true
  branch_typed frame test y asks h =
      let next = goes_on (ran y) frame h in
      let is = ap (λ f. f frame) (fold-roll-ModuleBranch typed.Run typed.Run (rules.module_stmt_step in_site) (rules.module_branch_step in_site) (record { condition = test; arm = y })) ∙
      ap (λ (q : Option Frame). q >>= ran y) (if_right_true (has_type w frame test bool) frame asks) ∙ next.1 in
      inner_true (branch_in (branch test y)) frame next.0 is

-- ---- one after the other, and in a scope of its own

module _ (w : World) (headers : List rules.Header) (wanted : List Signature) where
  abbrev pub EachRun : List Run → Type 0
  EachRun [] = Unit {0}
  EachRun (x ∷ xs) = GoodRun w headers wanted x × EachRun xs

  pub record AllRan (st : State) (q : State × List ModuleStmt) : Type 0 where
    pub right : (rs : List Rule) (ms : List Method) → LaterThan q.0 rs ms → typed.run (map (run_in w headers wanted rs ms) q.1) (frame_of st.scopes) ≡ Some (frame_of q.0.scopes)
    pub earlier : (rs : List Rule) (ms : List Method) → LaterThan q.0 rs ms → LaterThan st rs ms
    pub fit : ScopesFit w.shapes q.0.scopes
    pub outer : closed q.0.scopes ≡ closed st.scopes

  pub all_ran : (xs : List Run) (st : State) (q : State × List ModuleStmt) → EachRun xs → ScopesFit w.shapes st.scopes → all_in xs st ≡ Ok q → AllRan st q
  all_ran [] st q good fit e = subst (AllRan st) (ok_is (st, []) q e) (record { right = λ rs ms later. refl; earlier = λ rs ms later. later; fit = fit; outer = refl })
  all_ran (x ∷ xs) st q good fit e =
      let r = went (x st) _ q e in
      let more = went (all_in xs r.0.0) _ q r.2 in
      let h = good.0 st r.0 fit r.1 in
      let g = all_ran xs r.0.0 more.0 good.1 h.fit more.1 in
      subst (AllRan st) (ok_is (more.0.0, r.0.1 ∷ more.0.1) q more.2) (record {
        right = λ rs ms later. ap (λ (o : Option Frame). o >>= λ next. typed.run (map (run_in w headers wanted rs ms) more.0.1) next) (h.right rs ms (g.earlier rs ms later)) ∙ g.right rs ms later;
        earlier = λ rs ms later. h.earlier rs ms (g.earlier rs ms later);
        fit = g.fit;
        outer = g.outer ∙ h.outer;
      })

  pub block_good : (xs : List Run) → EachRun xs → GoodRun w headers wanted (block_case xs)
  block_good xs good st r fit e =
      let q = went (all_in xs (scoped st (opened st.scopes))) _ r e in
      let h = all_ran xs (scoped st (opened st.scopes)) q.0 good (opened_fit w.shapes st.scopes fit) q.1 in
      subst (Ran w headers wanted st) (ok_is (scoped q.0.0 (closed q.0.0.scopes), Block q.0.1) r q.2) (record {
        right = λ rs ms later.
            let ran_is = subst (λ f. typed.run (map (run_in w headers wanted rs ms) q.0.1) f ≡ Some (frame_of q.0.0.scopes)) (frame_opened st.scopes) (h.right rs ms later) in
            block_typed w headers wanted rs ms (frame_of st.scopes) (frame_of q.0.0.scopes) q.0.1 ran_is ∙ ap (λ z. Some (frame_of z)) (sym h.outer);
        earlier = h.earlier;
        fit = subst (ScopesFit w.shapes) (sym h.outer) fit;
        outer = ap (λ z. closed z) h.outer;
      })

  -- the scopes are what they were
  pub record Inside (st : State) (r : State × ModuleStmt) : Type 0 where
    pub same : r.0.scopes ≡ st.scopes
    pub right : (rs : List Rule) (ms : List Method) → LaterThan r.0 rs ms → typed.inner (run_in w headers wanted rs ms r.1) (frame_of st.scopes) ≡ true
    pub earlier : (rs : List Rule) (ms : List Method) → LaterThan r.0 rs ms → LaterThan st rs ms

  inside_ran : (x : Run) (st : State) (q : State × ModuleStmt) → GoodRun w headers wanted x → ScopesFit w.shapes st.scopes → inside x st ≡ Ok q → Inside st q
  inside_ran x st q good fit e =
      let r = went (x (scoped st (opened st.scopes))) _ q e in
      let h = good (scoped st (opened st.scopes)) r.0 (opened_fit w.shapes st.scopes fit) r.1 in
      subst (Inside st) (ok_is (scoped r.0.0 (closed r.0.0.scopes), r.0.1) q r.2) (record {
        same = h.outer;
        right = λ rs ms later.
            let ran_is = subst (λ f. run_in w headers wanted rs ms r.0.1 f ≡ Some (frame_of r.0.0.scopes)) (frame_opened st.scopes) (h.right rs ms later) in
            inner_true (run_in w headers wanted rs ms r.0.1) (frame_of st.scopes) (frame_of r.0.0.scopes) ran_is;
        earlier = h.earlier;
      })

  abbrev pub LastGood : Option Run → Type 0
  LastGood None = Unit {0}
  LastGood (Some x) = GoodRun w headers wanted x

  record LastRan (st : State) (q : State × Option ModuleStmt) : Type 0 where
    pub same : q.0.scopes ≡ st.scopes
    pub right : (rs : List Rule) (ms : List Method) → LaterThan q.0 rs ms → last_right w headers wanted rs ms q.1 (frame_of st.scopes) ≡ true
    pub earlier : (rs : List Rule) (ms : List Method) → LaterThan q.0 rs ms → LaterThan st rs ms

  last_ran : (o : Option Run) (st : State) (q : State × Option ModuleStmt) → LastGood o → ScopesFit w.shapes st.scopes → last_arm o st ≡ Ok q → LastRan st q
  last_ran None st q good fit e = subst (LastRan st) (ok_is (st, None) q e) (record { same = refl; right = λ rs ms later. refl; earlier = λ rs ms later. later })
  last_ran (Some x) st q good fit e =
      let r = went (inside x st) _ q e in
      let h = inside_ran x st r.0 good fit r.1 in
      subst (LastRan st) (ok_is (r.0.0, Some r.0.1) q r.2) (record { same = h.same; right = h.right; earlier = h.earlier })

  -- ---- arms

  abbrev EachTest : Scopes → List Expr → Type 0
  EachTest ss [] = Unit {0}
  EachTest ss (x ∷ xs) = (has_type w (frame_of ss) x bool ≡ true) × EachTest ss xs

  abbrev pub EachArm : List Arm → Type 0
  EachArm [] = Unit {0}
  EachArm (x ∷ xs) = GoodRun w headers wanted x.run × EachArm xs

  record ArmsRan (st : State) (q : State × List ModuleBranch) : Type 0 where
    pub same : q.0.scopes ≡ st.scopes
    pub right : (rs : List Rule) (ms : List Method) → LaterThan q.0 rs ms → typed.all_inner (map (branch_in w headers wanted rs ms) q.1) (frame_of st.scopes) ≡ true
    pub earlier : (rs : List Rule) (ms : List Method) → LaterThan q.0 rs ms → LaterThan st rs ms

  no_arms : (st : State) (q : State × List ModuleBranch) → ◌≡◌ {A = Or (State × List ModuleBranch)} (Ok (st, [])) (Ok q) → ArmsRan st q
  no_arms st q e = subst (ArmsRan st) (ok_is (st, []) q e) (record { same = refl; right = λ rs ms later. refl; earlier = λ rs ms later. later })

  arms_ran : (tests : List Expr) (xs : List Arm) (st : State) (q : State × List ModuleBranch) → EachTest st.scopes tests → EachArm xs → ScopesFit w.shapes st.scopes → arms tests xs st ≡ Ok q → ArmsRan st q
  arms_ran (t ∷ ts) (x ∷ xs) st q asks good fit e =
      let r = went (inside x.run st) _ q e in
      let more = went (arms ts xs r.0.0) _ q r.2 in
      let h = inside_ran x.run st r.0 good.0 fit r.1 in
      let g = arms_ran ts xs r.0.0 more.0 (subst (λ z. EachTest z ts) (sym h.same) asks.1) good.1 (subst (ScopesFit w.shapes) (sym h.same) fit) more.1 in
      subst (ArmsRan st) (ok_is (more.0.0, branch t r.0.1 ∷ more.0.1) q more.2) (record {
        same = g.same ∙ h.same;
        right = λ rs ms later.
            let others = subst (λ z. typed.all_inner (map (branch_in w headers wanted rs ms) more.0.1) (frame_of z) ≡ true) h.same (g.right rs ms later) in
            let first = branch_typed w headers wanted rs ms (frame_of st.scopes) t r.0.1 asks.0 (h.right rs ms (g.earlier rs ms later)) in
            and_from (typed.inner (branch_in w headers wanted rs ms (branch t r.0.1)) (frame_of st.scopes)) (typed.all_inner (map (branch_in w headers wanted rs ms) more.0.1) (frame_of st.scopes)) first others;
        earlier = λ rs ms later. h.earlier rs ms (g.earlier rs ms later);
      })
  arms_ran [] xs st q asks good fit e = no_arms st q e
  arms_ran (t ∷ ts) [] st q asks good fit e = no_arms st q e

module _ (site : ModuleContext) (w : World) (headers : List rules.Header) (fits : FitsSite site w headers) where
  tests_right : (ss : Scopes) (s : Span) (xs : List Arm) (tests : List Expr) → ScopesFit w.shapes ss → conditions site ss s xs ≡ Ok tests → EachTest w headers site.wanted ss tests
  tests_right ss s [] tests fit e = subst (EachTest w headers site.wanted ss) (ok_is [] tests e) tt
  tests_right ss s (x ∷ xs) tests fit e =
      let m = went (of_kind (task site) ss s x.condition bool) _ tests e in
      let more = went (conditions site ss s xs) _ tests m.2 in
      subst (EachTest w headers site.wanted ss) (ok_is (m.0 ∷ more.0) tests more.2) (has_true w (frame_of ss) m.0 bool (kind_right (task site) w fits.world ss fit s x.condition bool m.0 m.1), tests_right ss s xs more.0 fit more.1)

  pub if_good : (s : Span) (xs : List Arm) (otherwise : Option Run) → EachArm w headers site.wanted xs → LastGood w headers site.wanted otherwise → GoodRun w headers site.wanted (if_case site s xs otherwise)
  if_good s xs otherwise good last st r fit e =
      let tests = went (conditions site st.scopes s xs) _ r e in
      let bs = went (arms tests.0 xs st) _ r tests.2 in
      let o = went (last_arm otherwise bs.0.0) _ r bs.2 in
      let h = arms_ran w headers site.wanted tests.0 xs st bs.0 (tests_right st.scopes s xs tests.0 fit tests.1) good fit bs.1 in
      let l = last_ran w headers site.wanted otherwise bs.0.0 o.0 last (subst (ScopesFit w.shapes) (sym h.same) fit) o.1 in
      let same = l.same ∙ h.same in
      subst (Ran w headers site.wanted st) (ok_is (o.0.0, If bs.0.1 o.0.1) r o.2) (record {
        right = λ rs ms later.
            let others = subst (λ z. last_right w headers site.wanted rs ms o.0.1 (frame_of z) ≡ true) h.same (l.right rs ms later) in
            if_typed w headers site.wanted rs ms (frame_of st.scopes) bs.0.1 o.0.1 (h.right rs ms (l.earlier rs ms later)) others ∙ ap (λ z. Some (frame_of z)) (sym same);
        earlier = λ rs ms later. h.earlier rs ms (l.earlier rs ms later);
        fit = subst (ScopesFit w.shapes) (sym same) fit;
        outer = ap (λ z. closed z) same;
      })

  pub for_good : (s : Span) (h : WrittenHead) (x : Run) → GoodRun w headers site.wanted x → GoodRun w headers site.wanted (for_case site s h x)
  for_good s h x good st r fit e =
      let l = went (in_head (task site) s h st.scopes) _ r e in
      let q = went (x (scoped st l.0.0)) _ r l.2 in
      let head = head_right (task site) w fits.world s h st.scopes l.0 fit l.1 in
      let g = good (scoped st l.0.0) q.0 head.fit q.1 in
      let same = g.outer ∙ head.outer in
      subst (Ran w headers site.wanted st) (ok_is (scoped q.0.0 (closed q.0.0.scopes), For l.0.1 q.0.1) r q.2) (record {
        right = λ rs ms later. for_typed w headers site.wanted rs ms (frame_of st.scopes) (frame_of l.0.0) (frame_of q.0.0.scopes) l.0.1 q.0.1 head.enters (g.right rs ms later) ∙ ap (λ z. Some (frame_of z)) (sym same);
        earlier = g.earlier;
        fit = subst (ScopesFit w.shapes) (sym same) fit;
        outer = ap (λ z. closed z) same;
      })
