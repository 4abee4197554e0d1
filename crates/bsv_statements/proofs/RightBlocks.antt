-- Statements with statements in them are in order.
use Rattle.std.proofs.Common.{◌≡◌, ◌∙◌, ℕ, Bool, true, false, cond, ◌&&◌, List, [], ◌∷◌, ◌++◌, map, Option, Some, None, Ok, option_map, refl, sym, ap, subst}
use Rattle.std.proofs.lemmas.Bool.{and_parts, and_from}
use Rattle.std.proofs.lemmas.Option.{same_Some as some_is}
use Rattle.bsv_scopes.specs.Scopes.{opened, closed}
use Rattle.bsv_types.specs.declared.expressions.Expr.{Expr}
use Rattle.bsv_types.specs.declared.statements.Stmt.{Stmt, Block, If, For, Case, fold-roll-Stmt}
use Rattle.bsv_types.specs.declared.statements.Stmt.TheOpen.{Stmt-F}
use Rattle.bsv_types.specs.declared.statements.Stmt.TheViews.{rolls-Block, rolls-If, rolls-For, rolls-Case}
use Rattle.bsv_types.specs.declared.statements.Branch.{Branch, fold-Branch, fold-roll-Branch}
use Rattle.bsv_types.specs.declared.statements.CaseArm.{CaseArm, fold-CaseArm, fold-roll-CaseArm}
use Rattle.bsv_types.specs.declared.statements.Condition.{Condition}
use Rattle.bsv_types.specs.declared.statements.Condition.TheVariants as condition
use Rattle.bsv_types.specs.declared.statements.Head.{Head}
use Rattle.bsv_types.specs.Kinds.{Kind, maybe}
use Rattle.bsv_types.specs.Shapes.{Shapes, is_value, is_bits, has_range, width_by}
use Rattle.bsv_types.specs.Operators.{◌>>=◌}
use Rattle.bsv_types.specs.Expressions.{one, World, Frame, typing}
use Rattle.bsv_types.specs.Statements as rules
use Rattle.bsv_typing.specs.Forms.{payload}
use Rattle.bsv_statements.specs.Bodies.{Scopes, Task, Run, all_runs, inside, in_arm, branch, last_arm, labelled, block_case}
use Rattle.bsv_statements.specs.Laws.{ScopesFit, frame_of, typed_task}
use Rattle.bsv_typing.proofs.RightGiven.{bits_value}
use Rattle.bsv_statements.proofs.RightScopes.{frame_opened, opened_fit, defined_right}
use Rattle.bsv_statements.proofs.RightCalls.{ok_is, went}
use Rattle.bsv_statements.proofs.RightStatements.{if_right_true, value_slot_right, typed_run, GoodRun, ended}

pub inner_true : (x : rules.Run) (frame next : Frame) → x frame ≡ Some next → rules.inner x frame ≡ true
inner_true x frame next h = rw h

pub payload_is : (j k : Kind) → payload j ≡ Some k → j ≡ maybe k
payload_is (maybe i) k e = cc
payload_is _ k e = absurd cc

-- the value in a Maybe has a type of values
pub payload_value : (s : Shapes) (k : Kind) → is_value s (maybe k) ≡ true → is_value s k ≡ true
payload_value s k e = bits_value s k (and_parts (is_bits s _ k) (has_range (width_by s.enums s.structs (maybe k))) e).0

pub some_true : (b : Bool) (frame : Frame) → b ≡ true → cond b (Some frame) None ≡ Some frame
some_true true frame e = refl
some_true false frame e = absurd cc

module _ (t : Task) (w : World) where
  abbrev pub branch_run : Branch → rules.Run
  branch_run = fold-Branch rules.Run rules.Run rules.Arm (rules.stmt_step w (typed_task t)) (rules.branch_step w) rules.case_step

  abbrev pub arm_run : CaseArm → rules.Arm
  arm_run = fold-CaseArm rules.Run rules.Run rules.Arm (rules.stmt_step w (typed_task t)) (rules.branch_step w) rules.case_step

  abbrev pub last_right : Option Stmt → Frame → Bool
  last_right o frame = rules.inner_too (option_map (typed_run t w) o) frame

  -- ---- the typed statements

  block_typed : (frame next : Frame) (ys : List Stmt) → rules.run (map (typed_run t w) ys) frame ≡ Some next → typed_run t w (Block ys) frame ≡ Some frame
  block_typed frame next ys h =
      ap (λ y. typed_run t w y frame) (sym (rolls-Block ys)) ∙
      ap (λ f. f frame) (fold-roll-Stmt rules.Run rules.Run rules.Arm (rules.stmt_step w (typed_task t)) (rules.branch_step w) rules.case_step (Stmt-F.Block ys)) ∙
      if_right_true (rules.inner (rules.run (map (typed_run t w) ys)) frame) frame (inner_true (rules.run (map (typed_run t w) ys)) frame next h)

  if_is : (frame : Frame) (bs : List Branch) (o : Option Stmt) → typed_run t w (If bs o) frame ≡ rules.if_right (rules.all_inner (map branch_run bs) frame && last_right o frame) frame
  if_is frame bs None = ap (λ y. typed_run t w y frame) (sym (rolls-If bs None)) ∙ ap (λ f. f frame) (fold-roll-Stmt rules.Run rules.Run rules.Arm (rules.stmt_step w (typed_task t)) (rules.branch_step w) rules.case_step (Stmt-F.If bs None))
  if_is frame bs (Some y) = ap (λ y. typed_run t w y frame) (sym (rolls-If bs (Some y))) ∙ ap (λ f. f frame) (fold-roll-Stmt rules.Run rules.Run rules.Arm (rules.stmt_step w (typed_task t)) (rules.branch_step w) rules.case_step (Stmt-F.If bs (Some y)))

  pub if_typed : (frame : Frame) (bs : List Branch) (o : Option Stmt) → rules.all_inner (map branch_run bs) frame ≡ true → last_right o frame ≡ true → typed_run t w (If bs o) frame ≡ Some frame
  if_typed frame bs o all last =
      if_is frame bs o ∙ if_right_true (rules.all_inner (map branch_run bs) frame && last_right o frame) frame (and_from (rules.all_inner (map branch_run bs) frame) (last_right o frame) all last)

  pub for_typed : (frame inner next : Frame) (head : Head) (y : Stmt) → rules.in_loop w t.base head frame ≡ Some inner → typed_run t w y inner ≡ Some next → typed_run t w (For head y) frame ≡ Some frame
  for_typed frame inner next head y enters h =
      ap (λ y. typed_run t w y frame) (sym (rolls-For head y)) ∙
      ap (λ f. f frame) (fold-roll-Stmt rules.Run rules.Run rules.Arm (rules.stmt_step w (typed_task t)) (rules.branch_step w) rules.case_step (Stmt-F.For head y)) ∙
      if_right_true (rules.inner (λ f. rules.in_loop w t.base head f >>= typed_run t w y) frame) frame
      (inner_true (λ f. rules.in_loop w t.base head f >>= typed_run t w y) frame next (ap (λ (q : Option Frame). q >>= typed_run t w y) enters ∙ h))

  case_is : (frame : Frame) (x : Expr) (cs : List CaseArm) (o : Option Stmt) → typed_run t w (Case x cs o) frame ≡ rules.if_right (rules.case_right w frame (typing w x frame) (map arm_run cs) (option_map (typed_run t w) o)) frame
  case_is frame x cs None = ap (λ y. typed_run t w y frame) (sym (rolls-Case x cs None)) ∙ ap (λ f. f frame) (fold-roll-Stmt rules.Run rules.Run rules.Arm (rules.stmt_step w (typed_task t)) (rules.branch_step w) rules.case_step (Stmt-F.Case x cs None))
  case_is frame x cs (Some y) = ap (λ y. typed_run t w y frame) (sym (rolls-Case x cs (Some y))) ∙ ap (λ f. f frame) (fold-roll-Stmt rules.Run rules.Run rules.Arm (rules.stmt_step w (typed_task t)) (rules.branch_step w) rules.case_step (Stmt-F.Case x cs (Some y)))

  pub case_typed : (frame : Frame) (x : Expr) (k : Kind) (cs : List CaseArm) (o : Option Stmt) → typing w x frame ≡ Some k → rules.arms_right w frame k (map arm_run cs) ≡ true → last_right o frame ≡ true → typed_run t w (Case x cs o) frame ≡ Some frame
  case_typed frame x k cs o h all last =
      case_is frame x cs o ∙ ap (λ q. rules.if_right (rules.case_right w frame q (map arm_run cs) (option_map (typed_run t w) o)) frame) h ∙
      if_right_true (rules.arms_right w frame k (map arm_run cs) && last_right o frame) frame (and_from (rules.arms_right w frame k (map arm_run cs)) (last_right o frame) all last)

  pub branch_typed : (frame inner next : Frame) (c : Condition) (y : Stmt) → rules.in_arm w c frame ≡ Some inner → typed_run t w y inner ≡ Some next → branch_run (branch c y) frame ≡ Some next
  branch_typed frame inner next c y enters h =
      ap (λ f. f frame) (fold-roll-Branch rules.Run rules.Run rules.Arm (rules.stmt_step w (typed_task t)) (rules.branch_step w) rules.case_step (record { condition = c; arm = y })) ∙
      ap (λ (q : Option Frame). q >>= typed_run t w y) enters ∙ h

  pub arm_is : (ms : List Expr) (y : Stmt) → arm_run (labelled ms y) ≡ record { labels = ms; arm = typed_run t w y }
  arm_is ms y = fold-roll-CaseArm rules.Run rules.Run rules.Arm (rules.stmt_step w (typed_task t)) (rules.branch_step w) rules.case_step (record { labels = ms; arm = y })

  -- ---- one after the other, and in a scope of its own

  abbrev pub EachRun : List Run → Type 0
  EachRun [] = Unit {0}
  EachRun (x ∷ xs) = GoodRun t w x × EachRun xs

  pub record AllRan (ss : Scopes) (q : Scopes × List Stmt) : Type 0 where
    pub typed : rules.run (map (typed_run t w) q.1) (frame_of ss) ≡ Some (frame_of q.0)
    pub fit : ScopesFit w.shapes q.0
    pub outer : closed q.0 ≡ closed ss

  pub all_ran : (xs : List Run) (ss : Scopes) (q : Scopes × List Stmt) → EachRun xs → ScopesFit w.shapes ss → all_runs xs ss ≡ Ok q → AllRan ss q
  all_ran [] ss q good fit e = subst (AllRan ss) (ok_is (ss, []) q e) (record { typed = refl; fit = fit; outer = refl })
  all_ran (x ∷ xs) ss q good fit e =
      let r = went (x ss) _ q e in
      let rs = went (all_runs xs r.0.0) _ q r.2 in
      let h = good.0 ss r.0 fit r.1 in
      let more = all_ran xs r.0.0 rs.0 good.1 h.fit rs.1 in
      subst (AllRan ss) (ok_is (rs.0.0, r.0.1 ∷ rs.0.1) q rs.2) (record {
        typed = ap (λ (o : Option Frame). o >>= λ next. rules.run (map (typed_run t w) rs.0.1) next) h.typed ∙ more.typed;
        fit = more.fit;
        outer = more.outer ∙ h.outer;
      })

  pub block_good : (xs : List Run) → EachRun xs → GoodRun t w (block_case xs)
  block_good xs good ss r fit e =
      let q = went (all_runs xs (opened ss)) _ r e in
      let h = all_ran xs (opened ss) q.0 good (opened_fit w.shapes ss fit) q.1 in
      let typed = subst (λ f. rules.run (map (typed_run t w) q.0.1) f ≡ Some (frame_of q.0.0)) (frame_opened ss) h.typed in
      ended t w ss (closed q.0.0) (Block q.0.1) r fit h.outer (block_typed (frame_of ss) (frame_of q.0.0) q.0.1 typed) q.2

  -- the scopes are what they were
  pub record Inside (ss : Scopes) (r : Scopes × Stmt) : Type 0 where
    pub same : r.0 ≡ ss
    pub right : rules.inner (typed_run t w r.1) (frame_of ss) ≡ true

  pub inside_ran : (x : Run) (ss : Scopes) (q : Scopes × Stmt) → GoodRun t w x → ScopesFit w.shapes ss → inside x ss ≡ Ok q → Inside ss q
  inside_ran x ss q good fit e =
      let r = went (x (opened ss)) _ q e in
      let h = good (opened ss) r.0 (opened_fit w.shapes ss fit) r.1 in
      let typed = subst (λ f. typed_run t w r.0.1 f ≡ Some (frame_of r.0.0)) (frame_opened ss) h.typed in
      subst (Inside ss) (ok_is (closed r.0.0, r.0.1) q r.2) (record { same = h.outer; right = inner_true (typed_run t w r.0.1) (frame_of ss) (frame_of r.0.0) typed })

  abbrev pub LastGood : Option Run → Type 0
  LastGood None = Unit {0}
  LastGood (Some x) = GoodRun t w x

  pub last_ran : (o : Option Run) (ss : Scopes) (q : Scopes × Option Stmt) → LastGood o → ScopesFit w.shapes ss → last_arm o ss ≡ Ok q → (q.0 ≡ ss) × (last_right q.1 (frame_of ss) ≡ true)
  last_ran None ss q good fit e = subst (λ (p : Scopes × Option Stmt). (p.0 ≡ ss) × (last_right p.1 (frame_of ss) ≡ true)) (ok_is (ss, None) q e) (refl, refl)
  last_ran (Some x) ss q good fit e =
      let r = went (inside x ss) _ q e in
      let h = inside_ran x ss r.0 good fit r.1 in
      subst (λ (p : Scopes × Option Stmt). (p.0 ≡ ss) × (last_right p.1 (frame_of ss) ≡ true)) (ok_is (r.0.0, Some r.0.1) q r.2) (h.same, h.right)

  -- ---- arms

  -- the condition of an arm, with the variable that it binds there
  abbrev pub Asks : Scopes → Condition → Option (List ℕ × Kind) → Type 0
  Asks ss asked None = rules.in_arm w asked (frame_of ss) ≡ Some (frame_of ss)
  Asks ss asked (Some b) = (rules.in_arm w asked (frame_of ss) ≡ Some (frame_of ss ++ one b.1 ∷ [])) × (is_value w.shapes b.1 ≡ true)

  pub matches_is : (frame : Frame) (x : Expr) (k : Kind) → typing w x frame ≡ Some (maybe k) → rules.in_arm w (condition.Matches x) frame ≡ Some (frame ++ one k ∷ [])
  matches_is frame x k h = rw h

  pub record Entered (ss inner : Scopes) (asked : Condition) : Type 0 where
    pub enters : rules.in_arm w asked (frame_of ss) ≡ Some (frame_of inner)
    pub fit : ScopesFit w.shapes inner
    pub outer : closed inner ≡ ss

  pub entered : (ss inner : Scopes) (asked : Condition) (bound : Option (List ℕ × Kind)) → Asks ss asked bound → ScopesFit w.shapes ss → in_arm bound ss ≡ Some inner → Entered ss inner asked
  entered ss inner asked None asks fit e =
      subst (λ i. Entered ss i asked) (some_is (opened ss) inner e) (record { enters = asks ∙ ap Some (sym (frame_opened ss)); fit = opened_fit w.shapes ss fit; outer = refl })
  entered ss inner asked (Some b) asks fit e =
      let d = defined_right w.shapes b.0 (one b.1) (opened ss) inner (opened_fit w.shapes ss fit) (value_slot_right w.shapes b.1 asks.1) e in
      record { enters = asks.0 ∙ ap Some (ap (λ f. f ++ one b.1 ∷ []) (sym (frame_opened ss)) ∙ sym d.frame); fit = d.fit; outer = d.outer }
