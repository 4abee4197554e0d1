-- Arms of an `if` or a `case`, and loops, are in order.
use Rattle.std.proofs.Common.{ℕ, ◌≡◌, ◌∙◌, true, ◌&&◌, List, [], ◌∷◌, ◌++◌, map, Option, Some, None, Ok, refl, sym, ap, subst}
use Rattle.std.proofs.lemmas.Bool.{and_from}
use Rattle.bsv_ast.specs.Names.{is_lower}
use Rattle.bsv_ast.specs.declared.text.Span.{Span}
use Rattle.bsv_ast.specs.declared.expressions.Expr.{Expr as Written}
use Rattle.bsv_ast.specs.declared.statements.Condition.{Condition as WrittenCondition}
use Rattle.bsv_ast.specs.declared.statements.Condition.TheVariants as written_condition
use Rattle.bsv_ast.specs.declared.statements.Head.{Head as WrittenHead}
use Rattle.bsv_scopes.specs.Scopes.{opened, closed}
use Rattle.bsv_types.specs.declared.expressions.Expr.{Expr}
use Rattle.bsv_types.specs.declared.statements.Stmt.{If, For, Case}
use Rattle.bsv_types.specs.declared.statements.Branch.{Branch}
use Rattle.bsv_types.specs.declared.statements.CaseArm.{CaseArm}
use Rattle.bsv_types.specs.declared.statements.Condition.TheVariants as condition
use Rattle.bsv_types.specs.declared.statements.Head.{Head}
use Rattle.bsv_types.specs.Kinds.{Kind, bool, maybe, integer}
use Rattle.bsv_types.specs.Expressions.{one, World, typing, has_type}
use Rattle.bsv_types.specs.Statements as rules
use Rattle.bsv_typing.specs.Forms.{payload}
use Rattle.bsv_statements.specs.Bodies.{Or, ◌>=>◌, at, Scopes, Task, Run, with_variable, check, of_kind, assignable, inside, Opening, opening, openings, Arm, in_arm, branch, arm_case, arms, last_arm, if_case, in_head, for_case, Labelled, all_labels, labels_of, labelled, all_labelled, case_case, step_of, turn_of, start_of}
use Rattle.bsv_typing.specs.Laws.{FitsWorld}
use Rattle.bsv_statements.specs.Laws.{ScopesFit, frame_of}
use Rattle.bsv_typing.proofs.Typings.{value_typed}
use Rattle.bsv_statements.proofs.RightScopes.{frame_opened, opened_fit, Defined, defined_right}
use Rattle.bsv_statements.proofs.RightCalls.{ok_is, went, there_is, passed, has_true, assigns_true, check_right, kind_right, assignable_right}
use Rattle.bsv_statements.proofs.RightStatements.{if_right_true, typed_run, GoodRun, ended}
use Rattle.bsv_statements.proofs.RightBlocks.{inner_true, payload_is, payload_value, some_true, branch_run, arm_run, if_typed, for_typed, case_typed, branch_typed, arm_is, inside_ran, LastGood, last_ran, Asks, matches_is, entered}

module _ (t : Task) (w : World) (fits : FitsWorld t.env w) where
  -- ---- the arms of an `if`

  opening_right : (ss : Scopes) (s : Span) (c : WrittenCondition) (o : Opening) → ScopesFit w.shapes ss → opening t ss s c ≡ Ok o → Asks t w ss o.asked o.bound
  opening_right ss s (written_condition.Test p e) o fit is =
      let m = went (of_kind t ss s e bool) _ o is in
      let h = has_true w (frame_of ss) m.0 bool (kind_right t w fits ss fit s e bool m.0 m.1) in
      subst (λ (q : Opening). Asks t w ss q.asked q.bound) (ok_is (record { asked = condition.Test m.0; bound = None }) o m.2) (if_right_true (has_type w (frame_of ss) m.0 bool) (frame_of ss) h)
  opening_right ss s (written_condition.Matches p e name) o fit is =
      let m = there_is s (check t ss e None) _ o is in
      let k = there_is s (payload m.0.kind) _ o m.2 in
      let typed = (check_right t w fits ss fit e None m.0 m.1).0 ∙ ap Some (payload_is m.0.kind k.0 k.1) in
      subst (λ (q : Opening). Asks t w ss q.asked q.bound) (ok_is (record { asked = condition.Matches m.0.expr; bound = Some (name.name, k.0) }) o k.2)
      (matches_is t w (frame_of ss) m.0.expr k.0 typed, payload_value w.shapes k.0 (value_typed w (frame_of ss) m.0.expr (maybe k.0) typed))

  abbrev EachAsks : Scopes → List Opening → Type 0
  EachAsks ss [] = Unit {0}
  EachAsks ss (o ∷ os) = Asks t w ss o.asked o.bound × EachAsks ss os

  openings_right : (ss : Scopes) (s : Span) (xs : List Arm) (os : List Opening) → ScopesFit w.shapes ss → openings t ss s xs ≡ Ok os → EachAsks ss os
  openings_right ss s [] os fit is = subst (EachAsks ss) (ok_is [] os is) tt
  openings_right ss s (x ∷ xs) os fit is =
      let o = went (opening t ss s x.condition) _ os is in
      let more = went (openings t ss s xs) _ os o.2 in
      subst (EachAsks ss) (ok_is (o.0 ∷ more.0) os more.2) (opening_right ss s x.condition o.0 fit o.1, openings_right ss s xs more.0 fit more.1)

  abbrev pub ArmGood : Arm → Type 0
  ArmGood a = GoodRun t w a.run

  abbrev pub EachArm : List Arm → Type 0
  EachArm [] = Unit {0}
  EachArm (x ∷ xs) = ArmGood x × EachArm xs

  arm_ran : (s : Span) (o : Opening) (x : Arm) (ss : Scopes) (q : Scopes × Branch) → Asks t w ss o.asked o.bound → ArmGood x → ScopesFit w.shapes ss → arm_case s o x.run ss ≡ Ok q →
      (q.0 ≡ ss) × (rules.inner (branch_run t w q.1) (frame_of ss) ≡ true)
  arm_ran s o x ss q asks good fit e =
      let inner = there_is s (in_arm o.bound ss) _ q e in
      let r = went (x.run inner.0) _ q inner.2 in
      let h = entered t w ss inner.0 o.asked o.bound asks fit inner.1 in
      let ran = good inner.0 r.0 h.fit r.1 in
      let b = branch o.asked r.0.1 in
      subst (λ (p : Scopes × Branch). (p.0 ≡ ss) × (rules.inner (branch_run t w p.1) (frame_of ss) ≡ true)) (ok_is (closed r.0.0, b) q r.2)
      (ran.outer ∙ h.outer, inner_true (branch_run t w b) (frame_of ss) (frame_of r.0.0) (branch_typed t w (frame_of ss) (frame_of inner.0) (frame_of r.0.0) o.asked r.0.1 h.enters ran.typed))

  abbrev ArmsRan : Scopes → Scopes × List Branch → Type 0
  ArmsRan ss q = (q.0 ≡ ss) × (rules.all_inner (map (branch_run t w) q.1) (frame_of ss) ≡ true)

  arms_ran : (s : Span) (os : List Opening) (xs : List Arm) (ss : Scopes) (q : Scopes × List Branch) → EachAsks ss os → EachArm xs → ScopesFit w.shapes ss → arms s os xs ss ≡ Ok q → ArmsRan ss q
  arms_ran s (o ∷ os) (x ∷ xs) ss q asks good fit e =
      let b = went (arm_case s o x.run ss) _ q e in
      let bs = went (arms s os xs b.0.0) _ q b.2 in
      let h = arm_ran s o x ss b.0 asks.0 good.0 fit b.1 in
      let more = arms_ran s os xs ss bs.0 asks.1 good.1 fit (subst (λ z. arms s os xs z ≡ Ok bs.0) h.0 bs.1) in
      subst (ArmsRan ss) (ok_is (bs.0.0, b.0.1 ∷ bs.0.1) q bs.2) (more.0, and_from (rules.inner (branch_run t w b.0.1) (frame_of ss)) (rules.all_inner (map (branch_run t w) bs.0.1) (frame_of ss)) h.1 more.1)
  arms_ran s [] xs ss q asks good fit e = subst (ArmsRan ss) (ok_is (ss, []) q e) (refl, refl)
  arms_ran s (o ∷ os) [] ss q asks good fit e = subst (ArmsRan ss) (ok_is (ss, []) q e) (refl, refl)

  pub if_good : (s : Span) (xs : List Arm) (otherwise : Option Run) → EachArm xs → LastGood t w otherwise → GoodRun t w (if_case t s xs otherwise)
  if_good s xs otherwise good last ss r fit e =
      let os = went (openings t ss s xs) _ r e in
      let bs = went (arms s os.0 xs ss) _ r os.2 in
      let o = went (last_arm otherwise bs.0.0) _ r bs.2 in
      let h = arms_ran s os.0 xs ss bs.0 (openings_right ss s xs os.0 fit os.1) good fit bs.1 in
      let l = last_ran t w otherwise ss o.0 last fit (subst (λ z. last_arm otherwise z ≡ Ok o.0) h.0 o.1) in
      ended t w ss o.0.0 (If bs.0.1 o.0.1) r fit l.0 (if_typed t w (frame_of ss) bs.0.1 o.0.1 h.1 l.1) o.2

  -- ---- loops

  pub record Heads (ss : Scopes) (l : Scopes × Head) : Type 0 where
    pub enters : rules.in_loop w t.base l.1 (frame_of ss) ≡ Some (frame_of l.0)
    pub fit : ScopesFit w.shapes l.0
    pub outer : closed l.0 ≡ ss

  abbrev loop_of : WrittenHead → Expr → Scopes → Expr × ℕ × Expr → Scopes × Head
  loop_of h first inner turn = (inner, record { variable = h.variable.name; first = first; condition = turn.0; stepped = turn.1; step = turn.2 })

  -- the rest of a head, after its variable
  abbrev after_variable : Span → WrittenHead → Expr → Scopes → Or (Scopes × Head)
  after_variable s h first inner = turn_of t inner s h >=> λ turn. Ok (loop_of h first inner turn)

  after_right : (s : Span) (h : WrittenHead) (first : Expr) (ss inner : Scopes) (l : Scopes × Head) → is_lower h.variable.name ≡ true → typing w first (frame_of ss) ≡ Some integer → Defined w.shapes (one integer) (opened ss) inner →
      after_variable s h first inner ≡ Ok l → Heads ss l
  after_right s h first ss inner l lower first_typed d e =
      let turn = went (turn_of t inner s h) _ l e in
      let test = went (of_kind t inner s h.condition bool) _ turn.0 turn.1 in
      let next = went (step_of t inner s h) _ turn.0 test.2 in
      let v = there_is s (assignable t inner h.stepped.name) _ next.0 next.1 in
      let step = went (of_kind t inner s h.step v.0.1) _ next.0 v.2 in
      let frame = frame_of ss in
      let grown = frame ++ one integer ∷ [] in
      let is = d.frame ∙ ap (λ f. f ++ one integer ∷ []) (frame_opened ss) in
      let takes = assignable_right t w fits inner d.fit h.stepped.name v.0 v.1 in
      let first_is = has_true w frame first integer first_typed in
      let test_is = subst (λ f. has_type w f test.0 bool ≡ true) is (has_true w (frame_of inner) test.0 bool (kind_right t w fits inner d.fit s h.condition bool test.0 test.1)) in
      let step_is = subst (λ f. rules.assigns w t.base f v.0.0 step.0 ≡ true) is
      (assigns_true w t.base (frame_of inner) v.0.0 step.0 v.0.1 takes.own takes.here takes.right (kind_right t w fits inner d.fit s h.step v.0.1 step.0 step.1)) in
      let right = and_from (is_lower h.variable.name && has_type w frame first integer && has_type w grown test.0 bool) (rules.assigns w t.base grown v.0.0 step.0)
      (and_from (is_lower h.variable.name && has_type w frame first integer) (has_type w grown test.0 bool) (and_from (is_lower h.variable.name) (has_type w frame first integer) lower first_is) test_is) step_is in
      let turned = ap (λ n. (test.0, n.0, n.1)) (ok_is (v.0.0, step.0) next.0 step.2) ∙ ok_is (test.0, next.0.0, next.0.1) turn.0 next.2 in
      subst (Heads ss) (ap (loop_of h first inner) turned ∙ ok_is (loop_of h first inner turn.0) l turn.2)
      (record { enters = some_true _ grown right ∙ ap Some (sym is); fit = d.fit; outer = d.outer })

  pub head_right : (s : Span) (h : WrittenHead) (ss : Scopes) (l : Scopes × Head) → ScopesFit w.shapes ss → in_head t s h ss ≡ Ok l → Heads ss l
  head_right s h ss l fit e =
      let start = went (start_of t s h ss) (λ v. after_variable s h v.1 v.0) l e in
      let lower = passed s (is_lower h.variable.name) true _ start.0 start.1 in
      let first = went (of_kind t ss s h.first integer) (λ x. at s (with_variable h.variable.name (one integer) (opened ss)) >=> λ inner. Ok (inner, x)) start.0 lower.1 in
      let inner = there_is s (with_variable h.variable.name (one integer) (opened ss)) (λ inner. Ok (inner, first.0)) start.0 first.2 in
      let d = defined_right w.shapes h.variable.name (one integer) (opened ss) inner.0 (opened_fit w.shapes ss fit) refl inner.1 in
      after_right s h first.0 ss inner.0 l lower.0 (kind_right t w fits ss fit s h.first integer first.0 first.1) d
      (ap (λ v. after_variable s h v.1 v.0) (ok_is (inner.0, first.0) start.0 inner.2) ∙ start.2)

  pub for_good : (s : Span) (h : WrittenHead) (x : Run) → GoodRun t w x → GoodRun t w (for_case t s h x)
  for_good s h x good ss r fit e =
      let l = went (in_head t s h ss) _ r e in
      let q = went (x l.0.0) _ r l.2 in
      let head = head_right s h ss l.0 fit l.1 in
      let ran = good l.0.0 q.0 head.fit q.1 in
      ended t w ss (closed q.0.0) (For l.0.1 q.0.1) r fit (ran.outer ∙ head.outer) (for_typed t w (frame_of ss) (frame_of l.0.0) (frame_of q.0.0) l.0.1 q.0.1 head.enters ran.typed) q.2

  -- ---- the arms of a `case`

  labels_right : (ss : Scopes) (s : Span) (k : Kind) (es : List Written) (ms : List Expr) → ScopesFit w.shapes ss → all_labels t ss s k es ≡ Ok ms → rules.all_labels w (frame_of ss) k ms ≡ true
  labels_right ss s k [] ms fit e = subst (λ z. rules.all_labels w (frame_of ss) k z ≡ true) (ok_is [] ms e) refl
  labels_right ss s k (x ∷ xs) ms fit e =
      let m = went (of_kind t ss s x k) _ ms e in
      let more = went (all_labels t ss s k xs) _ ms m.2 in
      let h = has_true w (frame_of ss) m.0 k (kind_right t w fits ss fit s x k m.0 m.1) in
      subst (λ z. rules.all_labels w (frame_of ss) k z ≡ true) (ok_is (m.0 ∷ more.0) ms more.2) (and_from (has_type w (frame_of ss) m.0 k) (rules.all_labels w (frame_of ss) k more.0) h (labels_right ss s k xs more.0 fit more.1))

  abbrev EachLabels : Scopes → Kind → List (List Expr) → Type 0
  EachLabels ss k [] = Unit {0}
  EachLabels ss k (ms ∷ rest) = (rules.all_labels w (frame_of ss) k ms ≡ true) × EachLabels ss k rest

  each_labels : (ss : Scopes) (s : Span) (k : Kind) (xs : List Labelled) (mss : List (List Expr)) → ScopesFit w.shapes ss → labels_of t ss s k xs ≡ Ok mss → EachLabels ss k mss
  each_labels ss s k [] mss fit e = subst (EachLabels ss k) (ok_is [] mss e) tt
  each_labels ss s k (x ∷ xs) mss fit e =
      let ms = went (all_labels t ss s k x.labels) _ mss e in
      let more = went (labels_of t ss s k xs) _ mss ms.2 in
      subst (EachLabels ss k) (ok_is (ms.0 ∷ more.0) mss more.2) (labels_right ss s k x.labels ms.0 fit ms.1, each_labels ss s k xs more.0 fit more.1)

  abbrev pub LabelledGood : Labelled → Type 0
  LabelledGood x = GoodRun t w x.run

  abbrev pub EachLabelled : List Labelled → Type 0
  EachLabelled [] = Unit {0}
  EachLabelled (x ∷ xs) = LabelledGood x × EachLabelled xs

  abbrev CasesRan : Scopes → Kind → Scopes × List CaseArm → Type 0
  CasesRan ss k q = (q.0 ≡ ss) × (rules.arms_right w (frame_of ss) k (map (arm_run t w) q.1) ≡ true)

  cases_ran : (mss : List (List Expr)) (xs : List Labelled) (k : Kind) (ss : Scopes) (q : Scopes × List CaseArm) → EachLabels ss k mss → EachLabelled xs → ScopesFit w.shapes ss → all_labelled mss xs ss ≡ Ok q → CasesRan ss k q
  cases_ran (ms ∷ rest) (x ∷ xs) k ss q labels good fit e =
      let r = went (inside x.run ss) _ q e in
      let rs = went (all_labelled rest xs r.0.0) _ q r.2 in
      let h = inside_ran t w x.run ss r.0 good.0 fit r.1 in
      let more = cases_ran rest xs k ss rs.0 labels.1 good.1 fit (subst (λ z. all_labelled rest xs z ≡ Ok rs.0) h.same rs.1) in
      let frame = frame_of ss in
      let others = map (arm_run t w) rs.0.1 in
      let right = and_from (rules.all_labels w frame k ms && rules.inner (typed_run t w r.0.1) frame) (rules.arms_right w frame k others) (and_from (rules.all_labels w frame k ms) (rules.inner (typed_run t w r.0.1) frame) labels.0 h.right) more.1 in
      subst (CasesRan ss k) (ok_is (rs.0.0, labelled ms r.0.1 ∷ rs.0.1) q rs.2) (more.0, ap (λ a. rules.arms_right w frame k (a ∷ others)) (arm_is t w ms r.0.1) ∙ right)
  cases_ran [] xs k ss q labels good fit e = subst (CasesRan ss k) (ok_is (ss, []) q e) (refl, refl)
  cases_ran (ms ∷ rest) [] k ss q labels good fit e = subst (CasesRan ss k) (ok_is (ss, []) q e) (refl, refl)

  pub case_good : (s : Span) (x : Written) (xs : List Labelled) (otherwise : Option Run) → EachLabelled xs → LastGood t w otherwise → GoodRun t w (case_case t s x xs otherwise)
  case_good s x xs otherwise good last ss r fit e =
      let m = there_is s (check t ss x None) _ r e in
      let k = m.0.kind in
      let mss = went (labels_of t ss s k xs) _ r m.2 in
      let cs = went (all_labelled mss.0 xs ss) _ r mss.2 in
      let o = went (last_arm otherwise cs.0.0) _ r cs.2 in
      let h = cases_ran mss.0 xs k ss cs.0 (each_labels ss s k xs mss.0 fit mss.1) good fit cs.1 in
      let l = last_ran t w otherwise ss o.0 last fit (subst (λ z. last_arm otherwise z ≡ Ok o.0) h.0 o.1) in
      ended t w ss o.0.0 (Case m.0.expr cs.0.1 o.0.1) r fit l.0 (case_typed t w (frame_of ss) m.0.expr k cs.0.1 o.0.1 (check_right t w fits ss fit x None m.0 m.1).0 h.1 l.1) o.2
