-- How the paths through typed statements end, from how those through their parts end.
use Rattle.std.proofs.Common.{◌≡◌, ◌∙◌, ℕ, suc, ◌&&◌, List, [], ◌∷◌, map, length, Option, Some, None, Ok, option_map, refl, sym, ap, ap₂, subst, arith}
use Rattle.std.specs.Prelude.{codes}
use Rattle.bsv_ast.specs.declared.text.Span.{Span}
use Rattle.bsv_ast.specs.declared.expressions.Expr.{Expr as WrittenExpr}
use Rattle.bsv_ast.specs.declared.statements.Place.{Place as WrittenPlace}
use Rattle.bsv_ast.specs.declared.statements.Call.{Call}
use Rattle.bsv_ast.specs.declared.statements.DeclaredType.{DeclaredType}
use Rattle.bsv_ast.specs.declared.statements.Declaration.{Declaration}
use Rattle.bsv_ast.specs.declared.statements.Head.{Head as WrittenHead}
use Rattle.bsv_scopes.specs.Scopes.{opened, closed}
use Rattle.bsv_types.specs.declared.expressions.Expr.{Expr}
use Rattle.bsv_types.specs.declared.expressions.Place.{Place}
use Rattle.bsv_types.specs.declared.types.Ty.{Ty}
use Rattle.bsv_types.specs.declared.statements.Stmt as nodes
use Rattle.bsv_types.specs.declared.statements.Stmt.{Stmt, Declare, Assign, Act, Bind, Return, NoAction, Block, If, For, Case}
use Rattle.bsv_types.specs.declared.statements.Stmt.TheOpen as layers
use Rattle.bsv_types.specs.declared.statements.Stmt.TheViews.{rolls-Declare, rolls-Assign, rolls-Act, rolls-Bind, rolls-Return, rolls-NoAction, rolls-Block, rolls-If, rolls-For, rolls-Case}
use Rattle.bsv_types.specs.declared.statements.Branch as branches
use Rattle.bsv_types.specs.declared.statements.CaseArm as cases
use Rattle.bsv_types.specs.declared.statements.Condition.{Condition}
use Rattle.bsv_types.specs.declared.statements.Head.{Head}
use Rattle.bsv_types.specs.Kinds.{Kind, type_of}
use Rattle.bsv_types.specs.Expressions.{one}
use Rattle.bsv_types.specs.Statements as rules
use Rattle.bsv_types.specs.Statements.{goes_on, returned, Ends, agree, all_agree, or_goes_on, sequence}
use Rattle.bsv_typing.specs.Places.{place_of}
use Rattle.bsv_statements.specs.Bodies.{Or, Scopes, Task, Run, with_variable, check, of_kind, instance_at, called, call_at, acted, is_action, is_written, given_by, is_wanted, declared_kind, assignable, all_runs, inside, write_case, act_case, bind_case, declare_case, assign_case, return_case, Opening, opening, openings, Arm, in_arm, branch, arm_case, arms, last_arm, if_case, in_head, for_case, Labelled, all_labels, labels_of, labelled, all_labelled, case_case, block_case}
use Rattle.bsv_statements.proofs.RightCalls.{ok_is, went, there_is, passed}

-- ---- the typed statements

abbrev branch_ends : branches.Branch → Ends
branch_ends = branches.fold-Branch Ends Ends Ends rules.ends_step (λ b. b.arm) (λ a. a.arm)

abbrev case_ends : cases.CaseArm → Ends
case_ends = cases.fold-CaseArm Ends Ends Ends rules.ends_step (λ b. b.arm) (λ a. a.arm)

abbrev layer_ends : layers.Stmt-F Stmt branches.Branch cases.CaseArm → Ends
layer_ends y = rules.ends_step (nodes.map-Stmt Stmt branches.Branch cases.CaseArm Ends Ends Ends rules.stmt_ends branch_ends case_ends y)

node_ends : (y : layers.Stmt-F Stmt branches.Branch cases.CaseArm) → rules.stmt_ends (nodes.roll-Stmt y) ≡ layer_ends y
node_ends y = nodes.fold-roll-Stmt Ends Ends Ends rules.ends_step (λ b. b.arm) (λ a. a.arm) y

act_ends : (place : Place) (m : ℕ) (xs : List Expr) → rules.stmt_ends (Act place m xs) ≡ Some goes_on
act_ends place m xs = ap rules.stmt_ends (sym (rolls-Act place m xs)) ∙ node_ends (layers.Stmt-F.Act place m xs)

bind_ends : (ty : Ty) (place : Place) (m : ℕ) (xs : List Expr) → rules.stmt_ends (Bind ty place m xs) ≡ Some goes_on
bind_ends ty place m xs = ap rules.stmt_ends (sym (rolls-Bind ty place m xs)) ∙ node_ends (layers.Stmt-F.Bind ty place m xs)

declare_ends : (ty : Ty) (x : Expr) → rules.stmt_ends (Declare ty x) ≡ Some goes_on
declare_ends ty x = ap rules.stmt_ends (sym (rolls-Declare ty x)) ∙ node_ends (layers.Stmt-F.Declare ty x)

assign_ends : (level : ℕ) (x : Expr) → rules.stmt_ends (Assign level x) ≡ Some goes_on
assign_ends level x = ap rules.stmt_ends (sym (rolls-Assign level x)) ∙ node_ends (layers.Stmt-F.Assign level x)

return_ends : (x : Expr) → rules.stmt_ends (Return x) ≡ Some returned
return_ends x = ap rules.stmt_ends (sym (rolls-Return x)) ∙ node_ends (layers.Stmt-F.Return x)

none_ends : rules.stmt_ends NoAction ≡ Some goes_on
none_ends = ap rules.stmt_ends (sym rolls-NoAction) ∙ node_ends layers.Stmt-F.NoAction

block_ends : (ys : List Stmt) → rules.stmt_ends (Block ys) ≡ sequence (map rules.stmt_ends ys)
block_ends ys = ap rules.stmt_ends (sym (rolls-Block ys)) ∙ node_ends (layers.Stmt-F.Block ys)

if_ends : (bs : List branches.Branch) (o : Option Stmt) → rules.stmt_ends (If bs o) ≡ all_agree (map branch_ends bs) (or_goes_on (option_map rules.stmt_ends o))
if_ends bs None = ap rules.stmt_ends (sym (rolls-If bs None)) ∙ node_ends (layers.Stmt-F.If bs None)
if_ends bs (Some y) = ap rules.stmt_ends (sym (rolls-If bs (Some y))) ∙ node_ends (layers.Stmt-F.If bs (Some y))

for_ends : (h : Head) (y : Stmt) → rules.stmt_ends (For h y) ≡ agree (rules.stmt_ends y) (Some goes_on)
for_ends h y = ap rules.stmt_ends (sym (rolls-For h y)) ∙ node_ends (layers.Stmt-F.For h y)

cases_end : (x : Expr) (cs : List cases.CaseArm) (o : Option Stmt) → rules.stmt_ends (Case x cs o) ≡ all_agree (map case_ends cs) (or_goes_on (option_map rules.stmt_ends o))
cases_end x cs None = ap rules.stmt_ends (sym (rolls-Case x cs None)) ∙ node_ends (layers.Stmt-F.Case x cs None)
cases_end x cs (Some y) = ap rules.stmt_ends (sym (rolls-Case x cs (Some y))) ∙ node_ends (layers.Stmt-F.Case x cs (Some y))

arm_ends : (c : Condition) (y : Stmt) → branch_ends (branch c y) ≡ rules.stmt_ends y
arm_ends c y = branches.fold-roll-Branch Ends Ends Ends rules.ends_step (λ b. b.arm) (λ a. a.arm) (record { condition = c; arm = y })

labelled_ends : (ms : List Expr) (y : Stmt) → case_ends (labelled ms y) ≡ rules.stmt_ends y
labelled_ends ms y = cases.fold-roll-CaseArm Ends Ends Ends rules.ends_step (λ b. b.arm) (λ a. a.arm) (record { labels = ms; arm = y })

-- ---- what statements are typed as

-- what it is typed as ends so
abbrev pub Ending : Run → Ends → Type 0
Ending x e = (ss : Scopes) (r : Scopes × Stmt) → x ss ≡ Ok r → rules.stmt_ends r.1 ≡ e

ended : (e : Ends) (p r : Scopes × Stmt) → rules.stmt_ends p.1 ≡ e → ◌≡◌ {A = Or (Scopes × Stmt)} (Ok p) (Ok r) → rules.stmt_ends r.1 ≡ e
ended e p r h is = subst (λ (q : Scopes × Stmt). rules.stmt_ends q.1 ≡ e) (ok_is p r is) h

abbrev pub EachEnding : List Run → List Ends → Type 0
EachEnding [] [] = Unit {0}
EachEnding (x ∷ xs) (e ∷ es) = Ending x e × EachEnding xs es
EachEnding _ _ = ⊥

pub runs_end : (xs : List Run) (es : List Ends) (ss : Scopes) (q : Scopes × List Stmt) → EachEnding xs es → all_runs xs ss ≡ Ok q → map rules.stmt_ends q.1 ≡ es
runs_end [] [] ss q each e = subst (λ (p : Scopes × List Stmt). map rules.stmt_ends p.1 ≡ []) (ok_is (ss, []) q e) refl
runs_end (x ∷ xs) (n ∷ ns) ss q each e =
    let r = went (x ss) _ q e in
    let rs = went (all_runs xs r.0.0) _ q r.2 in
    subst (λ (p : Scopes × List Stmt). map rules.stmt_ends p.1 ≡ n ∷ ns) (ok_is (rs.0.0, r.0.1 ∷ rs.0.1) q rs.2) (ap₂ (λ a b. a ∷ b) (each.0 ss r.0 r.1) (runs_end xs ns r.0.0 rs.0 each.1 rs.1))
runs_end [] (n ∷ ns) ss q each e = elim each [ ]
runs_end (x ∷ xs) [] ss q each e = elim each [ ]

inside_ends : (x : Run) (n : Ends) (ss : Scopes) (q : Scopes × Stmt) → Ending x n → inside x ss ≡ Ok q → rules.stmt_ends q.1 ≡ n
inside_ends x n ss q ends e =
    let r = went (x (opened ss)) _ q e in
    ended n (closed r.0.0, r.0.1) q (ends (opened ss) r.0 r.1) r.2

abbrev pub LastEnding : Option Run → Option Ends → Type 0
LastEnding None None = Unit {0}
LastEnding (Some x) (Some e) = Ending x e
LastEnding _ _ = ⊥

last_ends : (o : Option Run) (n : Option Ends) (ss : Scopes) (q : Scopes × Option Stmt) → LastEnding o n → last_arm o ss ≡ Ok q → or_goes_on (option_map rules.stmt_ends q.1) ≡ or_goes_on n
last_ends None None ss q last e = subst (λ (p : Scopes × Option Stmt). or_goes_on (option_map rules.stmt_ends p.1) ≡ Some goes_on) (ok_is (ss, None) q e) refl
last_ends (Some x) (Some n) ss q last e =
    let r = went (inside x ss) _ q e in
    subst (λ (p : Scopes × Option Stmt). or_goes_on (option_map rules.stmt_ends p.1) ≡ n) (ok_is (r.0.0, Some r.0.1) q r.2) (inside_ends x n ss r.0 last r.1)
last_ends None (Some n) ss q last e = elim last [ ]
last_ends (Some x) None ss q last e = elim last [ ]

pub block_ending : (xs : List Run) (es : List Ends) → EachEnding xs es → Ending (block_case xs) (sequence es)
block_ending xs es each ss r e =
    let q = went (all_runs xs (opened ss)) _ r e in
    ended (sequence es) (closed q.0.0, Block q.0.1) r (block_ends q.0.1 ∙ ap sequence (runs_end xs es (opened ss) q.0 each q.1)) q.2

module _ (t : Task) where
  pub write_ending : (s : Span) (p : WrittenPlace) (x : WrittenExpr) → Ending (write_case t s p x) (Some goes_on)
  write_ending s p x ss r e =
      let i = went (instance_at t ss s p) _ r e in
      let a = passed s (t.acts && is_written i.0.kind) i.0 _ r i.2 in
      let c = went (called t ss s i.0 (codes "_write") (x ∷ [])) _ r a.1 in
      ended (Some goes_on) (ss, acted c.0) r (act_ends (place_of c.0.0) c.0.1 c.0.3) c.2

  pub act_ending : (s : Span) (call : Call) → Ending (act_case t s call) (Some goes_on)
  act_ending s call ss r e =
      let c = went (call_at t ss s call) _ r e in
      let a = passed s (t.acts && is_action c.0.2) c.0 _ r c.2 in
      ended (Some goes_on) (ss, acted c.0) r (act_ends (place_of c.0.0) c.0.1 c.0.3) a.1

  pub bind_ending : (s : Span) (d : DeclaredType) (name : List ℕ) (call : Call) → Ending (bind_case t s d name call) (Some goes_on)
  bind_ending s d name call ss r e =
      let want = went (declared_kind t s d) _ r e in
      let c = went (call_at t ss s call) _ r want.2 in
      let k = there_is s (given_by c.0.2) _ r c.2 in
      let a = passed s (t.acts && is_wanted want.0 k.0) k.0 _ r k.2 in
      let next = there_is s (with_variable name (one k.0) ss) _ r a.1 in
      ended (Some goes_on) (next.0, Bind (type_of k.0) (place_of c.0.0) c.0.1 c.0.3) r (bind_ends (type_of k.0) (place_of c.0.0) c.0.1 c.0.3) next.2

  pub declare_ending : (s : Span) (d : Declaration) → Ending (declare_case t s d) (Some goes_on)
  declare_ending s d ss r e =
      let want = went (declared_kind t s d.declared) _ r e in
      let m = there_is s (check t ss d.value want.0) _ r want.2 in
      let next = there_is s (with_variable d.name.name (one m.0.kind) ss) _ r m.2 in
      ended (Some goes_on) (next.0, Declare (type_of m.0.kind) m.0.expr) r (declare_ends (type_of m.0.kind) m.0.expr) next.2

  pub assign_ending : (s : Span) (name : List ℕ) (x : WrittenExpr) → Ending (assign_case t s name x) (Some goes_on)
  assign_ending s name x ss r e =
      let v = there_is s (assignable t ss name) _ r e in
      let m = went (of_kind t ss s x v.0.1) _ r v.2 in
      ended (Some goes_on) (ss, Assign v.0.0 m.0) r (assign_ends v.0.0 m.0) m.2

  pub return_ending : (s : Span) (x : WrittenExpr) → Ending (return_case t s x) (Some returned)
  return_ending s x ss r e =
      let k = there_is s t.result _ r e in
      let m = went (of_kind t ss s x k.0) _ r k.2 in
      ended (Some returned) (ss, Return m.0) r (return_ends m.0) m.2

  -- where nothing can be returned, nothing is
  pub no_return : (s : Span) (x : WrittenExpr) (n : Ends) → t.result ≡ None → Ending (return_case t s x) n
  no_return s x n none ss r e = let k = there_is s t.result _ r e in let no : Some k.0 ≡ None = sym k.1 ∙ none in absurd cc

  pub none_ending : Ending (λ ss. Ok (ss, NoAction)) (Some goes_on)
  none_ending ss r e = ended (Some goes_on) (ss, NoAction) r none_ends e

  abbrev pub EachArm : List Arm → List Ends → Type 0
  EachArm [] [] = Unit {0}
  EachArm (x ∷ xs) (e ∷ es) = Ending x.run e × EachArm xs es
  EachArm _ _ = ⊥

  openings_many : (ss : Scopes) (s : Span) (xs : List Arm) (os : List Opening) → openings t ss s xs ≡ Ok os → length os ≡ length xs
  openings_many ss s [] os e = ap length (sym (ok_is [] os e))
  openings_many ss s (x ∷ xs) os e =
      let o = went (opening t ss s x.condition) _ os e in
      let more = went (openings t ss s xs) _ os o.2 in
      ap length (sym (ok_is (o.0 ∷ more.0) os more.2)) ∙ ap suc (openings_many ss s xs more.0 more.1)

  arms_end : (s : Span) (os : List Opening) (xs : List Arm) (es : List Ends) (ss : Scopes) (q : Scopes × List branches.Branch) → length os ≡ length xs → EachArm xs es → arms s os xs ss ≡ Ok q → map branch_ends q.1 ≡ es
  arms_end s (o ∷ os) (x ∷ xs) (n ∷ ns) ss q many each e =
      let b = went (arm_case s o x.run ss) _ q e in
      let bs = went (arms s os xs b.0.0) _ q b.2 in
      let inner = there_is s (in_arm o.bound ss) _ b.0 b.1 in
      let r = went (x.run inner.0) _ b.0 inner.2 in
      let first = subst (λ (p : Scopes × branches.Branch). branch_ends p.1 ≡ n) (ok_is (closed r.0.0, branch o.asked r.0.1) b.0 r.2) (arm_ends o.asked r.0.1 ∙ each.0 inner.0 r.0 r.1) in
      subst (λ (p : Scopes × List branches.Branch). map branch_ends p.1 ≡ n ∷ ns) (ok_is (bs.0.0, b.0.1 ∷ bs.0.1) q bs.2) (ap₂ (λ a c. a ∷ c) first (arms_end s os xs ns b.0.0 bs.0 (omega arith) each.1 bs.1))
  arms_end s [] [] [] ss q many each e = subst (λ (p : Scopes × List branches.Branch). map branch_ends p.1 ≡ []) (ok_is (ss, []) q e) refl
  arms_end s (o ∷ os) [] es ss q many each e = absurd (omega arith)
  arms_end s [] (x ∷ xs) es ss q many each e = absurd (omega arith)
  arms_end s [] [] (n ∷ ns) ss q many each e = elim each [ ]
  arms_end s (o ∷ os) (x ∷ xs) [] ss q many each e = elim each [ ]

  pub if_ending : (s : Span) (xs : List Arm) (es : List Ends) (otherwise : Option Run) (n : Option Ends) → EachArm xs es → LastEnding otherwise n → Ending (if_case t s xs otherwise) (all_agree es (or_goes_on n))
  if_ending s xs es otherwise n each last ss r e =
      let os = went (openings t ss s xs) _ r e in
      let bs = went (arms s os.0 xs ss) _ r os.2 in
      let o = went (last_arm otherwise bs.0.0) _ r bs.2 in
      let h = arms_end s os.0 xs es ss bs.0 (openings_many ss s xs os.0 os.1) each bs.1 in
      ended (all_agree es (or_goes_on n)) (o.0.0, If bs.0.1 o.0.1) r (if_ends bs.0.1 o.0.1 ∙ ap₂ all_agree h (last_ends otherwise n bs.0.0 o.0 last o.1)) o.2

  pub for_ending : (s : Span) (h : WrittenHead) (x : Run) (n : Ends) → Ending x n → Ending (for_case t s h x) (agree n (Some goes_on))
  for_ending s h x n ends ss r e =
      let l = went (in_head t s h ss) _ r e in
      let q = went (x l.0.0) _ r l.2 in
      ended (agree n (Some goes_on)) (closed q.0.0, For l.0.1 q.0.1) r (for_ends l.0.1 q.0.1 ∙ ap (λ m. agree m (Some goes_on)) (ends l.0.0 q.0 q.1)) q.2

  abbrev pub EachLabelled : List Labelled → List Ends → Type 0
  EachLabelled [] [] = Unit {0}
  EachLabelled (x ∷ xs) (e ∷ es) = Ending x.run e × EachLabelled xs es
  EachLabelled _ _ = ⊥

  labels_many : (ss : Scopes) (s : Span) (k : Kind) (xs : List Labelled) (mss : List (List Expr)) → labels_of t ss s k xs ≡ Ok mss → length mss ≡ length xs
  labels_many ss s k [] mss e = ap length (sym (ok_is [] mss e))
  labels_many ss s k (x ∷ xs) mss e =
      let ms = went (all_labels t ss s k x.labels) _ mss e in
      let more = went (labels_of t ss s k xs) _ mss ms.2 in
      ap length (sym (ok_is (ms.0 ∷ more.0) mss more.2)) ∙ ap suc (labels_many ss s k xs more.0 more.1)

  labelled_end : (mss : List (List Expr)) (xs : List Labelled) (es : List Ends) (ss : Scopes) (q : Scopes × List cases.CaseArm) → length mss ≡ length xs → EachLabelled xs es → all_labelled mss xs ss ≡ Ok q → map case_ends q.1 ≡ es
  labelled_end (ms ∷ rest) (x ∷ xs) (n ∷ ns) ss q many each e =
      let r = went (inside x.run ss) _ q e in
      let rs = went (all_labelled rest xs r.0.0) _ q r.2 in
      let first = labelled_ends ms r.0.1 ∙ inside_ends x.run n ss r.0 each.0 r.1 in
      subst (λ (p : Scopes × List cases.CaseArm). map case_ends p.1 ≡ n ∷ ns) (ok_is (rs.0.0, labelled ms r.0.1 ∷ rs.0.1) q rs.2) (ap₂ (λ a c. a ∷ c) first (labelled_end rest xs ns r.0.0 rs.0 (omega arith) each.1 rs.1))
  labelled_end [] [] [] ss q many each e = subst (λ (p : Scopes × List cases.CaseArm). map case_ends p.1 ≡ []) (ok_is (ss, []) q e) refl
  labelled_end (ms ∷ rest) [] es ss q many each e = absurd (omega arith)
  labelled_end [] (x ∷ xs) es ss q many each e = absurd (omega arith)
  labelled_end [] [] (n ∷ ns) ss q many each e = elim each [ ]
  labelled_end (ms ∷ rest) (x ∷ xs) [] ss q many each e = elim each [ ]

  pub case_ending : (s : Span) (x : WrittenExpr) (xs : List Labelled) (es : List Ends) (otherwise : Option Run) (n : Option Ends) → EachLabelled xs es → LastEnding otherwise n → Ending (case_case t s x xs otherwise) (all_agree es (or_goes_on n))
  case_ending s x xs es otherwise n each last ss r e =
      let m = there_is s (check t ss x None) _ r e in
      let mss = went (labels_of t ss s m.0.kind xs) _ r m.2 in
      let cs = went (all_labelled mss.0 xs ss) _ r mss.2 in
      let o = went (last_arm otherwise cs.0.0) _ r cs.2 in
      let h = labelled_end mss.0 xs es ss cs.0 (labels_many ss s m.0.kind xs mss.0 mss.1) each cs.1 in
      ended (all_agree es (or_goes_on n)) (o.0.0, Case m.0.expr cs.0.1 o.0.1) r (cases_end m.0.expr cs.0.1 o.0.1 ∙ ap₂ all_agree h (last_ends otherwise n cs.0.0 o.0 last o.1)) o.2
