-- Statements without statements in them are in order.
use Rattle.std.proofs.Common.{◌≡◌, ◌∙◌, ℕ, Bool, true, false, ◌&&◌, List, [], ◌∷◌, ◌++◌, Some, Ok, refl, sym, ap, subst}
use Rattle.std.specs.Prelude.{codes}
use Rattle.std.proofs.lemmas.Bool.{and_parts, and_from, or_left}
use Rattle.std.proofs.lemmas.Option.{same_Some}
use Rattle.bsv_ast.specs.declared.text.Span.{Span}
use Rattle.bsv_ast.specs.declared.expressions.Expr.{Expr as Written}
use Rattle.bsv_ast.specs.declared.statements.Place.{Place as WrittenPlace}
use Rattle.bsv_ast.specs.declared.statements.Call.{Call}
use Rattle.bsv_ast.specs.declared.statements.DeclaredType.{DeclaredType}
use Rattle.bsv_ast.specs.declared.statements.Declaration.{Declaration}
use Rattle.bsv_scopes.specs.Scopes.{closed}
use Rattle.bsv_types.specs.declared.expressions.Expr.{Expr}
use Rattle.bsv_types.specs.declared.expressions.Place.{Place}
use Rattle.bsv_types.specs.declared.statements.Stmt.{Stmt, Declare, Assign, Act, Bind, Return, NoAction, fold-roll-Stmt}
use Rattle.bsv_types.specs.declared.statements.Stmt.TheOpen.{Stmt-F}
use Rattle.bsv_types.specs.declared.statements.Stmt.TheViews.{rolls-Declare, rolls-Assign, rolls-Act, rolls-Bind, rolls-Return, rolls-NoAction}
use Rattle.bsv_types.specs.Kinds.{Kind, type_of}
use Rattle.bsv_types.specs.Shapes.{Shapes, is_value, is_instance}
use Rattle.bsv_types.specs.Methods.{Effect, value, action, action_value}
use Rattle.bsv_types.specs.Expressions.{one, World, Frame, typing, has_type}
use Rattle.bsv_types.specs.Statements as rules
use Rattle.bsv_types.proofs.Same.{same_self}
use Rattle.bsv_typing.specs.Places.{place_of}
use Rattle.bsv_statements.specs.Bodies.{Or, Scopes, Task, Run, with_variable, check, of_kind, instance_at, called, call_at, acted, is_action, is_written, given_by, is_wanted, declared_kind, assignable, write_case, act_case, bind_case, declare_case, assign_case, return_case}
use Rattle.bsv_typing.specs.Laws.{slot_right, FitsWorld}
use Rattle.bsv_statements.specs.Laws.{ScopesFit, frame_of, typed_task}
use Rattle.bsv_typing.proofs.Typings.{kind_back, value_typed}
use Rattle.bsv_typing.proofs.RightPlaces.{method_is}
use Rattle.bsv_statements.proofs.RightScopes.{Defined, defined_right}
use Rattle.bsv_statements.proofs.RightCalls.{ok_is, went, there_is, passed, bound_value, write_acts, has_true, assigns_true, check_right, kind_right, instance_right, called_right, call_right, calls_true, assignable_right}

pub if_right_true : (b : Bool) (frame : Frame) → b ≡ true → rules.if_right b frame ≡ Some frame
if_right_true true frame e = refl
if_right_true false frame e = absurd cc

-- a variable with a type of values
pub value_slot_right : (s : Shapes) (k : Kind) → is_value s k ≡ true → slot_right s (one k) ≡ true
value_slot_right s k e = or_left (is_value s k) (is_instance s k) e

given_is : (e : Effect) (k : Kind) → given_by e ≡ Some k → e ≡ action_value k
given_is (action_value j) k is = ap action_value (same_Some j k is)
given_is action k is = absurd cc
given_is (value j) k is = absurd cc

same_action : (e : Effect) → is_action e ≡ true → rules.is_action e ≡ true
same_action (value k) e = absurd cc
same_action action e = refl
same_action (action_value k) e = refl

module _ (t : Task) (w : World) where
  abbrev pub typed_run : Stmt → rules.Run
  typed_run = rules.stmt_run w (typed_task t)

  -- what a statement is typed as is in order in the frame of the scopes before it, and gives that of the scopes
  -- after it
  pub record Ran (ss : Scopes) (r : Scopes × Stmt) : Type 0 where
    pub typed : typed_run r.1 (frame_of ss) ≡ Some (frame_of r.0)
    pub fit : ScopesFit w.shapes r.0
    pub outer : closed r.0 ≡ closed ss

  abbrev pub GoodRun : Run → Type 0
  GoodRun x = (ss : Scopes) (r : Scopes × Stmt) → ScopesFit w.shapes ss → x ss ≡ Ok r → Ran ss r

  -- a statement after which the scopes are what they were
  pub ended : (ss back : Scopes) (x : Stmt) (r : Scopes × Stmt) → ScopesFit w.shapes ss → back ≡ ss → typed_run x (frame_of ss) ≡ Some (frame_of ss) → ◌≡◌ {A = Or (Scopes × Stmt)} (Ok (back, x)) (Ok r) → Ran ss r
  ended ss back x r fit is h e =
      let same = ap (λ b. (b, x)) (sym is) ∙ ok_is (back, x) r e in
      subst (Ran ss) same (record { typed = h; fit = fit; outer = refl })

  -- a statement that defines a variable
  defines : (ss next : Scopes) (k : Kind) (x : Stmt) (r : Scopes × Stmt) → Defined w.shapes (one k) ss next → typed_run x (frame_of ss) ≡ Some (frame_of ss ++ one k ∷ []) → ◌≡◌ {A = Or (Scopes × Stmt)} (Ok (next, x)) (Ok r) → Ran ss r
  defines ss next k x r d h e = subst (Ran ss) (ok_is (next, x) r e) (record { typed = h ∙ ap Some (sym d.frame); fit = d.fit; outer = d.outer })

  -- ---- the typed statements

  act_typed : (frame : Frame) (place : Place) (m : ℕ) (xs : List Expr) → t.acts ≡ true → rules.calls w frame place m xs rules.is_action ≡ true → typed_run (Act place m xs) frame ≡ Some frame
  act_typed frame place m xs acts right =
      ap (λ x. typed_run x frame) (sym (rolls-Act place m xs)) ∙
      ap (λ f. f frame) (fold-roll-Stmt rules.Run rules.Run rules.Arm (rules.stmt_step w (typed_task t)) (rules.branch_step w) rules.case_step (Stmt-F.Act place m xs)) ∙
      if_right_true (t.acts && rules.calls w frame place m xs rules.is_action) frame (and_from t.acts (rules.calls w frame place m xs rules.is_action) acts right)

  bind_typed : (frame : Frame) (k : Kind) (place : Place) (m : ℕ) (xs : List Expr) → t.acts ≡ true → rules.calls w frame place m xs (λ e. rules.gives_bound e k) ≡ true → typed_run (Bind (type_of k) place m xs) frame ≡ Some (frame ++ one k ∷ [])
  bind_typed frame k place m xs acts right =
      ap (λ x. typed_run x frame) (sym (rolls-Bind (type_of k) place m xs)) ∙
      ap (λ f. f frame) (fold-roll-Stmt rules.Run rules.Run rules.Arm (rules.stmt_step w (typed_task t)) (rules.branch_step w) rules.case_step (Stmt-F.Bind (type_of k) place m xs)) ∙
      ap (λ j. rules.if_right (t.acts && rules.calls w frame place m xs (λ e. rules.gives_bound e j)) (frame ++ one j ∷ [])) (kind_back k) ∙
      if_right_true (t.acts && rules.calls w frame place m xs (λ e. rules.gives_bound e k)) (frame ++ one k ∷ []) (and_from t.acts (rules.calls w frame place m xs (λ e. rules.gives_bound e k)) acts right)

  declare_typed : (frame : Frame) (k : Kind) (x : Expr) → typing w x frame ≡ Some k → typed_run (Declare (type_of k) x) frame ≡ Some (frame ++ one k ∷ [])
  declare_typed frame k x h =
      ap (λ y. typed_run y frame) (sym (rolls-Declare (type_of k) x)) ∙
      ap (λ f. f frame) (fold-roll-Stmt rules.Run rules.Run rules.Arm (rules.stmt_step w (typed_task t)) (rules.branch_step w) rules.case_step (Stmt-F.Declare (type_of k) x)) ∙
      ap (λ j. rules.if_right (is_value w.shapes j && has_type w frame x j) (frame ++ one j ∷ [])) (kind_back k) ∙
      if_right_true (is_value w.shapes k && has_type w frame x k) (frame ++ one k ∷ []) (and_from (is_value w.shapes k) (has_type w frame x k) (value_typed w frame x k h) (has_true w frame x k h))

  assign_typed : (frame : Frame) (level : ℕ) (x : Expr) → rules.assigns w t.base frame level x ≡ true → typed_run (Assign level x) frame ≡ Some frame
  assign_typed frame level x right =
      ap (λ y. typed_run y frame) (sym (rolls-Assign level x)) ∙
      ap (λ f. f frame) (fold-roll-Stmt rules.Run rules.Run rules.Arm (rules.stmt_step w (typed_task t)) (rules.branch_step w) rules.case_step (Stmt-F.Assign level x)) ∙
      if_right_true (rules.assigns w t.base frame level x) frame right

  returns_true : (frame : Frame) (k : Kind) (x : Expr) → t.result ≡ Some k → typing w x frame ≡ Some k → rules.returns_kind w (typed_task t) frame x ≡ true
  returns_true frame k x result h = rw result (has_true w frame x k h)

  return_typed : (frame : Frame) (k : Kind) (x : Expr) → t.result ≡ Some k → typing w x frame ≡ Some k → typed_run (Return x) frame ≡ Some frame
  return_typed frame k x result h =
      ap (λ y. typed_run y frame) (sym (rolls-Return x)) ∙
      ap (λ f. f frame) (fold-roll-Stmt rules.Run rules.Run rules.Arm (rules.stmt_step w (typed_task t)) (rules.branch_step w) rules.case_step (Stmt-F.Return x)) ∙
      if_right_true (rules.returns_kind w (typed_task t) frame x) frame (returns_true frame k x result h)

  none_typed : (frame : Frame) → typed_run NoAction frame ≡ Some frame
  none_typed frame =
      ap (λ y. typed_run y frame) (sym rolls-NoAction) ∙
      ap (λ f. f frame) (fold-roll-Stmt rules.Run rules.Run rules.Arm (rules.stmt_step w (typed_task t)) (rules.branch_step w) rules.case_step Stmt-F.NoAction)

  -- ---- the forms

  module _ (fits : FitsWorld t.env w) where
    pub write_good : (s : Span) (p : WrittenPlace) (e : Written) → GoodRun (write_case t s p e)
    write_good s p e ss r fit is =
        let i = went (instance_at t ss s p) _ r is in
        let a = passed s (t.acts && is_written i.0.kind) i.0 _ r i.2 in
        let c = went (called t ss s i.0 (codes "_write") (e ∷ [])) _ r a.1 in
        let h = called_right t w fits ss fit s i.0 (codes "_write") (e ∷ []) c.0 (instance_right t w fits ss fit s p i.0 i.1) c.1 in
        let b = and_parts t.acts (is_written i.0.kind) a.0 in
        let written = subst (λ j. is_written j.kind ≡ true) h.1 b.1 in
        let acts = sym h.0.effect_is ∙ write_acts w c.0.0.kind h.0.method written h.0.named in
        ended ss ss (acted c.0) r fit refl
        (act_typed (frame_of ss) (place_of c.0.0) c.0.1 c.0.3 b.0 (calls_true t w fits ss fit (codes "_write") c.0 rules.is_action h.0 (subst (λ x. rules.is_action x ≡ true) (sym acts) refl))) c.2

    pub act_good : (s : Span) (call : Call) → GoodRun (act_case t s call)
    act_good s call ss r fit is =
        let c = went (call_at t ss s call) _ r is in
        let a = passed s (t.acts && is_action c.0.2) c.0 _ r c.2 in
        let b = and_parts t.acts (is_action c.0.2) a.0 in
        let h = call_right t w fits ss fit s call c.0 c.1 in
        ended ss ss (acted c.0) r fit refl
        (act_typed (frame_of ss) (place_of c.0.0) c.0.1 c.0.3 b.0 (calls_true t w fits ss fit call.method.name c.0 rules.is_action h (same_action c.0.2 b.1))) a.1

    pub bind_good : (s : Span) (d : DeclaredType) (name : List ℕ) (call : Call) → GoodRun (bind_case t s d name call)
    bind_good s d name call ss r fit is =
        let want = went (declared_kind t s d) _ r is in
        let c = went (call_at t ss s call) _ r want.2 in
        let g = there_is s (given_by c.0.2) _ r c.2 in
        let k = g.0 in
        let a = passed s (t.acts && is_wanted want.0 k) k _ r g.2 in
        let next = there_is s (with_variable name (one k) ss) _ r a.1 in
        let h = call_right t w fits ss fit s call c.0 c.1 in
        let effect_is = given_is c.0.2 k g.1 in
        let value = bound_value w.shapes c.0.0.kind h.method.0 h.method.1 k fits.right (method_is w c.0.0.kind call.method.name h.method h.named) (h.effect_is ∙ effect_is) in
        let bound = subst (λ e. rules.gives_bound e k ≡ true) (sym effect_is) (same_self k) in
        defines ss next.0 k (Bind (type_of k) (place_of c.0.0) c.0.1 c.0.3) r (defined_right w.shapes name (one k) ss next.0 fit (value_slot_right w.shapes k value) next.1)
        (bind_typed (frame_of ss) k (place_of c.0.0) c.0.1 c.0.3 (and_parts t.acts (is_wanted want.0 k) a.0).0 (calls_true t w fits ss fit call.method.name c.0 (λ e. rules.gives_bound e k) h bound)) next.2

    pub declare_good : (s : Span) (d : Declaration) → GoodRun (declare_case t s d)
    declare_good s d ss r fit is =
        let want = went (declared_kind t s d.declared) _ r is in
        let m = there_is s (check t ss d.value want.0) _ r want.2 in
        let k = m.0.kind in
        let next = there_is s (with_variable d.name.name (one k) ss) _ r m.2 in
        let typed = (check_right t w fits ss fit d.value want.0 m.0 m.1).0 in
        defines ss next.0 k (Declare (type_of k) m.0.expr) r
        (defined_right w.shapes d.name.name (one k) ss next.0 fit (value_slot_right w.shapes k (value_typed w (frame_of ss) m.0.expr k typed)) next.1) (declare_typed (frame_of ss) k m.0.expr typed) next.2

    pub assign_good : (s : Span) (name : List ℕ) (e : Written) → GoodRun (assign_case t s name e)
    assign_good s name e ss r fit is =
        let v = there_is s (assignable t ss name) _ r is in
        let m = went (of_kind t ss s e v.0.1) _ r v.2 in
        let h = assignable_right t w fits ss fit name v.0 v.1 in
        ended ss ss (Assign v.0.0 m.0) r fit refl
        (assign_typed (frame_of ss) v.0.0 m.0 (assigns_true w t.base (frame_of ss) v.0.0 m.0 v.0.1 h.own h.here h.right (kind_right t w fits ss fit s e v.0.1 m.0 m.1))) m.2

    pub return_good : (s : Span) (e : Written) → GoodRun (return_case t s e)
    return_good s e ss r fit is =
        let k = there_is s t.result _ r is in
        let m = went (of_kind t ss s e k.0) _ r k.2 in
        ended ss ss (Return m.0) r fit refl (return_typed (frame_of ss) k.0 m.0 k.1 (kind_right t w fits ss fit s e k.0 m.0 m.1)) m.2

    pub none_good : GoodRun (λ ss. Ok (ss, NoAction))
    none_good ss r fit is = ended ss ss NoAction r fit refl (none_typed (frame_of ss)) is
