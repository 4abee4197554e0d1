-- Rules are in order, and so are methods.
use Rattle.std.proofs.Common.{◌≡◌, ◌∙◌, ℕ, true, ◌&&◌, List, [], ◌∷◌, map, length, Option, Some, None, Ok, refl, sym, subst}
use Rattle.std.specs.List.{list_all}
use Rattle.std.proofs.lemmas.Bool.{and_from as both_true}
use Rattle.bsv_ast.specs.Names.{is_lower}
use Rattle.bsv_ast.specs.declared.text.Span.{Span}
use Rattle.bsv_ast.specs.declared.expressions.Expr.{Expr as Written}
use Rattle.bsv_ast.specs.declared.statements.Stmt.{Stmt as InnerStmt}
use Rattle.bsv_ast.specs.declared.modules.Body.{Body as WrittenBody}
use Rattle.bsv_ast.specs.declared.modules.Body.TheVariants as wbody
use Rattle.bsv_ast.specs.declared.modules.Rule.{Rule as WrittenRule}
use Rattle.bsv_scopes.specs.Scopes.{opened, closed, in_scope}
use Rattle.bsv_types.specs.declared.asked.Owner.TheVariants as owner
use Rattle.bsv_types.specs.declared.attributes.Attribute.{Attribute}
use Rattle.bsv_types.specs.declared.definitions.Body.TheVariants as body
use Rattle.bsv_types.specs.declared.expressions.Expr.{Expr}
use Rattle.bsv_types.specs.declared.modules.Rule.{Rule}
use Rattle.bsv_types.specs.declared.statements.Stmt.{Stmt}
use Rattle.bsv_types.specs.Kinds.{Kind, bool}
use Rattle.bsv_types.specs.Methods.{Effect, value, action, action_value}
use Rattle.bsv_types.specs.Expressions.{World, Frame}
use Rattle.bsv_types.specs.Names.{of_rule}
use Rattle.bsv_types.specs.Statements as typed
use Rattle.bsv_types.specs.Modules as rules
use Rattle.bsv_types.specs.Modules.{param_slots}
use Rattle.bsv_statements.specs.Returns.{returns}
use Rattle.bsv_statements.specs.Bodies.{Scopes, Task, of_kind, stmt_run}
use Rattle.bsv_typing.specs.Laws.{FitsWorld}
use Rattle.bsv_statements.specs.Laws.{frame_of, typed_task, ScopesFit}
use Rattle.bsv_statements.proofs.RightScopes.{frame_opened, opened_fit, frame_length}
use Rattle.bsv_statements.proofs.RightCalls.{ok_is, went, passed, has_true, kind_right}
use Rattle.bsv_statements.proofs.RightBlocks.{inner_true, EachRun, AllRan, all_ran}
use Rattle.bsv_statements.proofs.RightStatements.{typed_run}
use Rattle.bsv_statements.proofs.RightBodies.{stmt_good}
use Rattle.bsv_statements.proofs.RightReturns.{returns_same, never_same}
use Rattle.bsv_modules.specs.Modules.{ModuleContext, task, stmts_in, InBody, value_body, action_body, task_of, body_of, guard, asked, rule_made, rule_body}
use Rattle.bsv_modules.proofs.RightAttributes.{asked_right}

-- ---- statements of rules and of methods

module _ (t : Task) (w : World) (fits : FitsWorld t.env w) where
  all_good : (xs : List InnerStmt) → EachRun t w (map (stmt_run t) xs)
  all_good [] = tt
  all_good (x ∷ xs) = (stmt_good t w fits x, all_good xs)

  stmts_ran : (xs : List InnerStmt) (ss : Scopes) (q : Scopes × List Stmt) → ScopesFit w.shapes ss → stmts_in t ss xs ≡ Ok q → AllRan t w ss q
  stmts_ran xs ss q fit e = all_ran t w (map (stmt_run t) xs) ss q (all_good xs) fit e

  stmts_right : (xs : List InnerStmt) (ss : Scopes) (q : Scopes × List Stmt) → AllRan t w ss q → typed.stmts_right w (typed_task t) (frame_of ss) q.1 ≡ true
  stmts_right xs ss q h = inner_true (typed.run (map (typed_run t w) q.1)) (frame_of ss) (frame_of q.0) h.typed

  -- a body that gives a value, in these scopes
  pub value_right : (s : Span) (ss : Scopes) (k : Kind) (b : WrittenBody) (r : InBody) → t.result ≡ Some k → ScopesFit w.shapes ss → value_body t s ss k b ≡ Ok r →
      (typed.gives_body w t.acts t.base (frame_of ss) k r.1 ≡ true) × (closed r.0 ≡ closed ss)
  value_right s ss k (wbody.Statements p xs) r result fit e =
      let once = passed s (returns xs) true _ r e in
      let q = went (stmts_in t ss xs) _ r once.1 in
      let h = stmts_ran xs ss q.0 fit q.1 in
      let goal_is = λ (z : Option Kind). typed.stmts_right w (record { acts = t.acts; result = z; base = t.base }) (frame_of ss) q.0.1 ≡ true in
      let right = subst goal_is result (stmts_right xs ss q.0 h) in
      let ends = returns_same t xs ss q.0 q.1 ∙ once.0 in
      subst (λ (i : InBody). (typed.gives_body w t.acts t.base (frame_of ss) k i.1 ≡ true) × (closed i.0 ≡ closed ss)) (ok_is (q.0.0, body.Statements q.0.1) r q.2)
      (both_true (typed.stmts_right w (record { acts = t.acts; result = Some k; base = t.base }) (frame_of ss) q.0.1) (typed.returns q.0.1) right ends, h.outer)
  value_right s ss k (wbody.Value p x) r result fit e =
      let m = went (of_kind t ss s x k) _ r e in
      subst (λ (i : InBody). (typed.gives_body w t.acts t.base (frame_of ss) k i.1 ≡ true) × (closed i.0 ≡ closed ss)) (ok_is (ss, body.Value m.0) r m.2)
      (has_true w (frame_of ss) m.0 k (kind_right t w fits ss fit s x k m.0 m.1), refl)

module _ (site : ModuleContext) (w : World) (fits : FitsWorld site.env w) where
  abbrev acts_task : ℕ → Task
  acts_task base = task_of site.env site.types action base

  acts_is : (xs : List InnerStmt) (base : ℕ) (ss : Scopes) (q : Scopes × List Stmt) → ScopesFit w.shapes ss → stmts_in (acts_task base) ss xs ≡ Ok q → (typed.acts_right w base (frame_of ss) q.1 ≡ true) × (closed q.0 ≡ closed ss)
  acts_is xs base ss q fit e =
      let h = stmts_ran (acts_task base) w fits xs ss q fit e in
      let right = stmts_right (acts_task base) w fits xs ss q h in
      let never = never_same (acts_task base) refl xs ss q e in
      (both_true (typed.stmts_right w (typed_task (acts_task base)) (frame_of ss) q.1) (typed.never_returns q.1) right never, h.outer)

  action_right : (s : Span) (base : ℕ) (ss : Scopes) (b : WrittenBody) (r : InBody) → ScopesFit w.shapes ss → action_body (acts_task base) s ss b ≡ Ok r →
      (typed.acts_body w base (frame_of ss) r.1 ≡ true) × (closed r.0 ≡ closed ss)
  action_right s base ss (wbody.Statements p xs) r fit e =
      let q = went (stmts_in (acts_task base) ss xs) _ r e in
      subst (λ (i : InBody). (typed.acts_body w base (frame_of ss) i.1 ≡ true) × (closed i.0 ≡ closed ss)) (ok_is (q.0.0, body.Statements q.0.1) r q.2) (acts_is xs base ss q.0 fit q.1)
  action_right s base ss (wbody.Value p x) r fit e = absurd cc

  -- a body with this effect, whose variables begin at this level
  pub body_right : (s : Span) (base : ℕ) (ss : Scopes) (f : Effect) (b : WrittenBody) (r : InBody) → ScopesFit w.shapes ss → body_of site.env site.types s base ss f b ≡ Ok r →
      (typed.body_right w base (frame_of ss) f r.1 ≡ true) × (closed r.0 ≡ closed ss)
  body_right s base ss (value k) b r fit e = value_right (task_of site.env site.types (value k) base) w fits s ss k b r refl fit e
  body_right s base ss action b r fit e = action_right s base ss b r fit e
  body_right s base ss (action_value k) b r fit e = value_right (task_of site.env site.types (action_value k) base) w fits s ss k b r refl fit e

  -- ---- conditions and rules

  pub guard_right : (s : Span) (ss : Scopes) (o : Option Written) (x : Option Expr) → ScopesFit w.shapes ss → guard (task site) s ss o ≡ Ok x → rules.condition_right w (frame_of ss) x ≡ true
  guard_right s ss None x fit e = subst (λ y. rules.condition_right w (frame_of ss) y ≡ true) (ok_is None x e) refl
  guard_right s ss (Some c) x fit e =
      let m = went (of_kind (task site) ss s c bool) _ x e in
      subst (λ y. rules.condition_right w (frame_of ss) y ≡ true) (ok_is (Some m.0) x m.2) (has_true w (frame_of ss) m.0 bool (kind_right (task site) w fits ss fit s c bool m.0 m.1))

  rule_acts : (xs : List InnerStmt) (ss : Scopes) (b : Scopes × List Stmt) → ScopesFit w.shapes ss → rule_body site xs ss ≡ Ok b → (typed.acts_right w (length (frame_of ss)) (frame_of ss) b.1 ≡ true) × (b.0 ≡ ss)
  rule_acts xs ss b fit e =
      let q = went (stmts_in (acts_task (in_scope ss)) (opened ss) xs) _ b e in
      let h = acts_is xs (in_scope ss) (opened ss) q.0 (opened_fit w.shapes ss fit) q.1 in
      let framed = subst (λ f. typed.acts_right w (in_scope ss) f q.0.1 ≡ true) (frame_opened ss) h.0 in
      let right = subst (λ n. typed.acts_right w n (frame_of ss) q.0.1 ≡ true) (sym (frame_length ss)) framed in
      subst (λ (c : Scopes × List Stmt). (typed.acts_right w (length (frame_of ss)) (frame_of ss) c.1 ≡ true) × (c.0 ≡ ss)) (ok_is (closed q.0.0, q.0.1) b q.2) (right, h.1)

  -- a rule that is made of parts in order
  pub rule_is : (frame : Frame) (r : WrittenRule) (attributes : List Attribute) (test : Option Expr) (xs : List Stmt) → is_lower r.name.name ≡ true → list_all of_rule attributes ≡ true → rules.condition_right w frame test ≡ true →
      typed.acts_right w (length frame) frame xs ≡ true → rules.rule_right w frame (Some (rule_made r attributes test xs)) ≡ true
  rule_is frame r attributes test xs lower owned asks acts =
      both_true (is_lower r.name.name && list_all of_rule attributes && rules.condition_right w frame test) (typed.acts_right w (length frame) frame xs)
      (both_true (is_lower r.name.name && list_all of_rule attributes) (rules.condition_right w frame test) (both_true (is_lower r.name.name) (list_all of_rule attributes) lower owned) asks) acts

  pub record RuleRan (ss : Scopes) (b : Scopes × Rule) : Type 0 where
    pub right : rules.rule_right w (frame_of ss) (Some b.1) ≡ true
    pub same : b.0 ≡ ss

  pub rule_ran : (s : Span) (r : WrittenRule) (ss : Scopes) (attributes : List Attribute) (test : Option Expr) (b : Scopes × List Stmt) → ScopesFit w.shapes ss → asked s owner.Rule r.attributes ≡ Ok attributes →
      is_lower r.name.name ≡ true → guard (task site) s ss r.condition ≡ Ok test → rule_body site r.body ss ≡ Ok b → RuleRan ss (b.0, rule_made r attributes test b.1)
  rule_ran s r ss attributes test b fit asked_is lower guarded body_is =
      let h = rule_acts r.body ss b fit body_is in
      record { right = rule_is (frame_of ss) r attributes test b.1 lower (asked_right s owner.Rule r.attributes attributes asked_is) (guard_right s ss r.condition test fit guarded) h.0; same = h.1 }
