-- When a statement of a rule, a method or a function keeps its rules (Bluespec reference guide,
-- "Statements").
use Rattle.std.specs.Prelude.{ℕ, nat_le, Bool, true, false, ◌&&◌, List, [], ◌∷◌, ◌++◌, map, Option, Some, None, if◌then◌else◌}
use Rattle.bsv_ast.specs.Names.{is_lower}
use Rattle.bsv_types.specs.declared.expressions.Expr.{Expr}
use Rattle.bsv_types.specs.declared.expressions.Place.{Place}
use Rattle.bsv_types.specs.declared.statements.Stmt.{Stmt, fold-Stmt}
use Rattle.bsv_types.specs.declared.statements.Stmt.TheOpen.{Stmt-F, Branch-F, CaseArm-F}
use Rattle.bsv_types.specs.declared.statements.Condition.{Condition}
use Rattle.bsv_types.specs.declared.statements.Condition.TheVariants as condition
use Rattle.bsv_types.specs.declared.statements.Head.{Head}
use Rattle.bsv_types.specs.declared.definitions.Body.{Body}
use Rattle.bsv_types.specs.declared.definitions.Body.TheVariants as body
use Rattle.bsv_types.specs.Kinds.{Kind, bool, maybe, integer, kind, same_kind}
use Rattle.bsv_types.specs.Shapes.{is_value}
use Rattle.bsv_types.specs.Operators.{◌>>=◌}
use Rattle.bsv_types.specs.Methods.{Signature, Effect, value, action, action_value}
use Rattle.bsv_types.specs.Expressions.{Frame, one, World, one_at, typing, place_typing, has_type, have_types, method_at}

-- what the body is that a statement is in
pub record Task : Type 0 where
  -- action calls and binds may be in it
  pub acts : Bool
  -- what its `return` gives, where it has one
  pub result : Option Kind
  -- the level of its first variable
  pub base : ℕ

-- the variables in scope after a statement, where it is in order
abbrev pub Run : Type 0
Run = Frame → Option Frame

-- the scope, where the test is passed
abbrev pub if_right : Bool → Frame → Option Frame
if_right true frame = Some frame
if_right false frame = None

-- one statement after the other
abbrev pub run : List Run → Run
run [] frame = Some frame
run (x ∷ xs) frame = x frame >>= λ next. run xs next

-- a part is in order; its variables are out of scope after it
abbrev pub inner : Run → Frame → Bool
inner x frame = goes (x frame) where
  goes : Option Frame → Bool
  goes None = false
  goes (Some next) = true

abbrev pub all_inner : List Run → Frame → Bool
all_inner [] frame = true
all_inner (x ∷ xs) frame = inner x frame && all_inner xs frame

abbrev pub inner_too : Option Run → Frame → Bool
inner_too None frame = true
inner_too (Some x) frame = inner x frame

-- a variable of this body, and a value of its type
abbrev pub assigns : World → ℕ → Frame → ℕ → Expr → Bool
assigns w base frame level e = nat_le base level && to (one_at frame level) where
  to : Option Kind → Bool
  to None = false
  to (Some k) = is_value w.shapes k && has_type w frame e k

abbrev pub is_action : Effect → Bool
is_action (value k) = false
is_action action = true
is_action (action_value k) = true

abbrev pub gives_bound : Effect → Kind → Bool
gives_bound (action_value j) k = same_kind j k
gives_bound _ k = false

-- a method of what is in front, its arguments, and a test of its effect
abbrev pub calls : World → Frame → Place → ℕ → List Expr → (Effect → Bool) → Bool
calls w frame place m xs p = to (method_at w.shapes (place_typing w place frame) m) where
  to : Option Signature → Bool
  to None = false
  to (Some s) = have_types w frame xs s.params && p s.effect

-- the scope of the arm after a condition
abbrev pub in_arm : World → Condition → Run
in_arm w (condition.Test e) frame = if_right (has_type w frame e bool) frame
in_arm w (condition.Matches e) frame = bound (typing w e frame) where
  bound : Option Kind → Option Frame
  bound (Some (maybe k)) = Some (frame ++ one k ∷ [])
  bound _ = None

-- the scope of what a loop carries out
abbrev pub in_loop : World → ℕ → Head → Run
in_loop w base h frame =
    if is_lower h.variable && has_type w frame h.first integer && has_type w (frame ++ one integer ∷ []) h.condition bool && assigns w base (frame ++ one integer ∷ []) h.stepped h.step
    then Some (frame ++ one integer ∷ []) else None

-- an arm of a `case`: its labels have the subject's type
pub record Arm : Type 0 where
  pub labels : List Expr
  pub arm : Run

abbrev pub all_labels : World → Frame → Kind → List Expr → Bool
all_labels w frame k [] = true
all_labels w frame k (x ∷ xs) = has_type w frame x k && all_labels w frame k xs

abbrev pub arms_right : World → Frame → Kind → List Arm → Bool
arms_right w frame k [] = true
arms_right w frame k (a ∷ others) = all_labels w frame k a.labels && inner a.arm frame && arms_right w frame k others

abbrev pub case_right : World → Frame → Option Kind → List Arm → Option Run → Bool
case_right w frame None arms otherwise = false
case_right w frame (Some k) arms otherwise = arms_right w frame k arms && inner_too otherwise frame

abbrev pub returns_kind : World → Task → Frame → Expr → Bool
returns_kind w t frame e = to t.result where
  to : Option Kind → Bool
  to None = false
  to (Some k) = has_type w frame e k

abbrev pub stmt_step : World → Task → Stmt-F Run Run Arm → Run
stmt_step w t (Stmt-F.Declare ty e) frame = if_right (is_value w.shapes (kind ty) && has_type w frame e (kind ty)) (frame ++ one (kind ty) ∷ [])
stmt_step w t (Stmt-F.Assign level e) frame = if_right (assigns w t.base frame level e) frame
stmt_step w t (Stmt-F.Act place m xs) frame = if_right (t.acts && calls w frame place m xs is_action) frame
stmt_step w t (Stmt-F.Bind ty place m xs) frame = if_right (t.acts && calls w frame place m xs (λ e. gives_bound e (kind ty))) (frame ++ one (kind ty) ∷ [])
stmt_step w t (Stmt-F.Return e) frame = if_right (returns_kind w t frame e) frame
stmt_step w t Stmt-F.NoAction frame = Some frame
stmt_step w t (Stmt-F.Block xs) frame = if_right (inner (run xs) frame) frame
stmt_step w t (Stmt-F.If bs otherwise) frame = if_right (all_inner bs frame && inner_too otherwise frame) frame
stmt_step w t (Stmt-F.For head x) frame = if_right (inner (λ f. in_loop w t.base head f >>= x) frame) frame
stmt_step w t (Stmt-F.Case e arms otherwise) frame = if_right (case_right w frame (typing w e frame) arms otherwise) frame

abbrev pub branch_step : World → Branch-F Run Run Arm → Run
branch_step w b frame = in_arm w b.condition frame >>= b.arm

abbrev pub case_step : CaseArm-F Run Run Arm → Arm
case_step a = record { labels = a.labels; arm = a.arm }

abbrev pub stmt_run : World → Task → Stmt → Run
stmt_run w t = fold-Stmt Run Run Arm (stmt_step w t) (branch_step w) case_step

-- How a path through a statement ends: it goes on after it, or it has returned. None where paths differ, or
-- something comes after a `return`.
pub data Ending : Type 0 where
  goes_on : Ending
  returned : Ending

abbrev pub Ends : Type 0
Ends = Option Ending

abbrev pub agree : Ends → Ends → Ends
agree (Some goes_on) (Some goes_on) = Some goes_on
agree (Some returned) (Some returned) = Some returned
agree _ _ = None

-- one after the other
abbrev pub behind : Ends → Ends → Ends
behind (Some goes_on) e = e
behind _ e = None

abbrev pub sequence : List Ends → Ends
sequence [] = Some goes_on
sequence (e ∷ []) = e
sequence (e ∷ es) = behind e (sequence es)

-- the last arm, which is empty where it is left out
abbrev pub or_goes_on : Option Ends → Ends
or_goes_on None = Some goes_on
or_goes_on (Some e) = e

abbrev pub all_agree : List Ends → Ends → Ends
all_agree [] e = e
all_agree (x ∷ xs) e = agree x (all_agree xs e)

abbrev pub ends_step : Stmt-F Ends Ends Ends → Ends
ends_step (Stmt-F.Return e) = Some returned
ends_step (Stmt-F.Block xs) = sequence xs
ends_step (Stmt-F.If bs otherwise) = all_agree bs (or_goes_on otherwise)
ends_step (Stmt-F.For head x) = agree x (Some goes_on)
ends_step (Stmt-F.Case e arms otherwise) = all_agree arms (or_goes_on otherwise)
ends_step _ = Some goes_on

abbrev pub stmt_ends : Stmt → Ends
stmt_ends = fold-Stmt Ends Ends Ends ends_step (λ b. b.arm) (λ a. a.arm)

-- it returns in each path, once and last
abbrev pub returns : List Stmt → Bool
returns ss = last (sequence (map stmt_ends ss)) where
  last : Ends → Bool
  last (Some returned) = true
  last _ = false

-- it returns nowhere
abbrev pub never_returns : List Stmt → Bool
never_returns ss = last (sequence (map stmt_ends ss)) where
  last : Ends → Bool
  last (Some goes_on) = true
  last _ = false

abbrev pub stmts_right : World → Task → Frame → List Stmt → Bool
stmts_right w t frame ss = inner (run (map (stmt_run w t) ss)) frame

-- a body that gives a value of this type
abbrev pub gives_body : World → Bool → ℕ → Frame → Kind → Body → Bool
gives_body w acts base frame k (body.Statements ss) = stmts_right w (record { acts = acts; result = Some k; base = base }) frame ss && returns ss
gives_body w acts base frame k (body.Value e) = has_type w frame e k

-- a body that only acts
abbrev pub acts_right : World → ℕ → Frame → List Stmt → Bool
acts_right w base frame ss = stmts_right w (record { acts = true; result = None; base = base }) frame ss && never_returns ss

abbrev pub acts_body : World → ℕ → Frame → Body → Bool
acts_body w base frame (body.Statements ss) = acts_right w base frame ss
acts_body w base frame (body.Value e) = false

-- a body with this effect
abbrev pub body_right : World → ℕ → Frame → Effect → Body → Bool
body_right w base frame (value k) b = gives_body w false base frame k b
body_right w base frame action b = acts_body w base frame b
body_right w base frame (action_value k) b = gives_body w true base frame k b
