-- What the typing of statements gives is in order, where what it stands on is so.
use Rattle.std.specs.Prelude.{◌≡◌, ℕ, ◌+◌, List, [], ◌∷◌, ◌++◌, map, Ok, IsTrue}
use Rattle.bsv_ast.specs.declared.statements.Stmt.{Stmt as Written}
use Rattle.bsv_scopes.specs.Scopes.{Entries, in_scope}
use Rattle.bsv_types.specs.declared.statements.Stmt.{Stmt}
use Rattle.bsv_types.specs.Shapes.{Shapes}
use Rattle.bsv_types.specs.Expressions.{Slot, Frame, World}
use Rattle.bsv_types.specs.Statements as typed
use Rattle.bsv_statements.specs.Bodies.{Or, Scopes, Task, all_runs, stmt_run}
use Rattle.bsv_statements.specs.Returns.{returns}
use Rattle.bsv_typing.specs.Laws.{SlotsRight, FitsWorld}

-- the variables of scopes, by level
abbrev pub slots_of : Entries (ℕ × Slot) → Frame
slots_of es = map (λ e. e.1.1) es

abbrev pub frame_of : Scopes → Frame
frame_of [] = []
frame_of (es ∷ outer) = frame_of outer ++ slots_of es

-- the level of each is its place
abbrev pub PlacedFrom : ℕ → Entries (ℕ × Slot) → Type 0
PlacedFrom n [] = Unit {0}
PlacedFrom n (e ∷ es) = (e.1.0 ≡ n) × PlacedFrom (n + 1) es

abbrev pub Placed : Scopes → Type 0
Placed [] = Unit {0}
Placed (es ∷ outer) = PlacedFrom (in_scope outer) es × Placed outer

pub record ScopesFit (s : Shapes) (ss : Scopes) : Type 0 where
  pub placed : Placed ss
  pub slots : SlotsRight s (frame_of ss)

-- the same task, as the typed tree has it
abbrev pub typed_task : Task → typed.Task
typed_task t = record { acts = t.acts; result = t.result; base = t.base }

-- statements are typed so, in these scopes
abbrev pub AreTyped : Task → List Written → Scopes → Scopes × List Stmt → Type 0
AreTyped t xs ss r = ◌≡◌ {A = Or (Scopes × List Stmt)} (all_runs (map (stmt_run t) xs) ss) (Ok r)

-- what statements are typed as is in order
abbrev pub BodyRight : Task → World → Type 0
BodyRight t w = (xs : List Written) (ss : Scopes) (r : Scopes × List Stmt) → ScopesFit w.shapes ss → AreTyped t xs ss r → IsTrue (typed.stmts_right w (typed_task t) (frame_of ss) r.1)

-- it returns in each path, once and last, where they do
abbrev pub ReturnsAlike : Task → Type 0
ReturnsAlike t = (xs : List Written) (ss : Scopes) (r : Scopes × List Stmt) → AreTyped t xs ss r → typed.returns r.1 ≡ returns xs

abbrev pub NeverReturns : Task → Type 0
NeverReturns t = (xs : List Written) (ss : Scopes) (r : Scopes × List Stmt) → AreTyped t xs ss r → IsTrue (typed.never_returns r.1)
