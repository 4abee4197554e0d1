-- What the laws of a kind give: calls that fire side by side on one part can run one at a time
-- (Hoe and Arvind 2004, atomic rules). `parallel_is_serial` promises it of every kind.
use Rattle.std.specs.Prelude.{◌≡◌, ℕ, false, List, ◌∷◌, ◌++◌}
use Rattle.std.specs.List.{AllByRecursion}
use Rattle.bsv_prim.specs.Signals.{Signals, word_of}
use Rattle.bsv_prim.specs.Table.{Table, Call, CallFits}
use Rattle.bsv_prim.specs.Calls.{IsReady, IsInOrder, IsOrderly, Tells, after_calls, look, seen_by}
use Rattle.bsv_prim.specs.declared.part.Part.{Part}

-- calls that fire side by side on a fitting part: each may precede each later one, and each is
-- ready on the part after just those of them that its method sees
pub record IsParallel (t : Table) (p : Part) (cs : List Call) : Type 0 where
  pub part : t.Fits p
  pub calls : AllByRecursion (CallFits t) cs
  pub order : IsInOrder t cs
  pub ready : AllByRecursion (λ c. IsReady t (look t c.method p cs) c) cs

-- they can run one at a time in their order: each is ready at its turn
abbrev pub RunInTurn : Table → Type 0
RunInTurn t = (p : Part) (cs : List Call) → IsParallel t p cs → IsOrderly t p cs

-- a value call among them answers at its turn what it answers side by side
abbrev pub AnswerInTurn : Table → Type 0
AnswerInTurn t =
    (p : Part) (before behind : List Call) (c : Call) → IsParallel t p (before ++ c ∷ behind)
    → t.is_action c.method ≡ false
    → t.result c.method (after_calls t p before) c.args
    ≡ t.result c.method (look t c.method p (before ++ c ∷ behind)) c.args

-- in an ordered list a call sees none but earlier ones
abbrev pub SeeEarlier : Table → Type 0
SeeEarlier t =
    (before behind : List Call) (c : Call) → IsInOrder t (before ++ c ∷ behind)
    → seen_by t c.method (before ++ c ∷ behind) ≡ seen_by t c.method before

-- those of them that a method sees can run one at a time too
abbrev pub SeenRunInTurn : Table → Type 0
SeenRunInTurn t =
    (p : Part) (cs : List Call) (m : ℕ) → IsParallel t p cs → IsOrderly t p (seen_by t m cs)

-- one step of the registers does what they do one at a time
abbrev pub StepInTurn : Table → Type 0
StepInTurn t =
    (p : Part) (cs : List Call) (v : Signals) → IsParallel t p cs → t.Shows p v.register → Tells t v cs
    → t.Shows (after_calls t p cs) (λ r. word_of v (t.next_piece r))
