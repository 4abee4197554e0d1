-- An element that is run whole on parts that fit: on each part, its calls can be applied one after the other.
use Rattle.std.specs.Prelude.{◌≡◌, ℕ, ◌==◌, Bool, true, cond, List, [], ◌∷◌, slice_get, Some}
use Rattle.bsv_prim.specs.Calls.{IsOrderly}
use Rattle.bsv_prim.specs.Calls as prim
use Rattle.bsv_prim.specs.Table.{Call}
use Rattle.bsv_prim.specs.declared.part.Part.{Part}
use Rattle.bsv_design.specs.declared.kind.Kind.{Kind}
use Rattle.bsv_design.specs.parts.Kinds.{kind_table}
use Rattle.bsv_design.specs.scheme.Relations.{KeepsTheRule}
use Rattle.bsv_design.specs.scheme.Schemes.{Scheme, Asking, Called, ready}
use Rattle.bsv_design.specs.scheme.Serial.{calls_made, run_whole}
use Rattle.bsv_design.specs.scheme.States.{FitsKinds, FitLook, part_at, plain, after_calls}
use Rattle.bsv_guard.specs.ElementLaws.{call_of}
use Rattle.bsv_guard.specs.Fitting.{RequestFits}

-- the calls on one part, in their order
abbrev pub calls_on : ℕ → List Called → List Call
calls_on i [] = []
calls_on i (c ∷ cs) = cond (c.target.part == i) (call_of c ∷ calls_on i cs) (calls_on i cs)

-- an element that is ready on parts that fit, with a request that fits
pub record IsTurn (aggressive : Bool) (S : Scheme) (q : Asking) (n : ℕ) (ps : List Part) : Type 0 where
  pub rule : KeepsTheRule S n
  pub request : RequestFits S q n
  pub parts : FitsKinds S.kinds ps
  pub is_ready : ready aggressive S q n (plain ps) ≡ true

pub record TurnLaws (S : Scheme) : Type 0 where
  pub plain_fits : (ps : List Part) → FitsKinds S.kinds ps → FitLook S.kinds (plain ps)
  -- after calls, a part is what it is after the calls on it
  pub each_part : (ps : List Part) → FitsKinds S.kinds ps → (cs : List Called) (i : ℕ) (kind : Kind)
      → slice_get S.kinds i ≡ Some kind
      → part_at (after_calls S.kinds ps cs) i ≡ prim.after_calls (kind_table kind) (part_at ps i) (calls_on i cs)
  -- the calls of the element on a part are in order, and each is ready where it is applied
  pub in_turn : (aggressive : Bool) (q : Asking) (n : ℕ) (ps : List Part) → IsTurn aggressive S q n ps
      → (i : ℕ) (kind : Kind) → slice_get S.kinds i ≡ Some kind
      → IsOrderly (kind_table kind) (part_at ps i) (calls_on i (calls_made S q n ps))
  -- and the parts fit after it
  pub still_fits : (aggressive : Bool) (q : Asking) (n : ℕ) (ps : List Part) → IsTurn aggressive S q n ps
      → FitsKinds S.kinds (run_whole S q n ps)
