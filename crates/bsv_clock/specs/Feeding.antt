-- What the parts of a clock are given: on each part the calls of the clock can be applied one after the other, also just
-- those that a method sees, and each is ready in its own look. This is what the laws of a kind ask for, so that registers
-- and multiplexers may do the same at once.
use Rattle.std.specs.Prelude.{◌≡◌, ℕ, true, List, slice_get, Some}
use Rattle.bsv_prim.specs.Calls.{IsOrderly}
use Rattle.bsv_prim.specs.declared.part.Part.{Part}
use Rattle.bsv_design.specs.declared.kind.Kind.{Kind}
use Rattle.bsv_design.specs.declared.schedule.Schedule.{Schedule}
use Rattle.bsv_design.specs.design.Bodies.{Target}
use Rattle.bsv_design.specs.parts.Kinds.{kind_table}
use Rattle.bsv_design.specs.scheme.Schemes.{Scheme, Called, is_open}
use Rattle.bsv_design.specs.scheme.States.{FitsKinds, FitLook, emptied, part_at}
use Rattle.bsv_design.specs.scheme.Traces.{acts, kind_at}
use Rattle.bsv_guard.specs.Fitting.{IsFitCall}
use Rattle.bsv_guard.specs.Turns.{calls_on}
use Rattle.bsv_clock.specs.Looks.{seen_by}
use Rattle.bsv_clock.specs.Settling.{Doing, deeds, look_of, end_of}

pub record IsFed (S : Scheme) (made : Schedule) (s : List Part) (D : Doing) : Type 0 where
  -- the calls on a part are in order, and each is ready where it is applied
  pub orderly : (i : ℕ) (kind : Kind) → slice_get S.kinds i ≡ Some kind
      → IsOrderly (kind_table kind) (part_at (emptied S.kinds s) i) (calls_on i (deeds D made.execution))
  -- and so are just those that a method sees
  pub seen_orderly : (t : Target) (kind : Kind) → kind_at S.kinds t ≡ Some kind
      → IsOrderly (kind_table kind) (part_at (emptied S.kinds s) t.part)
      (calls_on t.part (seen_by S.kinds t (deeds D made.execution)))
  -- each call is of a method that acts, has the arguments of its method, and is open in its look
  pub acting : (k : ℕ) (c : Called) → slice_get (deeds D made.execution) k ≡ Some c
      → acts (kind_at S.kinds c.target) c.target.method ≡ true
  pub fitting : (k : ℕ) (c : Called) → slice_get (deeds D made.execution) k ≡ Some c
      → IsFitCall (kind_at S.kinds c.target) c.target.method c.arguments
  pub open_in_look : (k : ℕ) (c : Called) → slice_get (deeds D made.execution) k ≡ Some c
      → is_open S.kinds (look_of S made s D) c.target ≡ true
  -- the parts fit in the look, and after the clock
  pub look_fits : FitLook S.kinds (look_of S made s D)
  pub end_fits : FitsKinds S.kinds (end_of S made s D)
