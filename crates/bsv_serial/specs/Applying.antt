-- The parts after the calls that are made on each of them.
use Rattle.std.specs.Prelude.{List, [], ◌∷◌}
use Rattle.bsv_prim.specs.Calls as prim
use Rattle.bsv_prim.specs.declared.part.Part.{Part}
use Rattle.bsv_design.specs.declared.kind.Kind.{Kind}
use Rattle.bsv_design.specs.parts.Kinds.{kind_table}
use Rattle.bsv_serial.specs.declared.calls_made.MadeCall.{MadeCall}
use Rattle.bsv_serial.specs.CallsMade.{as_calls}
use Rattle.bsv_serial.specs.Sights.{CanBeApplied}

-- the part after these calls
abbrev pub behind : Kind → Part → List MadeCall → Part
behind k p cs = prim.after_calls (kind_table k) p (as_calls cs)

-- the part fits, and they can be applied to it
pub record CanTake (k : Kind) (p : Part) (cs : List MadeCall) : Type 0 where
  pub part : (kind_table k).Fits p
  pub calls : CanBeApplied (kind_table k) p (as_calls cs)

abbrev pub all_after : List Kind → List Part → List (List MadeCall) → List Part
all_after (k ∷ ks) (p ∷ ps) (cs ∷ calls_made) = behind k p cs ∷ all_after ks ps calls_made
all_after _ ps _ = ps

-- there is a list for each part
abbrev pub AllCanTake : List Kind → List Part → List (List MadeCall) → Type 0
AllCanTake [] [] [] = Unit {0}
AllCanTake (k ∷ ks) (p ∷ ps) (cs ∷ calls_made) = CanTake k p cs × AllCanTake ks ps calls_made
AllCanTake _ _ _ = ⊥
