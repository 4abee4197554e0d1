-- What the registers of a module show at the start and after a reset (Bluespec reference guide, "Registers": mkReg has a
-- reset, mkRegU has none).
use Rattle.std.specs.Prelude.{Bool, true, false, cond, List, ◌∷◌}
use Rattle.bsv_bits.specs.Words.{Bits}
use Rattle.bsv_prim.specs.declared.part.Part.{Part}
use Rattle.bsv_design.specs.declared.kind.Kind.{Kind}
use Rattle.bsv_design.specs.declared.kind.Kind.TheVariants.{RegU}
use Rattle.bsv_design.specs.parts.Kinds.{kind_table}
use Rattle.bsv_design.specs.scheme.States.{FitsKinds, opening}
use Rattle.bsv_guard.specs.Fitting.{HaveWidths}
use Rattle.bsv_clock.specs.Shows.{Shows, cell_widths, cells_of}
use Rattle.bsv_vtext.specs.Signals.{VModuleData}
use Rattle.bsv_vtext.specs.VClock.{Inputs, Nets, VClock, initial}

-- the module begins with registers that show the parts before the first clock
abbrev pub BeginsOpen : List Kind → VModuleData → Type 0
BeginsOpen ks c = Shows ks (opening ks) (initial c)

-- a register without a start keeps its part
abbrev pub keeps : Kind → Bool
keeps (RegU k) = true
keeps _ = false

abbrev pub reset_part : Kind → Part → Part
reset_part k p = cond (keeps k) p (kind_table k).opening

-- every other part is as before the first clock
abbrev pub reset_parts : List Kind → List Part → List Part
reset_parts (k ∷ ks) (p ∷ ps) = reset_part k p ∷ reset_parts ks ps
reset_parts _ ps = ps

-- after a clock with a reset the registers show that, whatever the inputs are
abbrev pub Resets : List Kind → VModuleData → Type 0
Resets ks c =
    (s : List Part) (ws : List Bits) (ins : Inputs) (nets : Nets) (nexts : List Bits) → FitsKinds ks s
    → HaveWidths (cell_widths (cells_of ks)) ws → Shows ks s ws → VClock c ws ins false nets nexts
    → Shows ks (reset_parts ks s) nexts
