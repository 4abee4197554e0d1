-- The state that registers show, of each instance its part, in building order.
use Rattle.std.specs.Prelude.{List, map}
use Rattle.bsv_bits.specs.Words.{Bits}
use Rattle.bsv_prim.specs.declared.part.Part.{Part}
use Rattle.bsv_design.specs.declared.design.NamedPart.{NamedPart}
use Rattle.bsv_design.specs.scheme.States.{FitsKinds}
use Rattle.bsv_clock.specs.Shows.{Shows}

pub record ShowParts (instances : List NamedPart) (registers : List Bits) (ps : List Part) : Type 0 where
  pub fits : FitsKinds (map (λ i. i.kind) instances) ps
  pub shows : Shows (map (λ i. i.kind) instances) ps registers

-- they show some state of these instances
abbrev pub ShowSome : List NamedPart → List Bits → Type 0
ShowSome instances registers = (ps : List Part) × ShowParts instances registers ps
