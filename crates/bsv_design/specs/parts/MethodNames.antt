-- The names of the methods of each kind, in the order of their numbers (Bluespec reference guide: Reg,
-- Wire, RWire, PulseWire, FIFO and FIFOF).
use Rattle.std.specs.Prelude.{ℕ, List, [], ◌∷◌, codes}
use Rattle.bsv_design.specs.declared.kind.Kind.{Kind}
use Rattle.bsv_design.specs.declared.kind.Kind.TheVariants.{Reg, RegU, Wire, DWire, RWire, Pulse, Plain, Pipeline, Bypass}

abbrev pub register_names : List (List ℕ)
register_names = codes "_read" ∷ codes "_write" ∷ []

abbrev pub wire_names : List (List ℕ)
wire_names = codes "_write" ∷ codes "_read" ∷ []

abbrev pub rwire_names : List (List ℕ)
rwire_names = codes "wset" ∷ codes "wget" ∷ []

abbrev pub pulse_names : List (List ℕ)
pulse_names = codes "send" ∷ codes "_read" ∷ []

abbrev pub queue_names : List (List ℕ)
queue_names =
    codes "enq" ∷ codes "deq" ∷ codes "first" ∷ codes "notFull" ∷ codes "notEmpty" ∷ codes "clear" ∷ []

abbrev pub method_names : Kind → List (List ℕ)
method_names (Reg k) = register_names
method_names (RegU k) = register_names
method_names (Wire k) = wire_names
method_names (DWire k) = wire_names
method_names (RWire k) = rwire_names
method_names (Pulse k) = pulse_names
method_names (Plain k) = queue_names
method_names (Pipeline k) = queue_names
method_names (Bypass k) = queue_names
