-- The names of a design in Verilog: those of its registers, and of the wires that tell what fires. A dot of a path is
-- written as `$` (IEEE 1364-2005, 3.7: a name has letters, digits, `_` and `$`).
use Rattle.std.specs.Prelude.{ℕ, ◌+◌, ◌==◌, List, [], ◌∷◌, ◌++◌, map, cond, codes, decimal, if◌then◌else◌}
use Rattle.std.specs.List.{flat_map}
use Rattle.bsv_graph.specs.Edges.{numbers_below}
use Rattle.bsv_design.specs.declared.design.NamedPart.{NamedPart}
use Rattle.bsv_design.specs.declared.kind.Kind.{Kind}
use Rattle.bsv_design.specs.declared.kind.Kind.TheVariants.{Reg, RegU, Wire, DWire, RWire, Pulse, Plain, Pipeline, Bypass}
use Rattle.bsv_design.specs.design.Roles.{is_value}
use Rattle.bsv_design.specs.scheme.Schemes.{Outline}
use Rattle.bsv_vtext.specs.declared.tree.VWire.{VWire}
use Rattle.bsv_vtext.specs.Signals.{fire_name}

-- a dot is written as `$`
abbrev pub written : ℕ → ℕ
written b = if b == 46 then 36 else b

abbrev pub verilog_name : List ℕ → List ℕ
verilog_name path = map written path

-- ---- registers: after the path of their part

-- a queue has the number of its items, and then its items
abbrev pub item_suffix : ℕ → List ℕ
item_suffix k = codes "$D" ++ decimal k

abbrev pub queue_suffixes : ℕ → List (List ℕ)
queue_suffixes depth = codes "$N" ∷ map item_suffix (numbers_below depth)

abbrev pub suffixes : Kind → List (List ℕ)
suffixes (Reg k) = codes "$Q" ∷ []
suffixes (RegU k) = codes "$Q" ∷ []
suffixes (Wire k) = []
suffixes (DWire k) = []
suffixes (RWire k) = []
suffixes (Pulse k) = []
suffixes (Plain k) = queue_suffixes k.depth
suffixes (Pipeline k) = queue_suffixes 1
suffixes (Bypass k) = queue_suffixes 1

abbrev pub part_names : NamedPart → List (List ℕ)
part_names p = map (λ s. verilog_name p.path ++ s) (suffixes p.kind)

-- in building order
unfoldable pub register_names : List NamedPart → List (List ℕ)
register_names ps = flat_map part_names ps

-- ---- wires

-- a wire that stands for a word has a number
abbrev pub numbered_wire : ℕ → ℕ → VWire
numbered_wire k width = record { name = codes "N" ++ decimal k; width = width }

-- wires of these widths, numbered from this number on
abbrev pub numbered_from : ℕ → List ℕ → List VWire
numbered_from k [] = []
numbered_from k (w ∷ ws) = numbered_wire k w ∷ numbered_from (k + 1) ws

-- the wire that tells that a rule, or a method that acts, fires
abbrev pub fire_wire : List ℕ → VWire
fire_wire name = record { name = fire_name (verilog_name name); width = 1 }

-- in the order of the elements
abbrev pub fire_wires : List Outline → List VWire
fire_wires [] = []
fire_wires (o ∷ os) = cond (is_value o.role) (fire_wires os) (fire_wire o.name ∷ fire_wires os)
