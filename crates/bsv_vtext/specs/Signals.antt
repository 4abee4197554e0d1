-- What a module is made of, and the names of its signals: ports, registers and wires (IEEE 1364-2005, 12.3 and 3.2).
use Rattle.std.specs.Prelude.{ℕ, Bool, true, false, if◌then◌else◌, List, [], ◌∷◌, ◌++◌, map, slice_get, Option, Some, None, codes}
use Rattle.std.specs.List.{flat_map}
use Rattle.std.specs.Option.{option_map}
use Rattle.bsv_vtext.specs.declared.tree.VMethod.{VMethod}
use Rattle.bsv_vtext.specs.declared.tree.VRegister.{VRegister}
use Rattle.bsv_vtext.specs.declared.tree.VWire.{VWire}
use Rattle.bsv_vtext.specs.declared.tree.Assign.{Assign}
use Rattle.bsv_vtext.specs.declared.tree.Atom.{Atom}

-- the parts of a module
pub record VModuleData : Type 0 where
  pub name : List ℕ
  pub methods : List VMethod
  pub registers : List VRegister
  pub wires : List VWire
  pub assigns : List Assign
  pub nexts : List Atom

-- the signals that a text names, by their places
pub record Scope : Type 0 where
  pub methods : List VMethod
  pub registers : List VRegister
  pub wires : List VWire

abbrev pub scope : VModuleData → Scope
scope c = record { methods = c.methods; registers = c.registers; wires = c.wires }

-- ---- names of ports

-- of a method and of one of its arguments
abbrev pub argument_name : List ℕ → List ℕ → List ℕ
argument_name m a = m ++ 36 ∷ a

abbrev pub enable_name : List ℕ → List ℕ
enable_name m = codes "EN_" ++ m

abbrev pub ready_name : List ℕ → List ℕ
ready_name m = codes "RDY_" ++ m

-- the wire that tells that a rule or a method fires
abbrev pub fire_name : List ℕ → List ℕ
fire_name m = codes "WILL_FIRE_" ++ m

-- ---- ports

pub record Port : Type 0 where
  pub output : Bool
  pub name : List ℕ
  pub width : ℕ

abbrev pub input : List ℕ → ℕ → Port
input name width = record { output = false; name = name; width = width }

abbrev pub output : List ℕ → ℕ → Port
output name width = record { output = true; name = name; width = width }

abbrev pub argument_port : List ℕ → VWire → Port
argument_port m a = input (argument_name m a.name) a.width

abbrev pub argument_ports : List ℕ → List VWire → List Port
argument_ports m args = map (argument_port m) args

abbrev pub enable_ports : List ℕ → Bool → List Port
enable_ports m action = if action then input (enable_name m) 1 ∷ [] else []

abbrev pub ready_port : List ℕ → Port
ready_port m = output (ready_name m) 1

abbrev pub result_ports : List ℕ → Option ℕ → List Port
result_ports m None = []
result_ports m (Some width) = output m width ∷ []

-- the arguments, the enable of a method that acts, whether it is ready, and what it gives
abbrev pub ports_of : List ℕ → List VWire → Bool → Option ℕ → List Port
ports_of m args action result =
    argument_ports m args ++ (enable_ports m action ++ (ready_port m ∷ result_ports m result))

abbrev pub method_ports : VMethod → List Port
method_ports m = ports_of m.name m.args m.action m.result

-- all ports after the clock and the reset, in order
abbrev pub ports : List VMethod → List Port
ports methods = flat_map method_ports methods

-- ---- names by places

-- a name that is not there is empty
abbrev pub or_nameless : Option (List ℕ) → List ℕ
or_nameless None = []
or_nameless (Some name) = name

abbrev pub method_name : List VMethod → ℕ → List ℕ
method_name methods k = or_nameless (option_map (λ m. m.name) (slice_get methods k))

abbrev pub wire_name : List VWire → ℕ → List ℕ
wire_name wires k = or_nameless (option_map (λ w. w.name) (slice_get wires k))

abbrev pub register_name : List VRegister → ℕ → List ℕ
register_name registers k = or_nameless (option_map (λ r. r.name) (slice_get registers k))

abbrev pub arguments_of : Option VMethod → List VWire
arguments_of None = []
arguments_of (Some m) = m.args

-- the name of an argument in its method
abbrev pub own_name : List VMethod → ℕ → ℕ → List ℕ
own_name methods m k = wire_name (arguments_of (slice_get methods m)) k
