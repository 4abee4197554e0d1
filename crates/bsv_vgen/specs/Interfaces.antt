-- The module of a design: its name, its ports, its registers and its wires.
use Rattle.std.specs.Prelude.{◌≡◌, ℕ, false, not, List, ◌++◌, map, slice_get, Some, is_some}
use Rattle.bsv_bits.specs.Words.{Bits}
use Rattle.bsv_prim.specs.Table.{IsWordOf}
use Rattle.bsv_design.specs.declared.design.NamedPart.{NamedPart}
use Rattle.bsv_design.specs.declared.element.Port.{Port}
use Rattle.bsv_design.specs.design.Roles.{is_rule, is_value, gives_value}
use Rattle.bsv_design.specs.scheme.Schemes.{Scheme, Outline, Asking, Look, value}
use Rattle.bsv_design.specs.scheme.States.{FitLook}
use Rattle.bsv_guard.specs.Fitting.{RequestFits}
use Rattle.bsv_clock.specs.Shows.{Cell, cells_of}
use Rattle.bsv_vtext.specs.declared.tree.VMethod.{VMethod}
use Rattle.bsv_vtext.specs.declared.tree.VRegister.{VRegister}
use Rattle.bsv_vtext.specs.declared.tree.VWire.{VWire}
use Rattle.bsv_vtext.specs.Signals.{VModuleData}
use Rattle.bsv_vgen.specs.Names.{register_names, numbered_from, fire_wires}

-- an argument of a method
abbrev pub argument_of : Port → VWire
argument_of p = record { name = p.name; width = p.width }

-- the ports of a method of the top
pub record IsMethodOf (o : Outline) (m : VMethod) : Type 0 where
  pub name : m.name ≡ o.name
  pub arguments : m.args ≡ map argument_of o.ports
  -- a method that acts has an enable
  pub action : m.action ≡ not (is_value o.role)
  pub result : is_some m.result ≡ gives_value o.role

-- an element that is a method has its ports at its place
pub record HasMethod (c : VModuleData) (n : ℕ) (o : Outline) : Type 0 where
  pub method : VMethod
  pub at : slice_get c.methods n ≡ Some method
  pub is : IsMethodOf o method

pub record IsMethodAt (os : List Outline) (n : ℕ) : Type 0 where
  pub outline : Outline
  pub at : slice_get os n ≡ Some outline
  pub method : is_rule outline.role ≡ false

-- a register as hardware
abbrev pub cell : VRegister → Cell
cell r = record { width = r.start.width; start = r.start; resets = r.resets }

-- the module of this name that has these parts and these elements
pub record IsModuleOf (name : List ℕ) (ps : List NamedPart) (os : List Outline) (c : VModuleData) : Type 0 where
  pub name_is : c.name ≡ name
  -- the methods of the top, in the order of the interface, and no others
  pub methods : (n : ℕ) (o : Outline) → slice_get os n ≡ Some o → is_rule o.role ≡ false → HasMethod c n o
  pub no_more : (n : ℕ) (m : VMethod) → slice_get c.methods n ≡ Some m → IsMethodAt os n
  -- the registers of its parts, in building order
  pub registers : map (λ r. r.name) c.registers ≡ register_names ps
  pub cells : map cell c.registers ≡ cells_of (map (λ p. p.kind) ps)
  -- wires with numbers, and those that tell what fires
  pub widths : List ℕ
  pub wires : c.wires ≡ numbered_from 0 widths ++ fire_wires os

-- Each result port is as wide as the words that its method gives, whatever is asked and whatever state the method looks at,
-- and whether it is ready or not.
abbrev pub HasResultWidths : Scheme → VModuleData → Type 0
HasResultWidths S c =
    (n : ℕ) (m : VMethod) (u : ℕ) → slice_get c.methods n ≡ Some m → m.result ≡ Some u
    → (q : Asking) (look : Look) (w : Bits) → RequestFits S q n → FitLook S.kinds look → value S q n look ≡ Some w → IsWordOf u w
