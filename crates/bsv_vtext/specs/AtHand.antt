-- What the definitions see of what the code has at hand.
use Rattle.std.specs.Prelude.{ℕ, Bool, List, [], ◌∷◌, ◌++◌, codes}
use Rattle.std.specs.List.{flat_map, concat}
use Rattle.bsv_vtext.specs.declared.modules.VModule.{VModule}
use Rattle.bsv_vtext.specs.declared.tree.VRegister.{VRegister}
use Rattle.bsv_vtext.specs.declared.tree.Atom.{Atom}
use Rattle.bsv_vtext.specs.declared.pieces.Texts.{Texts}
use Rattle.bsv_vtext.specs.declared.ports.Listing.{Listing}
use Rattle.bsv_vtext.specs.declared.ports.Listing.TheVariants as listing
use Rattle.bsv_vtext.specs.declared.blocks.Line.{Line}
use Rattle.bsv_vtext.specs.declared.blocks.Line.TheVariants as kind
use Rattle.bsv_vtext.specs.declared.names.Scope as names
use Rattle.bsv_vtext.specs.Signals.{VModuleData, Port, Scope}
use Rattle.bsv_vtext.specs.VText.{listed_port, port_line, start_line, reset_line, atom_text}

abbrev pub module_data : VModule → VModuleData
module_data m = record {
  name = m.name;
  methods = m.methods;
  registers = m.registers;
  wires = m.wires;
  assigns = m.assigns;
  nexts = m.nexts;
}

abbrev pub texts : Texts → List ℕ
texts t = t.front.now ++ (t.middle.now ++ t.back.now)

abbrev pub scope : names.Scope → Scope
scope s = record { methods = s.methods.now; registers = s.registers.now; wires = s.wires.now }

-- ---- ports

abbrev pub port : Bool → ℕ → Texts → Port
port output width name = record { output = output; name = texts name; width = width }

abbrev pub port_text : Listing → Port → List ℕ
port_text listing.Header = listed_port
port_text listing.Declarations = port_line

-- ports where they are listed
abbrev pub listed : Listing → List Port → List ℕ
listed l ps = flat_map (port_text l) ps

-- ---- sides

-- two atoms, with texts before, between and after them
abbrev pub two : Scope → Texts → Atom → Atom → List ℕ
two s t a b = t.front.now ++ (atom_text s a ++ (t.middle.now ++ (atom_text s b ++ t.back.now)))

abbrev pub signed : Scope → List ℕ → Atom → Atom → List ℕ
signed s comparison a b = concat (codes "$signed(" ∷ atom_text s a ∷ comparison ∷ atom_text s b ∷ codes ")" ∷ [])

-- ---- registers

abbrev pub line : Line → VRegister → List ℕ
line kind.Start = start_line
line kind.Reset = reset_line
