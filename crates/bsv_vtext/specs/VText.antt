-- The text of a module, production by production (IEEE 1364-2005, 12.1 modules, 12.3 ports, 3.2 nets and variables, 6.1
-- continuous assignments, 9.2 and 9.9 procedural assignments and blocks): one entry a line, two blanks a level.
use Rattle.std.specs.Prelude.{ℕ, ◌-◌, Bool, true, false, if◌then◌else◌, List, [], ◌∷◌, ◌++◌, codes, decimal}
use Rattle.std.specs.List.{flat_map, concat}
use Rattle.bsv_bits.specs.Constants.{constant_text}
use Rattle.bsv_vtext.specs.declared.tree.VRegister.{VRegister}
use Rattle.bsv_vtext.specs.declared.tree.VWire.{VWire}
use Rattle.bsv_vtext.specs.declared.tree.Assign.{Assign}
use Rattle.bsv_vtext.specs.declared.tree.Atom.{Atom}
use Rattle.bsv_vtext.specs.declared.tree.Atom.TheVariants as atom
use Rattle.bsv_vtext.specs.declared.tree.Side.{Side}
use Rattle.bsv_vtext.specs.declared.tree.Side.TheVariants as side
use Rattle.bsv_vtext.specs.declared.tree.Target.{Target}
use Rattle.bsv_vtext.specs.declared.tree.Target.TheVariants as target
use Rattle.bsv_vtext.specs.declared.tree.VOperator.{VOperator}
use Rattle.bsv_vtext.specs.declared.tree.VOperator.TheVariants as operator
use Rattle.bsv_vtext.specs.Signals.{VModuleData, Scope, scope, Port, ports, argument_name, enable_name, ready_name, method_name, own_name, register_name, wire_name}

-- ---- declarations

-- `  input [7:0] a;`
abbrev pub declaration : List ℕ → ℕ → List ℕ → List ℕ
declaration word width name = concat (word ∷ codes " [" ∷ decimal (width - 1) ∷ codes ":0] " ∷ name ∷ codes ";\n" ∷ [])

abbrev pub direction : Bool → List ℕ
direction false = codes "  input"
direction true = codes "  output"

abbrev pub port_line : Port → List ℕ
port_line p = declaration (direction p.output) p.width p.name

abbrev pub register_line : VRegister → List ℕ
register_line r = declaration (codes "  reg") r.start.width r.name

abbrev pub wire_line : VWire → List ℕ
wire_line w = declaration (codes "  wire") w.width w.name

-- a port in the header, after those before it
abbrev pub listed_port : Port → List ℕ
listed_port p = codes ", " ++ p.name

unfoldable pub header : List ℕ → List Port → List ℕ
header name ps = concat (codes "module " ∷ name ∷ codes "(CLK, RST_N" ∷ flat_map listed_port ps ∷ codes ");\n" ∷ [])

unfoldable pub declarations : List Port → List VRegister → List VWire → List ℕ
declarations ps rs ws =
    concat (codes "  input CLK;\n  input RST_N;\n" ∷ flat_map port_line ps ∷ flat_map register_line rs ∷ flat_map wire_line ws ∷ [])

-- ---- expressions

abbrev pub atom_text : Scope → Atom → List ℕ
atom_text s (atom.Enable m) = enable_name (method_name s.methods m)
atom_text s (atom.Argument m k) = argument_name (method_name s.methods m) (own_name s.methods m k)
atom_text s (atom.Register k) = register_name s.registers k
atom_text s (atom.Wire k) = wire_name s.wires k
atom_text s (atom.Constant w) = constant_text w

abbrev pub target_text : Scope → Target → List ℕ
target_text s (target.Wire k) = wire_name s.wires k
target_text s (target.Ready m) = ready_name (method_name s.methods m)
target_text s (target.Result m) = method_name s.methods m

abbrev pub operator_text : VOperator → List ℕ
operator_text operator.Add = codes " + "
operator_text operator.Sub = codes " - "
operator_text operator.Mul = codes " * "
operator_text operator.And = codes " & "
operator_text operator.Or = codes " | "
operator_text operator.Xor = codes " ^ "
operator_text operator.Same = codes " == "
operator_text operator.Differs = codes " != "
operator_text operator.Less = codes " < "
operator_text operator.UpTo = codes " <= "
operator_text operator.Shl = codes " << "
operator_text operator.Shr = codes " >> "

-- an atom after another one, in a join
abbrev pub joined_atom : Scope → Atom → List ℕ
joined_atom s a = codes ", " ++ atom_text s a

abbrev pub joined_atoms : Scope → List Atom → List ℕ
joined_atoms s [] = []
joined_atoms s (a ∷ rest) = atom_text s a ++ flat_map (joined_atom s) rest

abbrev pub side_text : Scope → Side → List ℕ
side_text s (side.Is a) = atom_text s a
side_text s (side.Not a) = codes "~" ++ atom_text s a
side_text s (side.Two o a b) = concat (atom_text s a ∷ operator_text o ∷ atom_text s b ∷ [])
side_text s (side.LessSigned a b) = concat (codes "$signed(" ∷ atom_text s a ∷ codes ") < $signed(" ∷ atom_text s b ∷ codes ")" ∷ [])
side_text s (side.UpToSigned a b) = concat (codes "$signed(" ∷ atom_text s a ∷ codes ") <= $signed(" ∷ atom_text s b ∷ codes ")" ∷ [])
side_text s (side.ShiftSigned a b) = concat (codes "$signed(" ∷ atom_text s a ∷ codes ") >>> " ∷ atom_text s b ∷ [])
side_text s (side.Pick t a b) = concat (atom_text s t ∷ codes " ? " ∷ atom_text s a ∷ codes " : " ∷ atom_text s b ∷ [])
side_text s (side.Join parts) = concat (codes "{" ∷ joined_atoms s parts ∷ codes "}" ∷ [])
side_text s (side.Slice a high low) = concat (atom_text s a ∷ codes "[" ∷ decimal high ∷ codes ":" ∷ decimal low ∷ codes "]" ∷ [])

abbrev pub assign_line : Scope → Assign → List ℕ
assign_line s x = concat (codes "  assign " ∷ target_text s x.target ∷ codes " = " ∷ side_text s x.side ∷ codes ";\n" ∷ [])

-- ---- blocks

abbrev pub start_line : VRegister → List ℕ
start_line r = concat (codes "    " ∷ r.name ∷ codes " = " ∷ constant_text r.start ∷ codes ";\n" ∷ [])

-- a register takes over a word at the edge
abbrev pub edge_line : List ℕ → List ℕ → List ℕ
edge_line name word = concat (codes "      " ∷ name ∷ codes " <= " ∷ word ∷ codes ";\n" ∷ [])

-- the reset leaves the registers alone that it does not set
abbrev pub reset_line : VRegister → List ℕ
reset_line r = if r.resets then edge_line r.name (constant_text r.start) else []

abbrev pub next_line : Scope → VRegister → Atom → List ℕ
next_line s r a = edge_line r.name (atom_text s a)

abbrev pub next_lines : Scope → List VRegister → List Atom → List ℕ
next_lines s (r ∷ rs) (a ∷ nexts) = next_line s r a ++ next_lines s rs nexts
next_lines s _ _ = []

unfoldable pub some_blocks : Scope → List VRegister → List Atom → List ℕ
some_blocks s rs nexts =
    concat (codes "  initial begin\n" ∷ flat_map start_line rs ∷
    codes "  end\n  always @(posedge CLK) begin\n    if (!RST_N) begin\n" ∷ flat_map reset_line rs ∷
    codes "    end else begin\n" ∷ next_lines s rs nexts ∷ codes "    end\n  end\n" ∷ [])

-- a module without registers has none
abbrev pub blocks : Scope → List VRegister → List Atom → List ℕ
blocks s [] nexts = []
blocks s (r ∷ rs) nexts = some_blocks s (r ∷ rs) nexts

-- ---- the whole

unfoldable pub vtext : VModuleData → List ℕ
vtext c =
    concat (header c.name (ports c.methods) ∷ declarations (ports c.methods) c.registers c.wires ∷
    flat_map (assign_line (scope c)) c.assigns ∷ blocks (scope c) c.registers c.nexts ∷ codes "endmodule\n" ∷ [])
