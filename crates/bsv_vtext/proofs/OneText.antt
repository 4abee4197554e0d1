-- Two modules with one text are equal.
use Rattle.std.proofs.Common.{◌≡◌, ◌∙◌, ℕ, suc, Bool, false, List, [], ◌∷◌, ◌++◌, length, map, slice_get, flat_map, Some, option_map, codes, refl, sym, ap, arith}
use Rattle.std.proofs.lemmas.List.{append_cancel_left, length-map, nil_from_length}
use Rattle.std.proofs.lemmas.Option.{slice_get-map}
use Rattle.bsv_bits.specs.Words.{Bits}
use Rattle.bsv_vtext.specs.declared.tree.VMethod.{VMethod}
use Rattle.bsv_vtext.specs.declared.tree.VRegister.{VRegister}
use Rattle.bsv_vtext.specs.declared.tree.VWire.{VWire}
use Rattle.bsv_vtext.specs.declared.tree.Assign.{Assign}
use Rattle.bsv_vtext.specs.declared.tree.Atom.{Atom}
use Rattle.bsv_vtext.specs.Signals.{VModuleData, scope, ports}
use Rattle.bsv_vtext.specs.VText.{listed_port, port_line, register_line, wire_line, assign_line, start_line, reset_line, next_lines, some_blocks, blocks, header, declarations, vtext}
use Rattle.bsv_vtext.specs.Modules.{IsModule, IsMethod, IsRegister, Clock, Reset, Enable, Argument, Ready, Result, Register, Wire, signal_name, name_of_enable, name_of_argument, name_of_result}
use Rattle.bsv_vtext.proofs.Runs.{Each, each_at, split, pieces}
use Rattle.bsv_vtext.proofs.Glyphs.{is_glyph}
use Rattle.bsv_vtext.proofs.SignalNames.{lower_is, lower_name, name_glyphs}
use Rattle.bsv_vtext.proofs.SameAtoms.{SameNames, IsSized}
use Rattle.bsv_vtext.proofs.SameMethods.{same_methods}
use Rattle.bsv_vtext.proofs.SameDeclarations.{Fails, lines_fail, begins_port, begins_register, begins_wire, ports_are, registers_are, wires_are, sight, same_listed, same_ports, same_registers, same_wires}
use Rattle.bsv_vtext.proofs.SameAssigns.{begins_assign, assigns_are, same_assigns}
use Rattle.bsv_vtext.proofs.SameBlocks.{Apart, same_starts, same_resets, same_nexts}

-- ---- what is known of the lists of a module

methods_are : (c : VModuleData) → IsModule c → Each IsMethod c.methods
methods_are c is = each_at IsMethod c.methods is.methods

all_registers : (c : VModuleData) → IsModule c → Each IsRegister c.registers
all_registers c is = each_at IsRegister c.registers is.registers

apart_from : (rs : List VRegister) → ((j k : ℕ) (x y : VRegister) → slice_get rs j ≡ Some x → slice_get rs k ≡ Some y → x.name ≡ y.name → j ≡ k)
    → Apart rs
apart_from [] apart = tt
apart_from (r ∷ rs) apart = (
  each_at (λ (x : VRegister). x.name ≡ r.name → ⊥) rs (λ k x e f. first k (apart 0 (suc k) r x refl e (sym f))),
  apart_from rs (λ j k x y e f g. before j k (apart (suc j) (suc k) x y e f g)),
)
  where
    first : (k : ℕ) → 0 ≡ suc k → ⊥
    first k e = omega arith

    before : (j k : ℕ) → suc j ≡ suc k → j ≡ k
    before j k e = omega arith

registers_apart : (c : VModuleData) → IsModule c → Apart c.registers
registers_apart c is = apart_from c.registers (λ j k x y e f g. place j k
    (is.apart (Register j) (Register k) y.name (ap (option_map (λ r. r.name)) e ∙ ap Some g) (ap (option_map (λ r. r.name)) f)))
  where
    place : (j k : ℕ) → Register j ≡ Register k → j ≡ k
    place j k e = cc

nexts_from : (c : VModuleData) (rs : List VRegister) (nexts : List Atom) → length nexts ≡ length rs
    → ((k : ℕ) (r : VRegister) (a : Atom) → slice_get rs k ≡ Some r → slice_get nexts k ≡ Some a → IsSized c a)
    → Each (IsSized c) nexts
nexts_from c rs [] count each = tt
nexts_from c [] (a ∷ nexts) count each = absurd (omega arith)
nexts_from c (r ∷ rs) (a ∷ nexts) count each = (each 0 r a refl refl, nexts_from c rs nexts (omega arith) (λ k r a e f. each (suc k) r a e f))

nexts_are : (c : VModuleData) → IsModule c → Each (IsSized c) c.nexts
nexts_are c is = nexts_from c c.registers c.nexts is.nexts_count (λ k r a e f. (r.start.width, is.nexts k r a e f))

-- ---- the names of two modules

names_from : (xs ys : List VRegister) → map sight xs ≡ map sight ys → map (λ r. r.name) xs ≡ map (λ r. r.name) ys
names_from xs ys e = sym (through xs) ∙ ap (map (λ (w : VWire). w.name)) e ∙ through ys
  where
    through : (xs : List VRegister) → map (λ (w : VWire). w.name) (map sight xs) ≡ map (λ r. r.name) xs
    through [] = refl
    through (x ∷ xs) = ap (λ (t : List (List ℕ)). x.name ∷ t) (through xs)

same_names : (c d : VModuleData) → c.methods ≡ d.methods → map sight c.registers ≡ map sight d.registers → c.wires ≡ d.wires → SameNames c d
same_names c d methods registers wires Clock = refl
same_names c d methods registers wires Reset = refl
same_names c d methods registers wires (Enable m) = ap (λ (ms : List VMethod). name_of_enable (slice_get ms m)) methods
same_names c d methods registers wires (Argument m k) = ap (λ (ms : List VMethod). name_of_argument (slice_get ms m) k) methods
same_names c d methods registers wires (Ready m) = ap (λ (ms : List VMethod). signal_name (record c { methods = ms }) (Ready m)) methods
same_names c d methods registers wires (Result m) = ap (λ (ms : List VMethod). name_of_result (slice_get ms m)) methods
same_names c d methods registers wires (Register k) =
    sym (slice_get-map (λ r. r.name) c.registers k) ∙ ap (λ (names : List (List ℕ)). slice_get names k) (names_from c.registers d.registers registers)
    ∙ slice_get-map (λ r. r.name) d.registers k
same_names c d methods registers wires (Wire k) = ap (λ (ws : List VWire). option_map (λ w. w.name) (slice_get ws k)) wires

-- ---- registers by their parts

abbrev register : List ℕ → Bits → Bool → VRegister
register name start resets = record { name = name; start = start; resets = resets }

registers_from : (xs ys : List VRegister) → map (λ r. r.name) xs ≡ map (λ r. r.name) ys → map (λ r. r.start) xs ≡ map (λ r. r.start) ys
    → map (λ r. r.resets) xs ≡ map (λ r. r.resets) ys → xs ≡ ys
registers_from [] [] names starts resets = refl
registers_from [] (y ∷ ys) names starts resets = absurd cc
registers_from (x ∷ xs) [] names starts resets = absurd cc
registers_from (x ∷ xs) (y ∷ ys) names starts resets =
    let first : register x.name x.start x.resets ≡ register y.name y.start y.resets = cc (names, starts, resets) in
    let more : xs ≡ ys = registers_from xs ys (cc (names)) (cc (starts)) (cc (resets)) in
    let all : register x.name x.start x.resets ∷ xs ≡ register y.name y.start y.resets ∷ ys = cc (first, more) in
    all

-- ---- where lists of lines end

ending : VModuleData → List ℕ
ending c = blocks (scope c) c.registers c.nexts ++ (codes "endmodule\n" ++ [])

-- 105 is the fifth byte of `  initial`, and 111 that of `endmodule`
ending_fails : (p : ℕ → Bool) → p 105 ≡ false → p 111 ≡ false → (c : VModuleData) → Fails p (ending c)
unfolding ending some_blocks
ending_fails p some none c = by c.registers
  where
    by : (rs : List VRegister) → Fails p (blocks (scope c) rs c.nexts ++ (codes "endmodule\n" ++ []))
    by [] = none
    by (r ∷ rs) = some

after_wires : VModuleData → List ℕ
after_wires c = flat_map (assign_line (scope c)) c.assigns ++ ending c

after_registers : VModuleData → List ℕ
after_registers c = flat_map wire_line c.wires ++ after_wires c

after_ports : VModuleData → List ℕ
after_ports c = flat_map register_line c.registers ++ after_registers c

wires_end : (p : ℕ → Bool) → p 115 ≡ false → p 105 ≡ false → p 111 ≡ false → (c : VModuleData) → Fails p (after_wires c)
unfolding after_wires
wires_end p assign some none c = lines_fail p (assign_line (scope c)) (λ x r. assign) c.assigns (ending c) (ending_fails p some none c)

registers_end : (p : ℕ → Bool) → p 114 ≡ false → p 115 ≡ false → p 105 ≡ false → p 111 ≡ false → (c : VModuleData) → Fails p (after_registers c)
unfolding after_registers
registers_end p wire assign some none c = lines_fail p wire_line (λ x r. wire) c.wires (after_wires c) (wires_end p assign some none c)

ports_end : (p : ℕ → Bool) → p 103 ≡ false → p 114 ≡ false → p 115 ≡ false → p 105 ≡ false → p 111 ≡ false → (c : VModuleData) → Fails p (after_ports c)
unfolding after_ports
ports_end p reg wire assign some none c = lines_fail p register_line (λ x r. reg) c.registers (after_registers c)
    (registers_end p wire assign some none c)

-- ---- the pieces of two texts

module _ (c d : VModuleData) (is : IsModule c) (other : IsModule d) where
  -- after the header
  after_header : vtext c ≡ vtext d → (c.name ≡ d.name) × (declarations (ports c.methods) c.registers c.wires ++ after_wires c ≡ declarations
      (ports d.methods) d.registers d.wires ++ after_wires d)
  unfolding vtext header after_wires ending is_glyph
  after_header e =
      let whole = pieces (header c.name (ports c.methods) ∷ declarations (ports c.methods) c.registers c.wires ∷ flat_map (assign_line (scope c))
      c.assigns ∷ blocks (scope c) c.registers c.nexts ∷ codes "endmodule\n" ∷ [])
      (header d.name (ports d.methods) ∷ declarations (ports d.methods) d.registers d.wires ∷ flat_map (assign_line (scope d)) d.assigns ∷ blocks
      (scope d) d.registers d.nexts ∷ codes "endmodule\n" ∷ [])
      [] [] (ap (λ (t : List ℕ). t ++ []) e) in
      let front = pieces (codes "module " ∷ c.name ∷ codes "(CLK, RST_N" ∷ flat_map listed_port (ports c.methods) ∷ codes ");\n" ∷ [])
      (codes "module " ∷ d.name ∷ codes "(CLK, RST_N" ∷ flat_map listed_port (ports d.methods) ∷ codes ");\n" ∷ []) _ _ whole in
      let name = split is_glyph c.name d.name _ _ (name_glyphs c.name (lower_name c.name (lower_is c.name is.name)))
      (name_glyphs d.name (lower_name d.name (lower_is d.name other.name)))
      refl refl (append_cancel_left (codes "module ") _ _ front) in (
        name.0,
        same_listed (ports c.methods) (ports d.methods) _ _ (ports_are c.methods (methods_are c is))
            (ports_are d.methods (methods_are d other)) (append_cancel_left (codes "(CLK, RST_N") _ _ name.1),
      )

  -- what the declarations tell
  record Declared : Type 0 where
    methods : c.methods ≡ d.methods
    registers : map sight c.registers ≡ map sight d.registers
    wires : c.wires ≡ d.wires
    behind : after_wires c ≡ after_wires d

  declared : declarations (ports c.methods) c.registers c.wires ++ after_wires c ≡ declarations (ports d.methods) d.registers d.wires ++ after_wires d
      → Declared
  unfolding declarations after_ports after_registers
  declared e =
      let whole = pieces (codes "  input CLK;\n  input RST_N;\n" ∷ flat_map port_line (ports c.methods) ∷ flat_map register_line c.registers
      ∷ flat_map wire_line c.wires ∷ [])
      (codes "  input CLK;\n  input RST_N;\n" ∷ flat_map port_line (ports d.methods) ∷ flat_map register_line d.registers ∷ flat_map wire_line
      d.wires ∷ []) (after_wires c) (after_wires d) e in
      let first = same_ports (ports c.methods) (ports d.methods) (after_ports c) (after_ports d) (ports_are c.methods (methods_are c is))
      (ports_are d.methods (methods_are d other))
      (ports_end begins_port refl refl refl refl refl c) (ports_end begins_port refl refl refl refl refl d)
      (append_cancel_left (codes "  input CLK;\n  input RST_N;\n") _ _ whole) in
      let second = same_registers c.registers d.registers (after_registers c) (after_registers d) (registers_are c is) (registers_are d other)
      (registers_end begins_register refl refl refl refl c) (registers_end begins_register refl refl refl refl d) first.1 in
      let third = same_wires c.wires d.wires (after_wires c) (after_wires d) (wires_are c is) (wires_are d other)
      (wires_end begins_wire refl refl refl c) (wires_end begins_wire refl refl refl d) second.1 in
      record {
        methods = same_methods c.methods d.methods (methods_are c is) (methods_are d other) first.0;
        registers = second.0;
        wires = third.0;
        behind = third.1;
      }

  assigned : SameNames c d → after_wires c ≡ after_wires d → (c.assigns ≡ d.assigns) × (ending c ≡ ending d)
  unfolding after_wires
  assigned same e =
      same_assigns c d is other same c.assigns d.assigns (ending c) (ending d) (assigns_are c is) (assigns_are d other)
      (ending_fails begins_assign refl refl c) (ending_fails begins_assign refl refl d) e

  -- what the blocks tell
  record Kept (xs ys : List VRegister) (nexts others : List Atom) : Type 0 where
    starts : map (λ r. r.start) xs ≡ map (λ r. r.start) ys
    resets : map (λ r. r.resets) xs ≡ map (λ r. r.resets) ys
    nexts_are_same : nexts ≡ others

  some_kept : SameNames c d → (xs ys : List VRegister) (nexts others : List Atom) (r s : List ℕ) → Each IsRegister xs → Each IsRegister ys
      → Each (IsSized c) nexts → Each (IsSized d) others
      → Apart xs → Apart ys → length nexts ≡ length xs → length others ≡ length ys → map sight xs ≡ map sight ys
      → some_blocks (scope c) xs nexts ++ r ≡ some_blocks (scope d) ys others ++ s → Kept xs ys nexts others
  unfolding some_blocks
  some_kept same xs ys nexts others r s good fine some any apart distinct l m sights e =
      let whole = pieces (codes "  initial begin\n" ∷ flat_map start_line xs ∷ codes "  end\n  always @(posedge CLK) begin\n    if (!RST_N) begin\n"
      ∷ flat_map reset_line xs ∷
      codes "    end else begin\n" ∷ next_lines (scope c) xs nexts ∷ codes "    end\n  end\n" ∷ [])
      (codes "  initial begin\n" ∷ flat_map start_line ys ∷ codes "  end\n  always @(posedge CLK) begin\n    if (!RST_N) begin\n" ∷ flat_map
      reset_line ys ∷
      codes "    end else begin\n" ∷ next_lines (scope d) ys others ∷ codes "    end\n  end\n" ∷ []) r s e in
      let first = same_starts xs ys _ _ good fine (append_cancel_left (codes "  initial begin\n") _ _ whole) in
      let second = same_resets xs ys _ _ good fine apart distinct (names_from xs ys sights)
      (append_cancel_left (codes "\n  always @(posedge CLK) begin\n    if (!RST_N) begin\n") _ _ first.1) in
      let count : length xs ≡ length ys = sym (length-map xs sight) ∙ ap length sights ∙ length-map ys sight in
      let third = same_nexts c d is other same xs ys nexts others _ _ good fine some any l m count
      (append_cancel_left (codes " else begin\n") _ _ second.1) in
      record { starts = first.0; resets = second.0; nexts_are_same = third.0 }

  kept : SameNames c d → (xs ys : List VRegister) (nexts others : List Atom) (r s : List ℕ) → Each IsRegister xs → Each IsRegister ys
      → Each (IsSized c) nexts → Each (IsSized d) others
      → Apart xs → Apart ys → length nexts ≡ length xs → length others ≡ length ys → map sight xs ≡ map sight ys
      → blocks (scope c) xs nexts ++ r ≡ blocks (scope d) ys others ++ s → Kept xs ys nexts others
  kept same [] [] nexts others r s good fine some any apart distinct l m sights e = record
      { starts = refl; resets = refl; nexts_are_same = nil_from_length nexts l ∙ sym (nil_from_length others m) }
  kept same [] (y ∷ ys) nexts others r s good fine some any apart distinct l m sights e = absurd cc
  kept same (x ∷ xs) [] nexts others r s good fine some any apart distinct l m sights e = absurd cc
  kept same (x ∷ xs) (y ∷ ys) nexts others r s good fine some any apart distinct l m sights e =
      some_kept same (x ∷ xs) (y ∷ ys) nexts others r s good fine some any apart distinct l m sights e

  all_kept : SameNames c d → map sight c.registers ≡ map sight d.registers → ending c ≡ ending d → Kept c.registers d.registers c.nexts d.nexts
  unfolding ending
  all_kept same sights e =
      kept same c.registers d.registers c.nexts d.nexts (codes "endmodule\n" ++ []) (codes "endmodule\n" ++ []) (all_registers c is)
      (all_registers d other) (nexts_are c is) (nexts_are d other)
      (registers_apart c is) (registers_apart d other) is.nexts_count other.nexts_count sights e

abbrev module_data : List ℕ → List VMethod → List VRegister → List VWire → List Assign → List Atom → VModuleData
module_data name methods registers wires assigns nexts = record {
  name = name;
  methods = methods;
  registers = registers;
  wires = wires;
  assigns = assigns;
  nexts = nexts;
}

pub same_contents : (c d : VModuleData) → c.name ≡ d.name → c.methods ≡ d.methods → c.registers ≡ d.registers → c.wires ≡ d.wires → c.assigns ≡ d.assigns
    → c.nexts ≡ d.nexts → c ≡ d
same_contents c d name methods registers wires assigns nexts =
    let all : module_data c.name c.methods c.registers c.wires c.assigns c.nexts ≡ module_data d.name d.methods d.registers d.wires d.assigns d.nexts = cc
    in
    all

pub one_text : (c d : VModuleData) → IsModule c → IsModule d → vtext c ≡ vtext d → c ≡ d
one_text c d is other e =
    let front = after_header c d is other e in
    let known = declared c d is other front.1 in
    let same = same_names c d known.methods known.registers known.wires in
    let lines = assigned c d is other same known.behind in
    let back = all_kept c d is other same known.registers lines.1 in
    same_contents c d front.0 known.methods (registers_from c.registers d.registers (names_from c.registers d.registers known.registers) back.starts
    back.resets) known.wires lines.0 back.nexts_are_same
