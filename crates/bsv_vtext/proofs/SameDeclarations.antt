-- The declarations of a text tell the ports, the registers' names and widths, and the wires.
use Rattle.std.proofs.Common.{◌≡◌, ◌∙◌, ℕ, ◌-◌, ◌<◌, ◌≤◌, ◌^◌, Bool, true, false, ◌||◌, ◌==◌, List, [], ◌∷◌, ◌++◌, get_or, map, flat_map, Option, Some, None, codes, decimal, refl, sym, ap, subst, append_assoc, arith}
use Rattle.std.proofs.lemmas.List.{append_cancel_left, map-id}
use Rattle.bsv_vtext.specs.declared.tree.VMethod.{VMethod}
use Rattle.bsv_vtext.specs.declared.tree.VRegister.{VRegister}
use Rattle.bsv_vtext.specs.declared.tree.VWire.{VWire}
use Rattle.bsv_vtext.specs.Signals.{VModuleData, Port, argument_ports, enable_ports, ready_port, result_ports, ports_of, ports}
use Rattle.bsv_vtext.specs.Widths.{width_fits}
use Rattle.bsv_vtext.specs.VText.{declaration, direction, port_line, register_line, wire_line, listed_port}
use Rattle.bsv_vtext.specs.Modules.{IsModule, IsMethod, IsArgument}
use Rattle.bsv_vtext.proofs.Runs.{Each, Stops, each_at, each_append, split, pieces, same_lines}
use Rattle.bsv_vtext.proofs.Glyphs.{is_glyph, same_number, fits_some, fits_below}
use Rattle.bsv_vtext.proofs.SignalNames.{IsName, IsLower, lower_is, lower_name, name_glyphs, signal_is_name, argument_is_name, enable_is_name, ready_is_name}
use Rattle.bsv_vtext.proofs.SameMethods.{same_wire}

-- ---- a declaration

-- a name and a width that a text can tell
pub record Declares (name : List ℕ) (width : ℕ) : Type 0 where
  pub named : IsName name
  pub some : 1 ≤ width
  pub below : width < 2 ^ 64

declares : (name : List ℕ) (width : ℕ) → IsName name → width_fits width ≡ true → Declares name width
declares name width is fits = record { named = is; some = fits_some width fits; below = fits_below width fits }

same_last : (m n : ℕ) → 1 ≤ m → 1 ≤ n → m - 1 ≡ n - 1 → m ≡ n
same_last m n h l e = omega arith

same_declaration : (word : List ℕ) (m n : ℕ) (a b r s : List ℕ) → Declares a m → Declares b n → declaration word m a ++ r ≡ declaration word n b ++ s
    → (a ≡ b) × ((m ≡ n) × (r ≡ s))
unfolding is_glyph
same_declaration word m n a b r s good fine e =
    let whole = pieces (word ∷ codes " [" ∷ decimal (m - 1) ∷ codes ":0] " ∷ a ∷ codes ";\n" ∷ [])
    (word ∷ codes " [" ∷ decimal (n - 1) ∷ codes ":0] " ∷ b ∷ codes ";\n" ∷ []) r s e in
    let front = append_cancel_left (codes " [") _ _ (append_cancel_left word _ _ whole) in
    let number = same_number (m - 1) (n - 1) _ _ (omega (arith, good.below)) (omega (arith, fine.below)) refl refl front in
    let name = split is_glyph a b _ _ (name_glyphs a good.named) (name_glyphs b fine.named) refl refl (append_cancel_left (codes ":0] ") _ _ number.1)
    in
    (name.0, (same_last m n good.some fine.some number.0, append_cancel_left (codes ";\n") r s name.1))

-- ---- ports

abbrev pub IsPort : Port → Type 0
IsPort p = Declares p.name p.width

arguments_are : (m : List ℕ) (args : List VWire) → IsLower m → Each IsArgument args → Each IsPort (argument_ports m args)
arguments_are m [] is all = tt
arguments_are m (a ∷ args) is all =
    (declares _ a.width (argument_is_name m a.name is (lower_is a.name all.0.name)) all.0.width, arguments_are m args is all.1)

enable_is : (m : List ℕ) (action : Bool) → IsLower m → Each IsPort (enable_ports m action)
enable_is m true is = (declares _ 1 (enable_is_name m is) refl, tt)
enable_is m false is = tt

result_is : (m : List ℕ) (o : Option ℕ) → IsLower m → ((width : ℕ) → o ≡ Some width → width_fits width ≡ true) → Each IsPort (result_ports m o)
result_is m None is fits = tt
result_is m (Some width) is fits = (declares m width (lower_name m is) (fits width refl), tt)

method_is : (m : VMethod) → IsMethod m → Each IsPort (ports_of m.name m.args m.action m.result)
method_is m is =
    let lower = lower_is m.name is.name in
    each_append IsPort (argument_ports m.name m.args) (enable_ports m.name m.action ++ (ready_port m.name ∷ result_ports m.name m.result))
    (arguments_are m.name m.args lower (each_at IsArgument m.args is.arguments))
    (each_append IsPort (enable_ports m.name m.action) (ready_port m.name ∷ result_ports m.name m.result) (enable_is m.name m.action lower)
    (declares _ 1 (ready_is_name m.name lower) refl, result_is m.name m.result lower is.result))

pub ports_are : (ms : List VMethod) → Each IsMethod ms → Each IsPort (ports ms)
ports_are [] all = tt
ports_are (m ∷ ms) all = each_append IsPort (ports_of m.name m.args m.action m.result) (ports ms) (method_is m all.0) (ports_are ms all.1)

-- ---- what tells the lines of a text apart

-- a line is told by its fifth byte
abbrev pub fifth : List ℕ → ℕ
fifth xs = get_or xs 4 0

abbrev pub Fails : (ℕ → Bool) → List ℕ → Type 0
Fails p xs = p (fifth xs) ≡ false

pub lines_fail : {X : Type 0} (p : ℕ → Bool) (line : X → List ℕ) → ((x : X) (r : List ℕ) → Fails p (line x ++ r)) → (xs : List X) (r : List ℕ)
    → Fails p r → Fails p (flat_map line xs ++ r)
lines_fail p line each [] r fails = fails
lines_fail p line each (x ∷ xs) r fails = subst (Fails p) (sym (append_assoc (line x) (flat_map line xs) r)) (each x (flat_map line xs ++ r))

-- the `p` of `  input` and the `t` of `  output`, the `g` of `  reg`, the `r` of `  wire`
abbrev pub begins_port : ℕ → Bool
begins_port b = b == 112 || b == 116

abbrev pub begins_register : ℕ → Bool
begins_register b = b == 103

abbrev pub begins_wire : ℕ → Bool
begins_wire b = b == 114

port_begins : (p : Port) (r : List ℕ) → begins_port (fifth (port_line p ++ r)) ≡ true
port_begins p r = by p.output
  where
    by : (output : Bool) → begins_port (fifth (declaration (direction output) p.width p.name ++ r)) ≡ true
    by true = refl
    by false = refl

-- ---- lists of declarations

abbrev port : Bool → List ℕ → ℕ → Port
port output name width = record { output = output; name = name; width = width }

-- the fifth bytes of an output and of an input
other_byte : ◌≡◌ {A = ℕ} 116 112 → ⊥
other_byte e = omega arith

one_port : (p q : Port) (r s : List ℕ) → IsPort p → IsPort q → port_line p ++ r ≡ port_line q ++ s → (p ≡ q) × (r ≡ s)
one_port p q r s good fine e = by p.output q.output e
  where
    by : (x y : Bool) → declaration (direction x) p.width p.name ++ r ≡ declaration (direction y) q.width q.name ++ s
        → (port x p.name p.width ≡ port y q.name q.width) × (r ≡ s)
    by true true f =
        let parts = same_declaration (codes "  output") p.width q.width p.name q.name r s good fine f in
        (cc (parts.0, parts.1.0), parts.1.1)
    by false false f =
        let parts = same_declaration (codes "  input") p.width q.width p.name q.name r s good fine f in
        (cc (parts.0, parts.1.0), parts.1.1)
    by true false f = absurd (other_byte (ap fifth f))
    by false true f = absurd (other_byte (sym (ap fifth f)))

pub same_ports : (ps qs : List Port) (r s : List ℕ) → Each IsPort ps → Each IsPort qs → Fails begins_port r → Fails begins_port s
    → flat_map port_line ps ++ r ≡ flat_map port_line qs ++ s → (ps ≡ qs) × (r ≡ s)
same_ports ps qs r s good fine stop end e =
    let parts = same_lines port_line port_line IsPort IsPort (λ (p : Port). p) (λ (xs : List ℕ). begins_port (fifth xs)) (λ (r : List ℕ). Unit {0})
    (λ p r. (port_begins p r, tt)) (λ p r. (port_begins p r, tt)) (λ p q r s good fine _ _ e. one_port p q r s good fine e) ps qs r s good fine
    (stop, tt) (end, tt) e in
    (sym (map-id ps) ∙ parts.0 ∙ map-id qs, parts.1)

-- a register as its declaration shows it
abbrev pub sight : VRegister → VWire
sight r = record { name = r.name; width = r.start.width }

abbrev pub IsSight : VRegister → Type 0
IsSight r = Declares r.name r.start.width

pub same_registers : (xs ys : List VRegister) (r s : List ℕ) → Each IsSight xs → Each IsSight ys → Fails begins_register r → Fails begins_register s
    → flat_map register_line xs ++ r ≡ flat_map register_line ys ++ s → (map sight xs ≡ map sight ys) × (r ≡ s)
same_registers xs ys r s good fine stop end e =
    same_lines register_line register_line IsSight IsSight sight (λ (xs : List ℕ). begins_register (fifth xs)) (λ (r : List ℕ). Unit {0})
    (λ x r. (refl, tt)) (λ x r. (refl, tt))
    (λ x y r s good fine _ _ e. let parts = same_declaration (codes "  reg") x.start.width y.start.width x.name y.name r s good fine e in
    (same_wire (sight x) (sight y) parts.0 parts.1.0, parts.1.1))
    xs ys r s good fine (stop, tt) (end, tt) e

abbrev pub IsDeclared : VWire → Type 0
IsDeclared w = Declares w.name w.width

pub same_wires : (xs ys : List VWire) (r s : List ℕ) → Each IsDeclared xs → Each IsDeclared ys → Fails begins_wire r → Fails begins_wire s
    → flat_map wire_line xs ++ r ≡ flat_map wire_line ys ++ s → (xs ≡ ys) × (r ≡ s)
same_wires xs ys r s good fine stop end e =
    let parts = same_lines wire_line wire_line IsDeclared IsDeclared (λ (w : VWire). w) (λ (xs : List ℕ). begins_wire (fifth xs))
    (λ (r : List ℕ). Unit {0})
    (λ x r. (refl, tt)) (λ x r. (refl, tt))
    (λ x y r s good fine _ _ e. let parts = same_declaration (codes "  wire") x.width y.width x.name y.name r s good fine e in
    (same_wire x y parts.0 parts.1.0, parts.1.1))
    xs ys r s good fine (stop, tt) (end, tt) e in
    (sym (map-id xs) ∙ parts.0 ∙ map-id ys, parts.1)

-- ---- what a module declares

pub registers_are : (c : VModuleData) → IsModule c → Each IsSight c.registers
registers_are c is = each_at IsSight c.registers (λ k r e. record {
  named = signal_is_name r.name (is.registers k r e).name;
  some = (is.registers k r e).start.some;
  below = omega (arith, (is.registers k r e).start.most);
})

pub wires_are : (c : VModuleData) → IsModule c → Each IsDeclared c.wires
wires_are c is = each_at IsDeclared c.wires (λ k w e. declares w.name w.width (signal_is_name w.name (is.wires k w e).name) (is.wires k w e).width)

-- ---- the header

begins_listed : List ℕ → Bool
begins_listed [] = false
begins_listed (b ∷ bs) = b == 44

listed_begins : (p : Port) (r : List ℕ) → (begins_listed (listed_port p ++ r) ≡ true) × Stops is_glyph (listed_port p ++ r)
unfolding begins_listed is_glyph
listed_begins p r = (refl, refl)

listed_end : (r : List ℕ) → (begins_listed (codes ");\n" ++ r) ≡ false) × Stops is_glyph (codes ");\n" ++ r)
unfolding begins_listed is_glyph
listed_end r = (refl, refl)

one_listed : (p q : Port) (r s : List ℕ) → IsPort p → IsPort q → Stops is_glyph r → Stops is_glyph s → listed_port p ++ r ≡ listed_port q ++ s
    → (p.name ≡ q.name) × (r ≡ s)
one_listed p q r s good fine stop end e =
    split is_glyph p.name q.name r s (name_glyphs p.name good.named) (name_glyphs q.name fine.named) stop end
    (append_cancel_left (codes ", ") (p.name ++ r) (q.name ++ s) e)

pub same_listed : (ps qs : List Port) (r s : List ℕ) → Each IsPort ps → Each IsPort qs
    → flat_map listed_port ps ++ (codes ");\n" ++ r) ≡ flat_map listed_port qs ++ (codes ");\n" ++ s) → r ≡ s
same_listed ps qs r s good fine e =
    let parts = same_lines listed_port listed_port IsPort IsPort (λ (p : Port). p.name) begins_listed (Stops is_glyph) listed_begins listed_begins
    one_listed
    ps qs (codes ");\n" ++ r) (codes ");\n" ++ s) good fine (listed_end r) (listed_end s) e in
    append_cancel_left (codes ");\n") r s parts.1
