-- No two signals of a module that is that of a design have one name.
use Rattle.std.proofs.Common.{◌≡◌, ◌∙◌, ℕ, ◌+◌, ◌^◌, ◌<◌, Bool, true, false, if◌then◌else◌, List, ◌∷◌, ◌++◌, map, length, Option, Some, None, refl, sym, ap, ap₂, subst, arith, codes}
use Rattle.std.specs.Prelude.{slice_get, decimal}
use Rattle.std.specs.List.{list_all}
use Rattle.std.specs.Option.{option_map}
use Rattle.std.proofs.lemmas.Bool.{and_parts}
use Rattle.std.proofs.lemmas.Fmt.{decimal_injective}
use Rattle.std.proofs.lemmas.List.{append_cancel_left}
use Rattle.std.proofs.lemmas.Option.{slice_get_within, same_Some}
use Rattle.bsv_lemmas.proofs.Places.{mapped_at}
use Rattle.bsv_ast.specs.Names.{is_lower}
use Rattle.bsv_types.specs.Names.{distinct}
use Rattle.bsv_design.specs.design.Designs.{DesignData, IsDesign}
use Rattle.bsv_design.specs.scheme.Schemes.{outline}
use Rattle.bsv_vtext.specs.declared.tree.VMethod.{VMethod}
use Rattle.bsv_vtext.specs.declared.tree.VRegister.{VRegister}
use Rattle.bsv_vtext.specs.declared.tree.VWire.{VWire}
use Rattle.bsv_vtext.specs.Modules.{Signal, Clock, Reset, Enable, Argument, Ready, Result, Register, Wire, signal_name, name_of_enable, name_of_argument, name_of_result}
use Rattle.bsv_vtext.specs.Signals.{VModuleData, argument_name, enable_name, ready_name, fire_name}
use Rattle.bsv_vgen.specs.Interfaces.{IsModuleOf, argument_of}
use Rattle.bsv_vgen.specs.Names.{verilog_name, part_names, numbered_from, fire_wires}
use Rattle.bsv_vgen.proofs.VerilogPaths.{path_told, dotted_route, verilog_same}
use Rattle.bsv_vgen.proofs.Places.{Found, in_first, in_second, made_of, before, fires_before, fire_at}
use Rattle.bsv_vgen.proofs.Spellings.{Sort, Clocks, Resets, Enables, Arguments, Readies, Results, Registers, Wires, sort, clock_sort, reset_sort, enable_sort, argument_sort, ready_sort, result_sort, register_sort, numbered_sort, fire_sort, argument_told, numbered_or_fire}
use Rattle.bsv_vgen.proofs.Suffixes.{suffix_at, suffix_same}
use Rattle.bsv_vgen.proofs.NamesRight.{method_of, method_right, argument_right, RegisterOf, register_at, register_small, register_after, wire_at, wire_numbered, wire_route}
use Rattle.bsv_types.proofs.Distinct.{distinct_places}

-- ---- sorts of signals

abbrev sort_of : Signal → Sort
sort_of Clock = Clocks
sort_of Reset = Resets
sort_of (Enable m) = Enables
sort_of (Argument m k) = Arguments
sort_of (Ready m) = Readies
sort_of (Result m) = Results
sort_of (Register k) = Registers
sort_of (Wire k) = Wires

abbrev place_of : Signal → ℕ
place_of Clock = 0
place_of Reset = 0
place_of (Enable m) = m
place_of (Argument m k) = m
place_of (Ready m) = m
place_of (Result m) = m
place_of (Register k) = k
place_of (Wire k) = k

abbrev inner_of : Signal → ℕ
inner_of (Argument m k) = k
inner_of _ = 0

abbrev signal_at : Sort → ℕ → ℕ → Signal
signal_at Clocks i j = Clock
signal_at Resets i j = Reset
signal_at Enables i j = Enable i
signal_at Arguments i j = Argument i j
signal_at Readies i j = Ready i
signal_at Results i j = Result i
signal_at Registers i j = Register i
signal_at Wires i j = Wire i

told : (x : Signal) → signal_at (sort_of x) (place_of x) (inner_of x) ≡ x
told Clock = refl
told Reset = refl
told (Enable m) = refl
told (Argument m k) = refl
told (Ready m) = refl
told (Result m) = refl
told (Register k) = refl
told (Wire k) = refl

-- ---- where a signal has a name

-- what an option that is mapped holds
record Mapped {A B : Type 0} (f : A → B) (o : Option A) (y : B) : Type 0 where
  from : A
  at : o ≡ Some from
  is : f from ≡ y

mapped_of : {A B : Type 0} (f : A → B) (o : Option A) (y : B) → option_map f o ≡ Some y → Mapped f o y
mapped_of f None y e = absurd cc
mapped_of f (Some x) y e = record { from = x; at = refl; is = same_Some (f x) y e }

record Enabled (o : Option VMethod) (name : List ℕ) : Type 0 where
  method : VMethod
  at : o ≡ Some method
  is : enable_name method.name ≡ name

enabled_of : (o : Option VMethod) (name : List ℕ) → name_of_enable o ≡ Some name → Enabled o name
enabled_of None name e = absurd cc
enabled_of (Some v) name e = record { method = v; at = refl; is = by v.action e } where
  by : (acts : Bool) → (if acts then Some (enable_name v.name) else None) ≡ Some name → enable_name v.name ≡ name
  by true f = same_Some (enable_name v.name) name f
  by false f = absurd cc

record Argued (o : Option VMethod) (k : ℕ) (name : List ℕ) : Type 0 where
  method : VMethod
  at : o ≡ Some method
  argument : VWire
  has : slice_get method.args k ≡ Some argument
  is : argument_name method.name argument.name ≡ name

argued_of : (o : Option VMethod) (k : ℕ) (name : List ℕ) → name_of_argument o k ≡ Some name → Argued o k name
argued_of None k name e = absurd cc
argued_of (Some v) k name e =
    let a = mapped_of (λ (a : VWire). argument_name v.name a.name) (slice_get v.args k) name e in
    record { method = v; at = refl; argument = a.from; has = a.at; is = a.is }

record Giving (o : Option VMethod) (name : List ℕ) : Type 0 where
  method : VMethod
  at : o ≡ Some method
  is : method.name ≡ name

giving_of : (o : Option VMethod) (name : List ℕ) → name_of_result o ≡ Some name → Giving o name
giving_of None name e = absurd cc
giving_of (Some v) name e = record { method = v; at = refl; is = (mapped_of (λ (w : ℕ). v.name) v.result name e).is }

module _ (b : DesignData) (right : IsDesign b) (m : VModuleData) (made : IsModuleOf b.name b.parts (map outline b.elements) m)
    (few_registers : length m.registers < 2 ^ 64) (few_wires : length m.wires < 2 ^ 64) where
  -- ---- the sort of each name

  lower : (k : ℕ) (v : VMethod) → slice_get m.methods k ≡ Some v → is_lower v.name ≡ true
  lower = method_right b right m made few_registers few_wires

  register : (k : ℕ) (r : VRegister) → slice_get m.registers k ≡ Some r → RegisterOf b.parts k r.name
  register = register_at b right m made few_registers few_wires

  wire : (k : ℕ) (w : VWire) → slice_get m.wires k ≡ Some w → Found (numbered_from 0 made.widths) (fire_wires (map outline b.elements)) k w
  wire = wire_at b right m made few_registers few_wires

  numbered : (k : ℕ) (w : VWire) → slice_get (numbered_from 0 made.widths) k ≡ Some w → w.name ≡ codes "N" ++ decimal k
  numbered = wire_numbered b right m made few_registers few_wires

  sort_register : (k : ℕ) (r : VRegister) → slice_get m.registers k ≡ Some r → sort r.name ≡ Registers
  sort_register k r e =
      let o = register k r e in
      let s = register_after b right m made few_registers few_wires k r e o in
      ap sort (sym o.is ∙ ap (λ (t : List ℕ). verilog_name o.part.path ++ t) s.is)
      ∙ register_sort o.part.path s.rest (dotted_route o.part.path (right.paths o.number o.part o.at)) s.capital

  sort_wire : (k : ℕ) (w : VWire) → Found (numbered_from 0 made.widths) (fire_wires (map outline b.elements)) k w → sort w.name ≡ Wires
  sort_wire k w (in_first f) = ap sort (numbered k w f) ∙ numbered_sort (decimal k)
  sort_wire k w (in_second j is f) =
      let h = fire_at (map outline b.elements) j w f in
      ap (λ (x : VWire). sort x.name) (sym h.is) ∙ fire_sort (verilog_name h.outline.name)

  sorted : (x : Signal) (name : List ℕ) → signal_name m x ≡ Some name → sort name ≡ sort_of x
  sorted Clock name e = ap sort (sym (same_Some (codes "CLK") name e)) ∙ clock_sort
  sorted Reset name e = ap sort (sym (same_Some (codes "RST_N") name e)) ∙ reset_sort
  sorted (Enable k) name e = let o = enabled_of (slice_get m.methods k) name e in ap sort (sym o.is) ∙ enable_sort o.method.name
  sorted (Argument k j) name e =
      let o = argued_of (slice_get m.methods k) j name e in
      let a = argument_right b right m made few_registers few_wires k j o.method o.argument o.at o.has in
      ap sort (sym o.is) ∙ argument_sort o.method.name o.argument.name (lower k o.method o.at) a.name
  sorted (Ready k) name e =
      let o = mapped_of (λ (v : VMethod). ready_name v.name) (slice_get m.methods k) name e in ap sort (sym o.is) ∙ ready_sort o.from.name
  sorted (Result k) name e =
      let o = giving_of (slice_get m.methods k) name e in ap sort (sym o.is) ∙ result_sort o.method.name (lower k o.method o.at)
  sorted (Register k) name e =
      let o = mapped_of (λ (r : VRegister). r.name) (slice_get m.registers k) name e in ap sort (sym o.is) ∙ sort_register k o.from o.at
  sorted (Wire k) name e =
      let o = mapped_of (λ (w : VWire). w.name) (slice_get m.wires k) name e in ap sort (sym o.is) ∙ sort_wire k o.from (wire k o.from o.at)

  -- ---- two of one sort

  methods_apart : (k l : ℕ) (v w : VMethod) → slice_get m.methods k ≡ Some v → slice_get m.methods l ≡ Some w → v.name ≡ w.name → k ≡ l
  methods_apart k l v w e f same =
      let o = method_of b right m made few_registers few_wires k v e in
      let p = method_of b right m made few_registers few_wires l w f in
      right.apart k l o.element p.element o.at p.at (sym o.is.name ∙ same ∙ p.is.name)

  arguments_apart : (k i j : ℕ) (v : VMethod) (a c : VWire) → slice_get m.methods k ≡ Some v → slice_get v.args i ≡ Some a
      → slice_get v.args j ≡ Some c → a.name ≡ c.name → i ≡ j
  arguments_apart k i j v a c e f g same =
      let o = method_of b right m made few_registers few_wires k v e in
      let ports = o.element.arguments in
      let left = made_of argument_of ports i a (ap (λ xs. slice_get xs i) (sym o.is.arguments) ∙ f) in
      let other = made_of argument_of ports j c (ap (λ xs. slice_get xs j) (sym o.is.arguments) ∙ g) in
      let names = (right.elements k o.element o.at).arguments in
      let parts = and_parts (list_all is_lower (map (λ p. p.name) ports)) (distinct (map (λ p. p.name) ports)) names in
      let one : left.from.name ≡ a.name = ap (λ (x : VWire). x.name) left.is in
      let two : other.from.name ≡ a.name = ap (λ (x : VWire). x.name) other.is ∙ sym same in
      distinct_places (map (λ p. p.name) ports) i j a.name parts.1 (mapped_at (λ p. p.name) ports i left.from left.at ∙ ap Some one)
      (mapped_at (λ p. p.name) ports j other.from other.at ∙ ap Some two)

  argued_apart : (k l i j : ℕ) (name : List ℕ) → Argued (slice_get m.methods k) i name → Argued (slice_get m.methods l) j name
      → Argument k i ≡ Argument l j
  argued_apart k l i j name o p =
      let parts = argument_told o.method.name p.method.name o.argument.name p.argument.name (lower k o.method o.at) (lower l p.method p.at)
      (o.is ∙ sym p.is) in
      let one = methods_apart k l o.method p.method o.at p.at parts.0 in
      let same : p.method ≡ o.method = same_Some p.method o.method (sym p.at ∙ ap (slice_get m.methods) (sym one) ∙ o.at) in
      let has = subst (λ (v : VMethod). slice_get v.args j ≡ Some p.argument) same p.has in
      ap₂ Argument one (arguments_apart k i j o.method o.argument p.argument o.at o.has has parts.1)

  registers_apart : (k l : ℕ) (r s : VRegister) → slice_get m.registers k ≡ Some r → slice_get m.registers l ≡ Some s → r.name ≡ s.name → k ≡ l
  registers_apart k l r s e f same =
      let o = register k r e in
      let p = register l s f in
      let x = register_after b right m made few_registers few_wires k r e o in
      let y = register_after b right m made few_registers few_wires l s f p in
      let first = sym (ap (λ (t : List ℕ). verilog_name o.part.path ++ t) x.is) ∙ o.is in
      let second = sym (ap (λ (t : List ℕ). verilog_name p.part.path ++ t) y.is) ∙ p.is in
      let parts = path_told o.part.path p.part.path x.rest y.rest (dotted_route o.part.path (right.paths o.number o.part o.at))
      (dotted_route p.part.path (right.paths p.number p.part p.at)) x.capital y.capital (first ∙ same ∙ sym second) in
      let number = right.parts_apart o.number p.number o.part p.part o.at p.at parts.0 in
      let suffix : o.suffix ≡ p.suffix = x.is ∙ ap (λ (t : List ℕ). 36 ∷ t) parts.1 ∙ sym y.is in
      let inner = suffix_same o.inner p.inner p.suffix (register_small b right m made few_registers few_wires k r e o)
      (register_small b right m made few_registers few_wires l s f p)
      (suffix_at o.part.kind o.inner p.suffix (o.has ∙ ap Some suffix)) (suffix_at p.part.kind p.inner p.suffix p.has) in
      o.place ∙ ap₂ (λ (n i : ℕ). before part_names b.parts n + i) number inner ∙ sym p.place

  wires_apart : (k l : ℕ) (v w : VWire) → k < 2 ^ 64 → l < 2 ^ 64 → Found (numbered_from 0 made.widths) (fire_wires (map outline b.elements)) k v
      → Found (numbered_from 0 made.widths) (fire_wires (map outline b.elements)) l w → v.name ≡ w.name → k ≡ l
  wires_apart k l v w p q (in_first e) (in_first f) same =
      decimal_injective k l p q (append_cancel_left (codes "N") (decimal k) (decimal l) (sym (numbered k v e) ∙ same ∙ numbered l w f))
  wires_apart k l v w p q (in_first e) (in_second j at f) same =
      let h = fire_at (map outline b.elements) j w f in
      absurd (numbered_or_fire (decimal k) (verilog_name h.outline.name) (sym (numbered k v e) ∙ same ∙ ap (λ (x : VWire). x.name) (sym h.is)))
  wires_apart k l v w p q (in_second i is e) (in_first f) same =
      let h = fire_at (map outline b.elements) i v e in
      absurd (numbered_or_fire (decimal l) (verilog_name h.outline.name) (sym (numbered l w f) ∙ sym same ∙ ap (λ (x : VWire). x.name) (sym h.is)))
  wires_apart k l v w p q (in_second i is e) (in_second j at f) same =
      let g = fire_at (map outline b.elements) i v e in
      let h = fire_at (map outline b.elements) j w f in
      let x = made_of outline b.elements g.number g.outline g.at in
      let y = made_of outline b.elements h.number h.outline h.at in
      let names : fire_name (verilog_name g.outline.name) ≡ fire_name (verilog_name h.outline.name) =
      ap (λ (z : VWire). z.name) g.is ∙ same ∙ ap (λ (z : VWire). z.name) (sym h.is) in
      let paths = verilog_same g.outline.name h.outline.name (wire_route b right m made few_registers few_wires i v g)
      (wire_route b right m made few_registers few_wires j w h)
      (append_cancel_left (codes "WILL_FIRE_") (verilog_name g.outline.name) (verilog_name h.outline.name) names) in
      let number = right.apart g.number h.number x.from y.from x.at y.at
      (ap (λ o. o.name) x.is ∙ paths ∙ ap (λ o. o.name) (sym y.is)) in
      is ∙ ap (λ n. length (numbered_from 0 made.widths) + n) (g.place ∙ ap (fires_before (map outline b.elements)) number ∙ sym h.place) ∙ sym at

  -- ---- all of them

  one_sort : (s : Sort) (i j k l : ℕ) (name : List ℕ) → signal_name m (signal_at s i j) ≡ Some name → signal_name m (signal_at s k l) ≡ Some name
      → signal_at s i j ≡ signal_at s k l
  one_sort Clocks i j k l name e f = refl
  one_sort Resets i j k l name e f = refl
  one_sort Enables i j k l name e f =
      let o = enabled_of (slice_get m.methods i) name e in
      let p = enabled_of (slice_get m.methods k) name f in
      ap Enable (methods_apart i k o.method p.method o.at p.at (append_cancel_left (codes "EN_") o.method.name p.method.name (o.is ∙ sym p.is)))
  one_sort Arguments i j k l name e f =
      argued_apart i k j l name (argued_of (slice_get m.methods i) j name e) (argued_of (slice_get m.methods k) l name f)
  one_sort Readies i j k l name e f =
      let o = mapped_of (λ (v : VMethod). ready_name v.name) (slice_get m.methods i) name e in
      let p = mapped_of (λ (v : VMethod). ready_name v.name) (slice_get m.methods k) name f in
      ap Ready (methods_apart i k o.from p.from o.at p.at (append_cancel_left (codes "RDY_") o.from.name p.from.name (o.is ∙ sym p.is)))
  one_sort Results i j k l name e f =
      let o = giving_of (slice_get m.methods i) name e in
      let p = giving_of (slice_get m.methods k) name f in
      ap Result (methods_apart i k o.method p.method o.at p.at (o.is ∙ sym p.is))
  one_sort Registers i j k l name e f =
      let o = mapped_of (λ (r : VRegister). r.name) (slice_get m.registers i) name e in
      let p = mapped_of (λ (r : VRegister). r.name) (slice_get m.registers k) name f in
      ap Register (registers_apart i k o.from p.from o.at p.at (o.is ∙ sym p.is))
  one_sort Wires i j k l name e f =
      let o = mapped_of (λ (w : VWire). w.name) (slice_get m.wires i) name e in
      let p = mapped_of (λ (w : VWire). w.name) (slice_get m.wires k) name f in
      let few : i < 2 ^ 64 = omega (arith, slice_get_within m.wires i o.from o.at) in
      let also : k < 2 ^ 64 = omega (arith, slice_get_within m.wires k p.from p.at) in
      ap Wire (wires_apart i k o.from p.from few also (wire i o.from o.at) (wire k p.from p.at) (o.is ∙ sym p.is))

  named : (x : Signal) (s : Sort) (name : List ℕ) → sort_of x ≡ s → signal_name m x ≡ Some name
      → (signal_name m (signal_at s (place_of x) (inner_of x)) ≡ Some name) × (signal_at s (place_of x) (inner_of x) ≡ x)
  named x s name is e =
      let same : signal_at s (place_of x) (inner_of x) ≡ x = ap (λ t. signal_at t (place_of x) (inner_of x)) (sym is) ∙ told x in
      (ap (signal_name m) same ∙ e, same)

  pub apart : (x y : Signal) (name : List ℕ) → signal_name m x ≡ Some name → signal_name m y ≡ Some name → x ≡ y
  apart x y name e f =
      let a = named x (sort name) name (sym (sorted x name e)) e in
      let c = named y (sort name) name (sym (sorted y name f)) f in
      sym a.1 ∙ one_sort (sort name) (place_of x) (inner_of x) (place_of y) (inner_of y) name a.0 c.0 ∙ c.1
