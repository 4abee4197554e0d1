-- The module of a design and of its net is one of the profile, has the names and the ports of the design, and computes what
-- the net does.
use Rattle.std.proofs.Common.{◌≡◌, ◌∙◌, ℕ, zero, suc, ◌+◌, ◌-◌, ◌<◌, ◌≤◌, ◌^◌, Bool, true, false, ◌&&◌, cond, not, IsTrue, List, [], ◌∷◌, ◌++◌, length, map, Option, Some, None, refl, sym, ap, ap₂, subst, arith, length-append, append-nil, ◌⊎◌, inl, inr}
use Rattle.std.specs.Prelude.{slice_get, option_map, nat_le, nat_lt}
use Rattle.std.specs.Option.{option_and_then}
use Rattle.std.specs.List.{list_all}
use Rattle.std.proofs.lemmas.Bool.{and_parts, leb-true, ltb-true, ltb-false, cases_Bool}
use Rattle.std.proofs.Math.Pow.{pow_pos}
use Rattle.std.proofs.Math.Logic.{∥∥₁_elim}
use Rattle.std.proofs.lemmas.List.{length-map}
use Rattle.std.proofs.lemmas.Option.{same_Some, slice_get_within, slice_get-map, slice_get_past}
use Rattle.bsv_lemmas.proofs.Places.{mapped_at, at_right, item_there}
use Rattle.bsv_bits.specs.Words.{Bits, bit}
use Rattle.bsv_prim.specs.Table.{IsWordOf}
use Rattle.bsv_prim.specs.declared.primitive.RegisterInfo.{RegisterInfo}
use Rattle.bsv_design.specs.declared.element.Element.{Element}
use Rattle.bsv_design.specs.design.Bodies.{at}
use Rattle.bsv_design.specs.design.Designs.{DesignData, IsDesign}
use Rattle.bsv_design.specs.design.Words as the_words
use Rattle.bsv_design.specs.declared.element.Role.{Role}
use Rattle.bsv_design.specs.declared.element.Role.TheVariants as role
use Rattle.bsv_design.specs.design.Roles.{is_rule, is_value, gives_value}
use Rattle.bsv_design.specs.scheme.Schemes.{Outline, outline}
use Rattle.bsv_design.specs.scheme.States.{methods_in}
use Rattle.bsv_design.specs.design.Widths.{has_width}
use Rattle.bsv_guard.specs.Fitting.{HaveWidths}
use Rattle.bsv_guard.proofs.BodyFits.{width_is}
use Rattle.bsv_guard.proofs.Lists.{holds_at_all, item_of}
use Rattle.bsv_net.specs.declared.net_data.NetData.{NetData}
use Rattle.bsv_net.specs.Nets.{IsNet, is_bit, is_within, names, nexts_fit, register_widths, words}
use Rattle.bsv_net.specs.Nets as nets
use Rattle.bsv_net.specs.Equations.{Satisfies}
use Rattle.bsv_net.proofs.RegisterWidths.{starts_have}
use Rattle.bsv_net.proofs.Solution.{satisfies, words_have, same_length}
use Rattle.bsv_net.specs.ShowsByNet.{gives}
use Rattle.bsv_clock.specs.Shows as carrying
use Rattle.bsv_clock.specs.Shows.{cells_of, input_widths_of}
use Rattle.bsv_vtext.specs.declared.tree.Assign.{Assign}
use Rattle.bsv_vtext.specs.declared.tree.Atom.{Atom}
use Rattle.bsv_vtext.specs.declared.tree.Atom.TheVariants as atom
use Rattle.bsv_vtext.specs.declared.tree.Target.{Target}
use Rattle.bsv_vtext.specs.declared.tree.Target.TheVariants as target
use Rattle.bsv_vtext.specs.declared.tree.VMethod.{VMethod}
use Rattle.bsv_vtext.specs.declared.tree.VRegister.{VRegister}
use Rattle.bsv_vtext.specs.declared.tree.VWire.{VWire}
use Rattle.bsv_vtext.specs.Modules.{IsModule, IsAtom, IsAssign, IsAssigned, Stands}
use Rattle.bsv_vtext.specs.Signals.{VModuleData}
use Rattle.bsv_vtext.specs.VClock.{Inputs, Nets, atom_word, side_word}
use Rattle.bsv_vtext.specs.Widths.{target_width, width_fits}
use Rattle.bsv_vgen.specs.declared.known.Known.{Known}
use Rattle.bsv_vgen.specs.ShowsByModule.{TellsFire}
use Rattle.bsv_vgen.specs.Interfaces.{IsMethodOf, IsModuleOf, argument_of}
use Rattle.bsv_vgen.specs.Lines.{Written, Nodes, or_nothing, known_at}
use Rattle.bsv_vgen.specs.Modules.{assign, inputs, known_of, lines, method_of, module_with, nothing_written, outputs_from, result_of, told_at, with_fires}
use Rattle.bsv_vgen.specs.Names.{register_names, fire_wires}
use Rattle.bsv_vgen.proofs.Cells.{name_count, cells_same, names_same, registers_count, register_is, register_width}
use Rattle.bsv_vgen.proofs.Computes.{input_words, Computes}
use Rattle.bsv_vgen.proofs.Fires.{fires_wires, fires_many, fires_before, fires_right, fires_told}
use Rattle.bsv_vgen.proofs.Forward.{IsNumbered, nodes_numbered, widths_of}
use Rattle.bsv_vgen.proofs.Fronts.{Reaches, AreRight, none_right, stands_later}
use Rattle.bsv_vgen.proofs.Inputs.{Inner, inner_at, inputs_inner}
use Rattle.bsv_vgen.proofs.Knowing.{constant_stands, fits_width}
use Rattle.bsv_vgen.proofs.Methods.{among_all, is_among, ports_there, ports_are, ports_count, are_its_ports}
use Rattle.bsv_vgen.proofs.NodesRight.{AreNodesRight, nodes_right}
use Rattle.bsv_vgen.proofs.NodesTold.{AreTold, nodes_told}
use Rattle.bsv_vgen.proofs.Outputs.{IsOutput, IsOutputIn, IsPlaced, ready, result, is_output, ready_placed, result_placed, outputs_once}
use Rattle.bsv_vgen.proofs.NamesApart.{apart}
use Rattle.bsv_vgen.proofs.NamesRight.{name_right, method_right, argument_right, register_right, wire_right, wire_fires, fires}
use Rattle.bsv_vgen.proofs.Told.{Solved}
use Rattle.bsv_design.specs.design.Words.{or_zero}
use Rattle.bsv_clock.proofs.Propositions.{bits_set}

-- ---- the widths of a net

zero_words : (us : List ℕ) → list_all nets.width_fits us ≡ true → (vs : List Bits) × HaveWidths us vs
zero_words [] h = ([], tt)
zero_words (u ∷ us) h =
    let both = and_parts (nets.width_fits u) (list_all nets.width_fits us) h in
    let bounds = and_parts (nat_le 1 u) (nat_le u 128) both.0 in
    let rest = zero_words us both.1 in
    let w : Bits = record { width = u; value = 0 } in
    (w ∷ rest.0, (record { word = record { some = leb-true 1 u bounds.0; most = leb-true u 128 bounds.1; below = pow_pos u }; same_width = refl }, rest.1))

bit_word : IsWordOf 1 (bit false)
bit_word = record { word = record { some = omega arith; most = omega arith; below = omega arith }; same_width = refl }

none_past : {A : Type 0} (xs : List A) (k : ℕ) → slice_get xs k ≡ None → length xs ≤ k
none_past [] k e = omega arith
none_past (x ∷ xs) zero e = absurd (let h : ⊥ = cc in h)
none_past (x ∷ xs) (suc k) e = let l = none_past xs k e in omega (arith, l)

-- what is beside the nodes of a net
record IsOrdered (us : List ℕ) (c : NetData) : Type 0 where
  inputs : list_all nets.width_fits c.inputs ≡ true
  nexts : nexts_fit us c.nexts c.registers ≡ true
  fires : list_all (is_bit us) c.fires ≡ true
  readies : list_all (is_bit us) c.readies ≡ true

ordered : (c : NetData) (right : IsNet c) → IsOrdered right.widths c
ordered c right =
    let us : List ℕ = right.widths in
    let a = and_parts (list_all nets.width_fits c.inputs && nexts_fit us c.nexts c.registers && list_all (is_bit us) c.fires && list_all (is_bit us) c.readies && list_all (names us) c.results) (list_all (list_all (nets.is_site us)) c.sites) right.in_order in
    let b = and_parts (list_all nets.width_fits c.inputs && nexts_fit us c.nexts c.registers && list_all (is_bit us) c.fires && list_all (is_bit us) c.readies) (list_all (names us) c.results) a.0 in
    let d = and_parts (list_all nets.width_fits c.inputs && nexts_fit us c.nexts c.registers && list_all (is_bit us) c.fires) (list_all (is_bit us) c.readies) b.0 in
    let e = and_parts (list_all nets.width_fits c.inputs && nexts_fit us c.nexts c.registers) (list_all (is_bit us) c.fires) d.0 in
    let f = and_parts (list_all nets.width_fits c.inputs) (nexts_fit us c.nexts c.registers) e.0 in
    record { inputs = f.0; nexts = f.1; fires = e.1; readies = d.1 }

-- each width is one that a word may have
widths_bound : (c : NetData) (right : IsNet c) (k u : ℕ) → slice_get right.widths k ≡ Some u → (1 ≤ u) × (u ≤ 128)
widths_bound c right k u there =
    let zero = zero_words c.inputs (ordered c right).inputs in
    let own = (satisfies c right zero.0 (map (λ (r : RegisterInfo). r.start) c.registers) zero.1 (starts_have c.registers)).fits k u there in
    (subst (λ (n : ℕ). 1 ≤ n) own.same_width own.word.some, subst (λ (n : ℕ). n ≤ 128) own.same_width own.word.most)

-- the next words have the widths of their registers
next_width : (us : List ℕ) (ns : List ℕ) (rs : List RegisterInfo) → nexts_fit us ns rs ≡ true → (k n : ℕ) (r : RegisterInfo) → slice_get ns k ≡ Some n → slice_get rs k ≡ Some r
    → slice_get us n ≡ Some r.width
next_width us [] rs h k n r there e = absurd (let i : ⊥ = cc in i)
next_width us (x ∷ ns) [] h k n r there e = absurd (let i : ⊥ = cc in i)
next_width us (x ∷ ns) (y ∷ rs) h zero n r there e =
    let both = and_parts (has_width (slice_get us x) y.width) (nexts_fit us ns rs) h in
    let own = width_is (slice_get us x) y.width both.0 in
    ap (slice_get us) (sym (same_Some x n there)) ∙ own ∙ ap (λ (z : RegisterInfo). Some z.width) (same_Some y r e)
next_width us (x ∷ ns) (y ∷ rs) h (suc k) n r there e =
    next_width us ns rs (and_parts (has_width (slice_get us x) y.width) (nexts_fit us ns rs) h).1 k n r there e

next_count : (us : List ℕ) (ns : List ℕ) (rs : List RegisterInfo) → nexts_fit us ns rs ≡ true → length ns ≡ length rs
next_count us [] [] h = refl
next_count us [] (r ∷ rs) h = absurd (let i : ⊥ = cc in i)
next_count us (n ∷ ns) [] h = absurd (let i : ⊥ = cc in i)
next_count us (n ∷ ns) (r ∷ rs) h = ap suc (next_count us ns rs (and_parts (has_width (slice_get us n) r.width) (nexts_fit us ns rs) h).1)

module _ (b : DesignData) (c : NetData)
    (cells : map carrying.cell c.registers ≡ cells_of (map (λ p. p.kind) b.parts)) (widths : c.inputs ≡ input_widths_of (map outline b.elements)) where
  abbrev N : Nodes
  N = lines b c

  abbrev ks : List Known
  ks = N.known

  abbrev F : Written
  F = with_fires ks c.fires 0 b.elements N.written

  abbrev methods : List Element
  methods = methods_in b.elements

  abbrev outputs : List Assign
  outputs = outputs_from ks c 0 methods

  abbrev pub m : VModuleData
  m = module_with b c N

  -- ---- registers

  names_count : length (register_names b.parts) ≡ length c.registers
  names_count =
      name_count b.parts ∙ ap length (sym cells) ∙ length-map c.registers carrying.cell

  register_atom : (k : ℕ) (r : RegisterInfo) → slice_get c.registers k ≡ Some r → IsAtom m (atom.Register k) r.width
  register_atom k r there = record { has_width = register_width (register_names b.parts) c.registers names_count k r there; word = tt }

  -- ---- inputs

  has_ports : (j : ℕ) (e : Element) → slice_get methods j ≡ Some e
      → (v : VMethod) × (slice_get m.methods (0 + j) ≡ Some v) × (v.args ≡ map argument_of e.arguments) × (v.action ≡ not (is_value e.role))
  has_ports j e there =
      let place : 0 + j ≡ j = omega arith in
      (method_of ks c (0 + j) e, ap (slice_get m.methods) place ∙ ports_there ks c methods 0 j e there, refl, refl)

  inner : Inner m (inputs b) c.inputs
  unfolding inputs
  inner = subst (Inner m (inputs b)) (sym widths) (inputs_inner m 0 b.elements has_ports)

  -- ---- lines

  numbered : IsNumbered N.written
  unfolding lines
  numbered = nodes_numbered (inputs b) c.registers c.nodes

  many : length F.assigns ≡ length F.wires
  many = fires_many ks c.fires 0 b.elements N.written numbered.as_many

  output_at : (j : ℕ) (x : Assign) → slice_get outputs j ≡ Some x → slice_get m.assigns (length F.wires + j) ≡ Some x
  output_at j x there =
      let same : length F.wires + j ≡ length F.assigns + j = (let e = many in omega (arith, e)) in
      ap (slice_get m.assigns) same ∙ at_right F.assigns outputs j ∙ there

  reaches_fires : Reaches m F
  reaches_fires = record {
    as_many = fires_many ks c.fires 0 b.elements N.written numbered.as_many;
    more_wires = [];
    wires = sym (append-nil F.wires);
    more_assigns = outputs;
    assigns = refl;
  }

  reaches_nodes : Reaches m N.written
  reaches_nodes = fires_before m ks c.fires 0 b.elements N.written reaches_fires

  -- ---- the names and the ports are those of the design

  pub is_its_module : ∥ IsDesign b ∥₁ → IsModuleOf b.name b.parts (map outline b.elements) m
  is_its_module design = record {
    name_is = refl;
    methods = λ n o there own.
        let h = item_of outline b.elements n o there in
        let among = is_among b design n h.item h.is (ap (λ (x : Outline). is_rule x.role) h.gives ∙ own) in
        record {
          method = method_of ks c (0 + n) h.item;
          at = ports_there ks c methods 0 n h.item among;
          is = subst (λ (x : Outline). IsMethodOf x (method_of ks c (0 + n) h.item)) h.gives (are_its_ports ks c (0 + n) h.item);
        };
    no_more = λ n v there.
        let h = ports_are ks c methods 0 n v there in
        let all = among_all b.elements n h.element h.at in
        record { outline = outline h.element; at = mapped_at outline b.elements n h.element all.0; method = all.1 };
    registers = names_same (register_names b.parts) c.registers names_count;
    cells = cells_same (register_names b.parts) c.registers names_count ∙ cells;
    widths = widths_of N.written.wires;
    wires = fires_wires ks c.fires 0 b.elements N.written
        ∙ ap (λ (vs : List VWire). vs ++ fire_wires (map outline b.elements)) numbered.numbered;
  }

  pub methods_count : length m.methods ≡ length methods
  methods_count = ports_count ks c methods 0

  -- ---- the lines are right, where the net is in order

  module _ (right : IsNet c) where
    abbrev us : List ℕ
    us = right.widths

    nodes_are : AreNodesRight m us N
    unfolding lines
    nodes_are =
        nodes_right m (inputs b) c.inputs c.registers (λ n k u there. inner_at m (inputs b) c.inputs inner n k u there) register_atom c.nodes nothing_written us right.nodes
        (widths_bound c right) right.within (none_right m) reaches_nodes

    -- ---- what is told

    -- what is known of a place has its own width, whether there is a node or not
    known_stands : (n : ℕ) → length N.written.wires ≤ n → (p : ℕ) → Stands m n (known_at ks p).atom (known_at ks p).width
    known_stands n long p = of (slice_get us p) refl
      where
        of : (o : Option ℕ) → slice_get us p ≡ o → Stands m n (known_at ks p).atom (known_at ks p).width
        of (Some u) e =
            let h = nodes_are.knows.each p u e in
            subst (Stands m n (known_at ks p).atom) (sym h.width) (stands_later m (length N.written.wires) n (known_at ks p).atom u long h.stands)
        of None e =
            let past : length us ≤ p = none_past us p e in
            let none : slice_get ks p ≡ None = slice_get_past ks p (let s = nodes_are.knows.as_many in omega (arith, s, past)) in
            subst (λ (x : Known). Stands m n x.atom x.width) (ap or_nothing (sym none)) (constant_stands m n (bit false) 1 bit_word)

    -- an entry of a list of bits names a node of one bit
    bit_stands : (n : ℕ) → length N.written.wires ≤ n → (ns : List ℕ) → list_all (is_bit us) ns ≡ true → (i : ℕ) → Stands m n (told_at ks ns i).atom 1
    bit_stands n long ns bits i = of (slice_get ns i) refl
      where
        of : (o : Option ℕ) → slice_get ns i ≡ o → Stands m n (known_of ks o).atom 1
        of None e = constant_stands m n (bit false) 1 bit_word
        of (Some p) e =
            let h = nodes_are.knows.each p 1 (width_is (slice_get us p) 1 (holds_at_all (is_bit us) ns bits i p e)) in
            stands_later m (length N.written.wires) n (known_at ks p).atom 1 long h.stands

    lines_right : AreRight m (length F.wires)
    lines_right =
        fires_right m ks c.fires 0 b.elements N.written nodes_are.right (bit_stands (length N.written.wires) (omega arith) c.fires (ordered c right).fires) reaches_fires

    fires_length : length F.wires ≡ length N.written.wires + length (fire_wires (map outline b.elements))
    fires_length = ap length (fires_wires ks c.fires 0 b.elements N.written) ∙ length-append N.written.wires (fire_wires (map outline b.elements))

    nodes_shorter : length N.written.wires ≤ length F.wires
    nodes_shorter = let e = fires_length in omega (arith, e)

    -- ---- each assignment

    -- it is of a wire, or of an output
    data IsOneOf (l : ℕ) (x : Assign) : Type 0 where
      wire : l < length F.wires → x.target ≡ target.Wire l → IsOneOf l x
      output : (j : ℕ) → l ≡ length F.wires + j → slice_get outputs j ≡ Some x → IsOneOf l x

    one_of : (l : ℕ) (x : Assign) → slice_get m.assigns l ≡ Some x → IsOneOf l x
    one_of l x there = elim (below_or_after l (length F.wires)) [
      | inl few ↦ wire few (lines_right.targets l x few there)
      | inr long ↦
          let place : l ≡ length F.wires + (l - length F.wires) = omega (arith, long) in
          let same : length F.wires + (l - length F.wires) ≡ length F.assigns + (l - length F.wires) = (let e = many in omega (arith, e)) in
          output (l - length F.wires) place (sym (at_right F.assigns outputs (l - length F.wires)) ∙ ap (slice_get m.assigns) (sym (place ∙ same)) ∙ there)
    ]
      where
        below_or_after : (a n : ℕ) → (a < n) ⊎ (n ≤ a)
        below_or_after a n = elim (cases_Bool (nat_lt a n)) [ inl e ↦ inl (ltb-true a n e) | inr e ↦ inr (ltb-false a n e) ]

    result_stands : (n : ℕ) → length N.written.wires ≤ n → (i : ℕ) → Stands m n (result_of ks c i).atom (result_of ks c i).width
    result_stands n long i = of (slice_get c.results i)
      where
        of : (o : Option ℕ) → Stands m n (known_of ks o).atom (known_of ks o).width
        of None = constant_stands m n (bit false) 1 bit_word
        of (Some p) = known_stands n long p

    output_right : (l j : ℕ) (x : Assign) → l ≡ length F.wires + j → slice_get outputs j ≡ Some x → IsAssign m l x
    output_right l j x place there = of h.is
      where
        h : IsOutputIn ks c 0 methods x
        h = is_output ks c methods 0 j x there

        ports : slice_get m.methods (0 + h.index) ≡ Some (method_of ks c (0 + h.index) h.element)
        ports = (let p : 0 + h.index ≡ h.index = omega arith in ap (slice_get m.methods) p) ∙ ports_there ks c methods 0 h.index h.element h.at

        long : length N.written.wires ≤ l
        long = let n = nodes_shorter in omega (arith, place, n)

        of : IsOutput ks c (0 + h.index) h.element x → IsAssign m l x
        of (ready e) = subst (IsAssign m l) (sym e) (record {
          width = 1;
          target_width_is = ap (option_map (λ (v : VMethod). 1)) ports;
          side = bit_stands l long c.readies (ordered c right).readies (0 + h.index);
        })
        of (result g e) = subst (IsAssign m l) (sym e) (record {
          width = (result_of ks c (0 + h.index)).width;
          target_width_is = ap (option_and_then (λ (v : VMethod). v.result)) ports
              ∙ ap (λ (t : Bool). cond t (Some (result_of ks c (0 + h.index)).width) None) g;
          side = result_stands l long (0 + h.index);
        })

    result_fits : (i : ℕ) → IsTrue (width_fits (result_of ks c i).width)
    result_fits i = of (slice_get c.results i)
      where
        known : (p : ℕ) (o : Option ℕ) → slice_get us p ≡ o → IsTrue (width_fits (known_at ks p).width)
        known p (Some u) e =
            let bound = widths_bound c right p u e in
            subst (λ (w : ℕ). IsTrue (width_fits w)) (sym (nodes_are.knows.each p u e).width) (fits_width u bound.0 bound.1)
        known p None e =
            let past : length us ≤ p = none_past us p e in
            let none : slice_get ks p ≡ None = slice_get_past ks p (let s = nodes_are.knows.as_many in omega (arith, s, past)) in
            subst (λ (x : Known). IsTrue (width_fits x.width)) (ap or_nothing (sym none)) refl

        of : (o : Option ℕ) → IsTrue (width_fits (known_of ks o).width)
        of None = refl
        of (Some p) = known p (slice_get us p) refl

    -- ---- each target is assigned, and once

    not_a_wire : (j l : ℕ) (x : Assign) → slice_get outputs j ≡ Some x → x.target ≡ target.Wire l → ⊥
    not_a_wire j l x there is = of (is_output ks c methods 0 j x there)
      where
        of : IsOutputIn ks c 0 methods x → ⊥
        of h = outer h.is
          where
            outer : IsOutput ks c (0 + h.index) h.element x → ⊥
            outer (ready e) = (let f : target.Ready (0 + h.index) ≡ target.Wire l = sym (ap (λ (y : Assign). y.target) e) ∙ is in let n : ⊥ = cc in n)
            outer (result g e) = (let f : target.Result (0 + h.index) ≡ target.Wire l = sym (ap (λ (y : Assign). y.target) e) ∙ is in let n : ⊥ = cc in n)

    wire_number : (j k : ℕ) → target.Wire j ≡ target.Wire k → j ≡ k
    wire_number j k e = cc

    once : (j k : ℕ) (x y : Assign) → slice_get m.assigns j ≡ Some x → slice_get m.assigns k ≡ Some y → x.target ≡ y.target → j ≡ k
    once j k x y e f same = of (one_of j x e) (one_of k y f)
      where
        of : IsOneOf j x → IsOneOf k y → j ≡ k
        of (wire few is) (wire less are) = wire_number j k (sym is ∙ same ∙ are)
        of (wire few is) (output i place there) = absurd (not_a_wire i j y there (sym same ∙ is))
        of (output i place there) (wire few is) = absurd (not_a_wire i k x there (same ∙ is))
        of (output i place there) (output l at found) =
            let one = outputs_once ks c methods 0 i l x y there found same in
            omega (arith, place, at, one)

    assigns : (l : ℕ) (x : Assign) → slice_get m.assigns l ≡ Some x → IsAssign m l x
    assigns l x there = of (one_of l x there)
      where
        of : IsOneOf l x → IsAssign m l x
        of (wire few is) = lines_right.lines l x few there
        of (output j place found) = output_right l j x place found

    wire_assigned : (k : ℕ) (w : VWire) → slice_get m.wires k ≡ Some w → IsAssigned m (target.Wire k)
    wire_assigned k w there =
        let few : k < length F.wires = slice_get_within m.wires k w there in
        let long : k < length m.assigns = (let e = many in omega (arith, few, e, length-append F.assigns outputs)) in
        let x = item_there m.assigns k long in
        record { line = k; assign = x.0; at = x.1; target_is = lines_right.targets k x.0 few x.1 }

    placed : (t : Target) (x : Assign) → x.target ≡ t → IsPlaced ks c 0 methods x → IsAssigned m t
    placed t x is h = record { line = length F.wires + h.place; assign = x; at = output_at h.place x h.there; target_is = is }

    ready_assigned : (n : ℕ) (v : VMethod) → slice_get m.methods n ≡ Some v → IsAssigned m (target.Ready n)
    ready_assigned n v there =
        let h = ports_are ks c methods 0 n v there in
        let place : 0 + n ≡ n = omega arith in
        placed (target.Ready n) (assign (target.Ready (0 + n)) (told_at ks c.readies (0 + n))) (ap target.Ready place) (ready_placed ks c methods 0 n h.element h.at)

    gives_result : (b : Bool) (w u : ℕ) → cond b (Some w) None ≡ Some u → (b ≡ true) × (w ≡ u)
    gives_result true w u e = (refl, same_Some w u e)
    gives_result false w u e = absurd (let n : ⊥ = cc in n)

    result_assigned : (n width : ℕ) (v : VMethod) → slice_get m.methods n ≡ Some v → v.result ≡ Some width → IsAssigned m (target.Result n)
    result_assigned n width v there is =
        let h = ports_are ks c methods 0 n v there in
        let gives = (gives_result (gives_value h.element.role) (result_of ks c (0 + n)).width width (ap (λ (x : VMethod). x.result) (sym h.is) ∙ is)).0 in
        let place : 0 + n ≡ n = omega arith in
        placed (target.Result n) (assign (target.Result (0 + n)) (result_of ks c (0 + n))) (ap target.Result place) (result_placed ks c methods 0 n h.element h.at gives)

    assigned : (t : Target) (width : ℕ) → target_width m t ≡ Some width → IsAssigned m t
    assigned (target.Wire k) width e = of (slice_get m.wires k) refl e
      where
        of : (o : Option VWire) → slice_get m.wires k ≡ o → option_map (λ (w : VWire). w.width) o ≡ Some width → IsAssigned m (target.Wire k)
        of None there f = absurd (let n : ⊥ = cc in n)
        of (Some w) there f = wire_assigned k w there
    assigned (target.Ready n) width e = of (slice_get m.methods n) refl e
      where
        of : (o : Option VMethod) → slice_get m.methods n ≡ o → option_map (λ (v : VMethod). 1) o ≡ Some width → IsAssigned m (target.Ready n)
        of None there f = absurd (let i : ⊥ = cc in i)
        of (Some v) there f = ready_assigned n v there
    assigned (target.Result n) width e = of (slice_get m.methods n) refl e
      where
        of : (o : Option VMethod) → slice_get m.methods n ≡ o → option_and_then (λ (v : VMethod). v.result) o ≡ Some width → IsAssigned m (target.Result n)
        of None there f = absurd (let i : ⊥ = cc in i)
        of (Some v) there f = result_assigned n width v there f

    -- ---- the next words

    next_atoms : (k : ℕ) (r : VRegister) (a : Atom) → slice_get m.registers k ≡ Some r → slice_get m.nexts k ≡ Some a → IsAtom m a r.start.width
    next_atoms k r a there next =
        let own = register_is (register_names b.parts) c.registers k r there in
        let h = item_of (λ (n : ℕ). (known_at ks n).atom) c.nexts k a next in
        let width = next_width us c.nexts c.registers (ordered c right).nexts k h.item own.info h.is own.at in
        let known = nodes_are.knows.each h.item own.info.width width in
        subst (λ (x : Atom). IsAtom m x r.start.width) h.gives (subst (IsAtom m (known_at ks h.item).atom) (sym own.width) known.stands.0)

    -- ---- it is a module

    module _ (design : IsDesign b) (few_registers : length m.registers < 2 ^ 64) (few_wires : length m.wires < 2 ^ 64) where
      method_result : (k width : ℕ) (v : VMethod) → slice_get m.methods k ≡ Some v → v.result ≡ Some width → IsTrue (width_fits width)
      method_result k width v there is =
          let h = ports_are ks c methods 0 k v there in
          let same = (gives_result (gives_value h.element.role) (result_of ks c (0 + k)).width width (ap (λ (x : VMethod). x.result) (sym h.is) ∙ is)).1 in
          subst (λ (w : ℕ). IsTrue (width_fits w)) same (result_fits (0 + k))

      pub is_module : IsModule m
      is_module = record {
        name = name_right b design m (is_its_module ∣ design ∣₁) few_registers few_wires;
        methods = λ k v there. record {
          name = method_right b design m (is_its_module ∣ design ∣₁) few_registers few_wires k v there;
          arguments = λ j a at. argument_right b design m (is_its_module ∣ design ∣₁) few_registers few_wires k j v a there at;
          result = λ width is. method_result k width v there is;
        };
        registers = λ k r there. record {
          name = register_right b design m (is_its_module ∣ design ∣₁) few_registers few_wires k r there;
          start = (register_is (register_names b.parts) c.registers k r there).word;
        };
        wires = λ k w there. record {
          name = wire_right b design m (is_its_module ∣ design ∣₁) few_registers few_wires k w there;
          width = lines_right.widths k w (slice_get_within m.wires k w there) there;
          fires = λ name is. wire_fires b design m (is_its_module ∣ design ∣₁) few_registers few_wires k w name there is;
        };
        apart = apart b design m (is_its_module ∣ design ∣₁) few_registers few_wires;
        fires = fires b design m (is_its_module ∣ design ∣₁) few_registers few_wires;
        assigned = assigned;
        once = once;
        assigns = assigns;
        nexts_count = length-map c.nexts (λ (n : ℕ). (known_at ks n).atom) ∙ next_count us c.nexts c.registers (ordered c right).nexts
            ∙ sym (registers_count (register_names b.parts) c.registers names_count);
        nexts = next_atoms;
      }

  -- ---- it computes what the net does

  module _ (design : ∥ IsDesign b ∥₁) (ordered_net : ∥ IsNet c ∥₁) (vs ws : List Bits) (ins : Inputs) (nets : Nets) (have : HaveWidths c.inputs vs) (hold : HaveWidths (register_widths c.registers) ws)
      (given : input_words (atom_word ws ins nets) (inputs b) ≡ vs) (solved : Solved m ws ins nets) where
    abbrev word : Atom → Bits
    word a = atom_word ws ins nets a

    abbrev values : List Bits
    values = words c.nodes vs ws

    module _ (right : IsNet c) where
      solution : Satisfies vs ws (at values) c.nodes right.widths
      solution = satisfies c right vs ws have hold

      told : AreTold m ws ins nets solved (inputs b) c.inputs c.registers vs given (at values) right.widths ks
      unfolding lines
      told =
          nodes_told m ws ins nets solved (inputs b) c.inputs c.registers vs given (at values) c.nodes nothing_written right.widths right.nodes right.within
          (λ k u there. ((nodes_are right).knows.each k u there).width) solution.fits
          (λ j x there. record { operates = solution.operates j x there; computes = solution.computes j x there }) reaches_nodes

      known_told : (p : ℕ) → word (known_at ks p).atom ≡ at values p
      known_told p = of (slice_get right.widths p) refl
        where
          of : (o : Option ℕ) → slice_get right.widths p ≡ o → word (known_at ks p).atom ≡ at values p
          of (Some u) e = told.words p u e
          of None e =
              let past : length right.widths ≤ p = none_past right.widths p e in
              let none : slice_get ks p ≡ None = slice_get_past ks p (let s = (nodes_are right).knows.as_many in omega (arith, s, past)) in
              let end : slice_get values p ≡ None = slice_get_past values p (let s = same_length right.widths values (words_have c right vs ws have hold) in omega (arith, s, past)) in
              ap (λ (o : Option Known). word (or_nothing o).atom) none ∙ sym (ap the_words.or_zero end)

    word_told : (p : ℕ) → word (known_at ks p).atom ≡ at values p
    word_told p = ∥∥₁_elim ordered_net (bits_set _ _) (λ (right : IsNet c). known_told right p)

    entry_told : (ns : List ℕ) (n : ℕ) → word (told_at ks ns n).atom ≡ or_zero (slice_get (map (at values) ns) n)
    entry_told ns n = of (slice_get ns n) ∙ ap or_zero (sym (slice_get-map (at values) ns n))
      where
        of : (o : Option ℕ) → word (known_of ks o).atom ≡ or_zero (option_map (at values) o)
        of None = refl
        of (Some p) = word_told p

    output_word : (x : Assign) → IsPlaced ks c 0 methods x → nets x.target ≡ side_word word x.side
    output_word x h = solved (length F.wires + h.place) x (output_at h.place x h.there)

    fire_tells : (n : ℕ) (e : Element) → slice_get b.elements n ≡ Some e → is_value e.role ≡ false → TellsFire m nets e.name (or_zero (slice_get (gives c ws vs).fires n))
    fire_tells n e there acts =
        let place : 0 + n ≡ n = omega arith in
        subst (TellsFire m nets e.name) (ap (λ (k : ℕ). word (told_at ks c.fires k).atom) place ∙ entry_told c.fires n)
        (fires_told m ws ins nets solved ks c.fires 0 b.elements N.written reaches_fires n e there acts)

    ready_tells : (n : ℕ) (e : Element) → slice_get b.elements n ≡ Some e → is_rule e.role ≡ false → nets (target.Ready n) ≡ or_zero (slice_get (gives c ws vs).readies n)
    ready_tells n e there own =
        let place : n ≡ 0 + n = omega arith in
        ap (λ (k : ℕ). nets (target.Ready k)) place
        ∙ output_word (assign (target.Ready (0 + n)) (told_at ks c.readies (0 + n))) (ready_placed ks c methods 0 n e (is_among b design n e there own))
        ∙ ap (λ (k : ℕ). word (told_at ks c.readies k).atom) (sym place) ∙ entry_told c.readies n

    result_tells : (n : ℕ) (e : Element) → slice_get b.elements n ≡ Some e → gives_value e.role ≡ true → nets (target.Result n) ≡ or_zero (slice_get (gives c ws vs).results n)
    result_tells n e there gives =
        let place : n ≡ 0 + n = omega arith in
        ap (λ (k : ℕ). nets (target.Result k)) place
        ∙ output_word (assign (target.Result (0 + n)) (result_of ks c (0 + n))) (result_placed ks c methods 0 n e (is_among b design n e there (no_rule e.role gives)) gives)
        ∙ ap (λ (k : ℕ). word (told_at ks c.results k).atom) (sym place) ∙ entry_told c.results n
      where
        no_rule : (r : Role) → gives_value r ≡ true → is_rule r ≡ false
        no_rule role.Rule e = absurd (let n : ⊥ = cc in n)
        no_rule role.Value e = refl
        no_rule role.Action e = absurd (let n : ⊥ = cc in n)
        no_rule role.ActionValue e = refl

    next_words : (ns : List ℕ) → map word (map (λ (n : ℕ). (known_at ks n).atom) ns) ≡ map (at values) ns
    next_words [] = refl
    next_words (n ∷ ns) = ap₂ (λ (x : Bits) (xs : List Bits). x ∷ xs) (word_told n) (next_words ns)

  pub computes : ∥ IsDesign b ∥₁ → ∥ IsNet c ∥₁ → Computes b c m
  computes design right = record {
    tells = λ vs ws ins rst nets behind have hold given v. record {
      fires = λ n e there acts. fire_tells design right vs ws ins nets have hold given v.assigned n e there acts;
      readies = λ n e there own. ready_tells design right vs ws ins nets have hold given v.assigned n e there own;
      results = λ n e there gives. result_tells design right vs ws ins nets have hold given v.assigned n e there gives;
    };
    nexts = λ vs ws ins nets behind have hold given v. v.edge ∙ next_words design right vs ws ins nets have hold given v.assigned c.nexts;
  }
