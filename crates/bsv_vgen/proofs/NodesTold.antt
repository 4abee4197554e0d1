-- The atoms of all nodes of a net have the words that the net computes.
use Rattle.std.proofs.Common.{◌≡◌, ◌∙◌, ℕ, zero, suc, ◌+◌, ◌<◌, ◌≤◌, true, false, List, [], ◌∷◌, ◌++◌, length, Option, Some, None, refl, sym, ap, ap₂, subst, arith, length-append, inl, inr, unwrap_or}
use Rattle.std.specs.Prelude.{slice_get, option_map, if◌then◌else◌}
use Rattle.std.specs.List.{list_all}
use Rattle.std.proofs.lemmas.Bool.{and_parts, ltb-true}
use Rattle.std.proofs.lemmas.Option.{same_Some, slice_get_within, slice_get-map}
use Rattle.bsv_lemmas.proofs.Places.{at_left, at_right}
use Rattle.bsv_bits.specs.Words.{Bits, bit, word_not, word_concat}
use Rattle.bsv_bits.specs.Operators.{operate}
use Rattle.bsv_prim.specs.Signals.{is_one}
use Rattle.bsv_prim.specs.Table.{IsWordOf}
use Rattle.bsv_prim.specs.declared.primitive.RegisterInfo.{RegisterInfo}
use Rattle.bsv_design.specs.design.Bodies.{at}
use Rattle.bsv_design.specs.design.Words.{or_zero}
use Rattle.bsv_design.specs.design.Widths.{node_width, widths_from}
use Rattle.bsv_design.specs.declared.element.Port.{Port}
use Rattle.bsv_guard.proofs.Nodes.{chained}
use Rattle.bsv_net.specs.declared.node.NetNode.{NetNode}
use Rattle.bsv_net.specs.declared.node.NetNode.TheVariants as net
use Rattle.bsv_net.specs.Nets.{as_node, as_nodes, ports, is_within}
use Rattle.bsv_net.specs.Equations.{Values, operated, computed}
use Rattle.bsv_vtext.specs.declared.tree.Atom.{Atom}
use Rattle.bsv_vtext.specs.declared.tree.Side.TheVariants as side
use Rattle.bsv_vtext.specs.Signals.{VModuleData}
use Rattle.bsv_vtext.specs.VClock.{Inputs, Nets, atom_word}
use Rattle.bsv_vgen.specs.declared.known.Known.{Known}
use Rattle.bsv_vgen.specs.Lines.{Written, Step, or_nothing, known_at, register, two_width, node, nodes}
use Rattle.bsv_vgen.proofs.Before.{reaches_first}
use Rattle.bsv_vgen.proofs.Computes.{input_words}
use Rattle.bsv_vgen.proofs.NodesRight.{are_two, are_picked, are_joined, is_cut, is_widened, entry_after, width_kept}
use Rattle.bsv_vgen.proofs.Told.{Solved, line_told, two_told, slice_told, join_told, extend_told, sign_extend_told}
use Rattle.bsv_vgen.proofs.Fronts.{Reaches}

module _ (m : VModuleData) (ws : List Bits) (ins : Inputs) (nets : Nets) (solved : Solved m ws ins nets) where
  abbrev word : Atom → Bits
  word a = atom_word ws ins nets a

  -- ---- inputs and registers

  known_input : (k : ℕ) (o : Option Known) → word (or_nothing o).atom ≡ or_zero (option_map (λ (x : Known). word x.atom) o)
  known_input k None = refl
  known_input k (Some x) = refl

  input_told : (inputs : List Known) (vs : List Bits) → input_words word inputs ≡ vs → (k : ℕ) → word (known_at inputs k).atom ≡ at vs k
  input_told inputs vs is k =
      known_input k (slice_get inputs k) ∙ ap or_zero (sym (slice_get-map (λ (x : Known). word x.atom) inputs k)) ∙ ap (λ (us : List Bits). at us k) is

  word_of_register : (o : Option Bits) → unwrap_or o (bit false) ≡ or_zero o
  word_of_register None = refl
  word_of_register (Some w) = refl

  register_told : (registers : List RegisterInfo) (k : ℕ) (o : Option RegisterInfo) → slice_get registers k ≡ o → k < length registers
      → word (register o k).atom ≡ at ws k
  register_told registers k (Some r) there few = word_of_register (slice_get ws k)
  register_told registers k None there few = absurd (none_within registers k there few)
    where
      none_within : (rs : List RegisterInfo) (k : ℕ) → slice_get rs k ≡ None → k < length rs → ⊥
      none_within [] k e l = omega (arith, l)
      none_within (r ∷ rs) zero e l = cc
      none_within (r ∷ rs) (suc k) e l = none_within rs k e (omega (arith, l))

  module _ (inputs : List Known) (widths : List ℕ) (registers : List RegisterInfo) (vs : List Bits) (is : input_words word inputs ≡ vs) (V : Values) where
    -- of nodes of these widths the atoms have the words
    pub record AreTold (us : List ℕ) (ks : List Known) : Type 0 where
      pub as_many : length ks ≡ length us
      pub words : (k u : ℕ) → slice_get us k ≡ Some u → word (known_at ks k).atom ≡ V k

    -- and the widths
    abbrev AreWide : List ℕ → List Known → Type 0
    AreWide us ks = (k u : ℕ) → slice_get us k ≡ Some u → (known_at ks k).width ≡ u

    abbrev AreFit : List ℕ → Type 0
    AreFit us = (k u : ℕ) → slice_get us k ≡ Some u → IsWordOf u (V k)

    -- a node has the word that its operator gives
    pub record IsComputed (n : ℕ) (x : NetNode) : Type 0 where
      pub operates : V n ≡ operated vs ws V x
      pub computes : V n ≡ computed vs ws V x

    abbrev picked : Bits → Bits → Bits → Bits
    picked t a b = if is_one t then a else b

    module _ (us : List ℕ) (ks : List Known) (w : Written) (told : AreTold us ks) (wide : AreWide us ks) (fits : AreFit us) where
      abbrev step : NetNode → Step
      step x = node inputs registers ks w x

      node_told : (n : ℕ) (x : NetNode) (u : ℕ) → is_within (length widths) (length registers) x ≡ true
          → node_width (ports widths registers) [] [] us (as_node (length widths) x) ≡ Some u → Reaches m (step x).written → IsComputed n x
          → word (step x).known.atom ≡ V n
      node_told n (net.Input k) u within e r h = input_told inputs vs is k ∙ sym h.operates
      node_told n (net.Register k) u within e r h =
          register_told registers k (slice_get registers k) refl (ltb-true k (length registers) within) ∙ sym h.operates
      node_told n (net.Constant x) u within e r h = sym h.operates
      node_told n (net.Not a) u within e r h =
          line_told m ws ins nets solved w (known_at ks a).width (side.Not (known_at ks a).atom) r ∙ ap word_not (told.words a u e) ∙ sym h.operates
      node_told n (net.Two o a b) u within e r h =
          let is = are_two o (slice_get us a) (slice_get us b) u e in
          two_told m ws ins nets solved w (two_width o (known_at ks a).width) o (known_at ks a).atom (known_at ks b).atom r
          ∙ ap₂ (operate o) (told.words a is.first is.is_first) (told.words b is.second is.is_second) ∙ sym h.operates
      node_told n (net.Pick t a b) u within e r h =
          let is = are_picked (slice_get us t) (slice_get us a) (slice_get us b) u e in
          line_told m ws ins nets solved w (known_at ks a).width (side.Pick (known_at ks t).atom (known_at ks a).atom (known_at ks b).atom) r
          ∙ ap₂ (λ (x y : Bits). picked x y (word (known_at ks b).atom)) (told.words t 1 is.test) (told.words a u is.first)
          ∙ ap (picked (V t) (V a)) (told.words b u is.second) ∙ sym h.operates
      node_told n (net.Slice a high low) u within e r h =
          let is = is_cut (slice_get us a) high low u e in
          slice_told m ws ins nets solved w (known_at ks a).atom (V a) (V n) high low (told.words a is.own is.is_own) h.operates h.computes r
      node_told n (net.Join a b) u within e r h =
          let is = are_joined (slice_get us a) (slice_get us b) u e in
          join_told m ws ins nets solved w (known_at ks a) (known_at ks b) r
          ∙ ap₂ word_concat (told.words a is.first is.is_first) (told.words b is.second is.is_second) ∙ sym h.operates
      node_told n (net.Extend a width) u within e r h =
          let is = is_widened (slice_get us a) width u e in
          extend_told m ws ins nets solved w (known_at ks a) (V a) is.own width (told.words a is.own is.is_own) (wide a is.own is.is_own) (fits a is.own is.is_own)
          (subst (λ (x : ℕ). is.own ≤ x) (sym is.same) is.fits) (subst (λ (x : ℕ). x ≤ 128) (sym is.same) is.most) r ∙ sym h.operates
      node_told n (net.SignExtend a width) u within e r h =
          let is = is_widened (slice_get us a) width u e in
          sign_extend_told m ws ins nets solved w (known_at ks a) (V a) is.own width (told.words a is.own is.is_own) (wide a is.own is.is_own) (fits a is.own is.is_own)
          (subst (λ (x : ℕ). is.own ≤ x) (sym is.same) is.fits) (subst (λ (x : ℕ). x ≤ 128) (sym is.same) is.most) r ∙ sym h.operates

    told_more : (us : List ℕ) (ks : List Known) (u : ℕ) (x : Known) → AreTold us ks → word x.atom ≡ V (length us) → AreTold (us ++ u ∷ []) (ks ++ x ∷ [])
    told_more us ks u x h own = record {
      as_many = omega (arith, h.as_many, length-append ks (x ∷ []), length-append us (u ∷ []));
      words = λ k v e. elim (entry_after us u k v e) [
        | inl there ↦
            let few : k < length ks = let b = slice_get_within us k v there in omega (arith, b, h.as_many) in
            ap (λ (o : Option Known). word (or_nothing o).atom) (at_left ks (x ∷ []) k few) ∙ h.words k v there
        | inr last ↦
            let place : k ≡ length ks + 0 = omega (arith, h.as_many, last.0) in
            ap (λ (i : ℕ). word (known_at (ks ++ x ∷ []) i).atom) place ∙ ap (λ (o : Option Known). word (or_nothing o).atom) (at_right ks (x ∷ []) 0)
            ∙ own ∙ ap V (sym last.0)
      ];
    }

    known_kept : (xs : List NetNode) (ks : List Known) (w : Written) (k : ℕ) → k < length ks → known_at (nodes inputs registers ks w xs).known k ≡ known_at ks k
    unfolding nodes
    known_kept [] ks w k few = refl
    known_kept (x ∷ xs) ks w k few =
        let s : Step = node inputs registers ks w x in
        known_kept xs (ks ++ s.known ∷ []) s.written k (omega (arith, few, length-append ks (s.known ∷ [])))
        ∙ ap or_nothing (at_left ks (s.known ∷ []) k few)

    nodes_told_from : (xs : List NetNode) (us : List ℕ) (ks : List Known) (w : Written) (ends : List ℕ)
        → widths_from (ports widths registers) [] [] us (as_nodes (length widths) xs) ≡ Some ends
        → list_all (is_within (length widths) (length registers)) xs ≡ true → AreTold us ks → AreWide ends (nodes inputs registers ks w xs).known → AreFit ends
        → ((j : ℕ) (x : NetNode) → slice_get xs j ≡ Some x → IsComputed (length us + j) x)
        → Reaches m (nodes inputs registers ks w xs).written → AreTold ends (nodes inputs registers ks w xs).known
    unfolding nodes widths_from
    nodes_told_from [] us ks w ends e within told wide fits computes r = subst (λ (vs : List ℕ). AreTold vs ks) (same_Some us ends e) told
    nodes_told_from (x ∷ xs) us ks w ends e within told wide fits computes r =
        let ps : List Port = ports widths registers in
        let n : ℕ = length widths in
        let c = chained (node_width ps [] [] us (as_node n x)) (λ v. widths_from ps [] [] (us ++ v ∷ []) (as_nodes n xs)) ends e in
        let s : Step = node inputs registers ks w x in
        let here : AreWide us ks = λ k u there.
        let few : k < length ks = let b = slice_get_within us k u there in let many = told.as_many in omega (arith, b, many) in
        ap (λ (y : Known). y.width) (sym (known_kept (x ∷ xs) ks w k few)) ∙ wide k u (width_kept ps (as_nodes n (x ∷ xs)) us ends e k u there) in
        let fit : AreFit us = λ k u there. fits k u (width_kept ps (as_nodes n (x ∷ xs)) us ends e k u there) in
        let both = and_parts (is_within n (length registers) x) (list_all (is_within n (length registers)) xs) within in
        let place : length us + 0 ≡ length us = omega arith in
        let own = node_told us ks w told here fit (length us) x c.width both.0 c.first (reaches_first m inputs registers xs (ks ++ s.known ∷ []) s.written r)
        (subst (λ (k : ℕ). IsComputed k x) place (computes 0 x refl)) in
        nodes_told_from xs (us ++ c.width ∷ []) (ks ++ s.known ∷ []) s.written ends c.rest both.1 (told_more us ks c.width s.known told own) wide fits
        (λ j y there. let later : length us + suc j ≡ length (us ++ c.width ∷ []) + j = omega (arith, length-append us (c.width ∷ [])) in
        subst (λ (k : ℕ). IsComputed k y) later (computes (suc j) y there)) r

    -- the nodes of a net that has these words
    pub nodes_told : (xs : List NetNode) (w : Written) (ends : List ℕ) → widths_from (ports widths registers) [] [] [] (as_nodes (length widths) xs) ≡ Some ends
        → list_all (is_within (length widths) (length registers)) xs ≡ true → AreWide ends (nodes inputs registers [] w xs).known → AreFit ends
        → ((j : ℕ) (x : NetNode) → slice_get xs j ≡ Some x → IsComputed j x)
        → Reaches m (nodes inputs registers [] w xs).written → AreTold ends (nodes inputs registers [] w xs).known
    nodes_told xs w ends e within wide fits computes r =
        nodes_told_from xs [] [] w ends e within (record { as_many = refl; words = λ k u there. absurd (let n : ⊥ = cc in n) }) wide fits
        (λ j x there. let place : j ≡ 0 + j = omega arith in subst (λ (k : ℕ). IsComputed k x) place (computes j x there)) r
