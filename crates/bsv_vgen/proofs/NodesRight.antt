-- The nodes of a net are written as right lines.
use Rattle.std.proofs.Common.{◌≡◌, ◌∙◌, ℕ, zero, suc, ◌+◌, ◌<◌, ◌≤◌, true, ◌&&◌, List, [], ◌∷◌, ◌++◌, length, map, Option, Some, None, refl, sym, ap, subst, arith, append-nil, length-append, ◌⊎◌, inl, inr}
use Rattle.std.specs.Prelude.{◌==◌, nat_le, slice_get, option_map}
use Rattle.std.specs.List.{list_all}
use Rattle.std.proofs.lemmas.Bool.{and_parts, leb-true, ltb-true, eqb-true}
use Rattle.std.proofs.lemmas.Option.{same_Some, slice_get_within, slice_get-map}
use Rattle.bsv_lemmas.proofs.Places.{at_left, at_right}
use Rattle.bsv_bits.specs.declared.operator.Operator.{Operator}
use Rattle.bsv_prim.specs.declared.primitive.RegisterInfo.{RegisterInfo}
use Rattle.bsv_design.specs.declared.element.Port.{Port}
use Rattle.bsv_design.specs.declared.node.Node.{Node}
use Rattle.bsv_design.specs.design.Widths as widths
use Rattle.bsv_design.specs.design.Widths.{pick_width, slice_width, join_width, extend_width, node_width, widths_from}
use Rattle.bsv_guard.proofs.Nodes.{chained, where_width}
use Rattle.bsv_guard.proofs.Words.{constant_fits}
use Rattle.bsv_net.specs.declared.node.NetNode.{NetNode}
use Rattle.bsv_net.specs.declared.node.NetNode.TheVariants as net
use Rattle.bsv_net.specs.Nets.{as_node, as_nodes, port, ports, register_widths, is_within}
use Rattle.bsv_vtext.specs.declared.tree.Atom.TheVariants as atom
use Rattle.bsv_vtext.specs.declared.tree.Side.TheVariants as side
use Rattle.bsv_vtext.specs.Modules.{Stands, IsAtom}
use Rattle.bsv_vtext.specs.Signals.{VModuleData}
use Rattle.bsv_vgen.specs.declared.known.Known.{Known}
use Rattle.bsv_vgen.specs.Lines.{Written, Step, Nodes, or_nothing, known_at, register, two_side, two_width, node, nodes}
use Rattle.bsv_vgen.proofs.Fronts.{Reaches, AreRight, last_there}
use Rattle.bsv_vgen.proofs.Before.{reaches_first}
use Rattle.bsv_vgen.proofs.Knowing.{IsKnownRight, IsStepRight, right_later, fits_width, kept_right, constant_right, line_as, two_right, slice_right, join_right, extend_right, sign_extend_right}

-- the width of a port that a number names
port_width : (us : List ℕ) (k : ℕ) → option_map (λ (p : Port). p.width) (slice_get (map port us) k) ≡ slice_get us k
port_width [] k = refl
port_width (u ∷ us) zero = refl
port_width (u ∷ us) (suc k) = port_width us k

-- an entry after others
pub entry_after : {A : Type 0} (xs : List A) (x : A) (k : ℕ) (y : A) → slice_get (xs ++ x ∷ []) k ≡ Some y → (slice_get xs k ≡ Some y) ⊎ ((k ≡ length xs) × (x ≡ y))
entry_after [] x zero y e = inr (refl, same_Some x y e)
entry_after [] x (suc k) y e = absurd (let n : ⊥ = cc in n)
entry_after (z ∷ zs) x zero y e = inl e
entry_after (z ∷ zs) x (suc k) y e = elim (entry_after zs x k y e) [ inl h ↦ inl h | inr h ↦ inr (ap suc h.0, h.1) ]

-- widths stay when more nodes come after
pub width_kept : (ps : List Port) (xs : List Node) (us ends : List ℕ) → widths_from ps [] [] us xs ≡ Some ends → (k u : ℕ) → slice_get us k ≡ Some u → slice_get ends k ≡ Some u
unfolding widths_from
width_kept ps [] us ends e k u there = ap (λ (vs : List ℕ). slice_get vs k) (sym (same_Some us ends e)) ∙ there
width_kept ps (x ∷ xs) us ends e k u there =
    let c = chained (node_width ps [] [] us x) (λ v. widths_from ps [] [] (us ++ v ∷ []) xs) ends e in
    width_kept ps xs (us ++ c.width ∷ []) ends c.rest k u (at_left us (c.width ∷ []) k (slice_get_within us k u there) ∙ there)

-- what the operands of a node are
pub record AreTwo (o : Operator) (p q : Option ℕ) (u : ℕ) : Type 0 where
  pub first : ℕ
  pub second : ℕ
  pub is_first : p ≡ Some first
  pub is_second : q ≡ Some second
  pub is : widths.two_width o (Some first) (Some second) ≡ Some u

pub are_two : (o : Operator) (p q : Option ℕ) (u : ℕ) → widths.two_width o p q ≡ Some u → AreTwo o p q u
are_two o None q u e = absurd (let n : ⊥ = cc in n)
are_two o (Some a) None u e = absurd (let n : ⊥ = cc in n)
are_two o (Some a) (Some b) u e = record { first = a; second = b; is_first = refl; is_second = refl; is = e }

pub record ArePicked (p q r : Option ℕ) (u : ℕ) : Type 0 where
  pub test : p ≡ Some 1
  pub first : q ≡ Some u
  pub second : r ≡ Some u

pub are_picked : (p q r : Option ℕ) (u : ℕ) → pick_width p q r ≡ Some u → ArePicked p q r u
are_picked None q r u e = absurd (let n : ⊥ = cc in n)
are_picked (Some t) None r u e = absurd (let n : ⊥ = cc in n)
are_picked (Some t) (Some a) None u e = absurd (let n : ⊥ = cc in n)
are_picked (Some t) (Some a) (Some b) u e =
    let given = where_width ((t == 1) && (a == b)) a u e in
    let both = and_parts (t == 1) (a == b) given.0 in
    record {
      test = ap Some (eqb-true t 1 both.0);
      first = ap Some given.1;
      second = ap Some (sym (eqb-true a b both.1) ∙ given.1);
    }

pub record AreJoined (p q : Option ℕ) (u : ℕ) : Type 0 where
  pub first : ℕ
  pub second : ℕ
  pub is_first : p ≡ Some first
  pub is_second : q ≡ Some second
  pub sum : first + second ≡ u

pub are_joined : (p q : Option ℕ) (u : ℕ) → join_width p q ≡ Some u → AreJoined p q u
are_joined None q u e = absurd (let n : ⊥ = cc in n)
are_joined (Some a) None u e = absurd (let n : ⊥ = cc in n)
are_joined (Some a) (Some b) u e =
    record { first = a; second = b; is_first = refl; is_second = refl; sum = (where_width (nat_le (a + b) 128) (a + b) u e).1 }

pub record IsCut (p : Option ℕ) (high low u : ℕ) : Type 0 where
  pub own : ℕ
  pub is_own : p ≡ Some own
  pub is : slice_width (Some own) high low ≡ Some u

pub is_cut : (p : Option ℕ) (high low u : ℕ) → slice_width p high low ≡ Some u → IsCut p high low u
is_cut None high low u e = absurd (let n : ⊥ = cc in n)
is_cut (Some a) high low u e = record { own = a; is_own = refl; is = e }

pub record IsWidened (p : Option ℕ) (width u : ℕ) : Type 0 where
  pub own : ℕ
  pub is_own : p ≡ Some own
  pub fits : own ≤ u
  pub most : u ≤ 128
  pub same : width ≡ u

pub is_widened : (p : Option ℕ) (width u : ℕ) → extend_width p width ≡ Some u → IsWidened p width u
is_widened None width u e = absurd (let n : ⊥ = cc in n)
is_widened (Some a) width u e =
    let given = where_width (nat_le a width && nat_le width 128) width u e in
    let both = and_parts (nat_le a width) (nat_le width 128) given.0 in
    record {
      own = a;
      is_own = refl;
      fits = subst (λ (x : ℕ). a ≤ x) given.1 (leb-true a width both.0);
      most = subst (λ (x : ℕ). x ≤ 128) given.1 (leb-true width 128 both.1);
      same = given.1;
    }

-- each width is one that a word may have
abbrev pub AreWidths : List ℕ → Type 0
AreWidths us = (k u : ℕ) → slice_get us k ≡ Some u → (1 ≤ u) × (u ≤ 128)

module _ (m : VModuleData) where
  -- of nodes of these widths, this is known before the line of this number
  pub record Knows (us : List ℕ) (ks : List Known) (n : ℕ) : Type 0 where
    pub as_many : length ks ≡ length us
    pub each : (k u : ℕ) → slice_get us k ≡ Some u → IsKnownRight m n (known_at ks k) u

  -- and of one more
  pub knows_more : (us : List ℕ) (ks : List Known) (n j : ℕ) (u : ℕ) (x : Known) → n ≤ j → Knows us ks n → IsKnownRight m j x u → Knows (us ++ u ∷ []) (ks ++ x ∷ []) j
  knows_more us ks n j u x l h own = record {
    as_many = omega (arith, h.as_many, length-append ks (x ∷ []), length-append us (u ∷ []));
    each = λ k v e. elim (entry_after us u k v e) [
      | inl there ↦
          let few : k < length ks = let b = slice_get_within us k v there in omega (arith, b, h.as_many) in
          subst (λ (y : Known). IsKnownRight m j y v) (sym (ap or_nothing (at_left ks (x ∷ []) k few))) (right_later m n j (known_at ks k) v l (h.each k v there))
      | inr last ↦
          let place : k ≡ length ks + 0 = omega (arith, h.as_many, last.0) in
          let found : known_at (ks ++ x ∷ []) k ≡ x = ap (λ (i : ℕ). known_at (ks ++ x ∷ []) i) place ∙ ap or_nothing (at_right ks (x ∷ []) 0) in
          subst (λ (y : Known). IsKnownRight m j y v) (sym found) (subst (λ (w : ℕ). IsKnownRight m j x w) last.1 own)
    ];
  }

  -- what holds after all nodes
  pub record AreNodesRight (us : List ℕ) (n : Nodes) : Type 0 where
    pub knows : Knows us n.known (length n.written.wires)
    pub right : AreRight m (length n.written.wires)

  module _ (inputs : List Known) (ins : List ℕ) (registers : List RegisterInfo)
      (outer : (n k u : ℕ) → slice_get ins k ≡ Some u → IsKnownRight m n (known_at inputs k) u)
      (inner : (k : ℕ) (r : RegisterInfo) → slice_get registers k ≡ Some r → IsAtom m (atom.Register k) r.width) where
    register_right : (n k u : ℕ) (o : Option RegisterInfo) → slice_get registers k ≡ o → option_map (λ (r : RegisterInfo). r.width) o ≡ Some u
        → IsKnownRight m n (register o k) u
    register_right n k u None there e = absurd (let h : ⊥ = cc in h)
    register_right n k u (Some r) there e =
        let same : r.width ≡ u = same_Some r.width u e in
        record { width = same; stands = subst (Stands m n (atom.Register k)) same (inner k r there, tt) }

    module _ (us : List ℕ) (ks : List Known) (w : Written) (knows : Knows us ks (length w.wires)) (right : AreRight m (length w.wires))
        (least : (k u : ℕ) → slice_get us k ≡ Some u → 1 ≤ u) where
      abbrev step : NetNode → Step
      step x = node inputs registers ks w x

      input_right : (k u : ℕ) → k < length ins → option_map (λ (p : Port). p.width) (slice_get (ports ins registers) k) ≡ Some u
          → IsKnownRight m (length w.wires) (known_at inputs k) u
      input_right k u few e =
          outer (length w.wires) k u (sym (at_left ins (register_widths registers) k few) ∙ sym (port_width (ins ++ register_widths registers) k) ∙ e)

      placed_register : (k u : ℕ) → option_map (λ (p : Port). p.width) (slice_get (ports ins registers) (length ins + k)) ≡ Some u
          → IsKnownRight m (length w.wires) (register (slice_get registers k) k) u
      placed_register k u e =
          register_right (length w.wires) k u (slice_get registers k) refl
          (sym (slice_get-map (λ (r : RegisterInfo). r.width) registers k) ∙ sym (at_right ins (register_widths registers) k)
          ∙ sym (port_width (ins ++ register_widths registers) (length ins + k)) ∙ e)

      pub node_right : (x : NetNode) (u : ℕ) → 1 ≤ u → u ≤ 128 → is_within (length ins) (length registers) x ≡ true
          → node_width (ports ins registers) [] [] us (as_node (length ins) x) ≡ Some u → Reaches m (step x).written → IsStepRight m w (step x) u
      node_right (net.Input k) u some most within e r =
          kept_right m w (known_at inputs k) u r right (input_right k u (ltb-true k (length ins) within) e)
      node_right (net.Register k) u some most within e r = kept_right m w (register (slice_get registers k) k) u r right (placed_register k u e)
      node_right (net.Constant x) u some most within e r =
          kept_right m w (record { atom = atom.Constant x; width = x.width }) u r right (constant_right m (length w.wires) x u (constant_fits x u e))
      node_right (net.Not a) u some most within e r =
          let h = knows.each a u e in
          line_as m w (known_at ks a).width u (side.Not (known_at ks a).atom) h.width r right h.stands (fits_width u some most)
      node_right (net.Two o a b) u some most within e r =
          let is = are_two o (slice_get us a) (slice_get us b) u e in
          let one = knows.each a is.first is.is_first in
          let other = knows.each b is.second is.is_second in
          let fits = two_right m (length w.wires) is.first is.second u (known_at ks a).atom (known_at ks b).atom one.stands other.stands o is.is in
          line_as m w (two_width o (known_at ks a).width) u (two_side o (known_at ks a).atom (known_at ks b).atom) (ap (two_width o) one.width ∙ fits.width) r right fits.fits
          (fits_width u some most)
      node_right (net.Pick t a b) u some most within e r =
          let is = are_picked (slice_get us t) (slice_get us a) (slice_get us b) u e in
          let test = knows.each t 1 is.test in
          let one = knows.each a u is.first in
          let other = knows.each b u is.second in
          line_as m w (known_at ks a).width u (side.Pick (known_at ks t).atom (known_at ks a).atom (known_at ks b).atom) one.width r right
          (test.stands, (one.stands, other.stands)) (fits_width u some most)
      node_right (net.Slice a high low) u some most within e r =
          let is = is_cut (slice_get us a) high low u e in
          slice_right m w (known_at ks a).atom is.own u high low (knows.each a is.own is.is_own).stands is.is (fits_width u some most) right r
      node_right (net.Join a b) u some most within e r =
          let is = are_joined (slice_get us a) (slice_get us b) u e in
          join_right m w (known_at ks a) (known_at ks b) is.first is.second u (knows.each a is.first is.is_first) (knows.each b is.second is.is_second) is.sum
          (fits_width u some most) right r
      node_right (net.Extend a width) u some most within e r =
          let is = is_widened (slice_get us a) width u e in
          let one = knows.each a is.own is.is_own in
          subst (λ (v : ℕ). Reaches m (step (net.Extend a v)).written → IsStepRight m w (step (net.Extend a v)) u) (sym is.same)
          (extend_right m w (known_at ks a) is.own u one (least a is.own is.is_own) is.most right is.fits) r
      node_right (net.SignExtend a width) u some most within e r =
          let is = is_widened (slice_get us a) width u e in
          let one = knows.each a is.own is.is_own in
          subst (λ (v : ℕ). Reaches m (step (net.SignExtend a v)).written → IsStepRight m w (step (net.SignExtend a v)) u) (sym is.same)
          (sign_extend_right m w (known_at ks a) is.own u one (least a is.own is.is_own) is.most right is.fits) r

      -- what is known after the node
      pub knows_after : (x : NetNode) (u : ℕ) → IsStepRight m w (step x) u → Knows (us ++ u ∷ []) (ks ++ (step x).known ∷ []) (length (step x).written.wires)
      knows_after x u h = knows_more us ks (length w.wires) (length (step x).written.wires) u (step x).known h.longer knows h.known

    -- ---- all nodes

    nodes_right_from : (xs : List NetNode) (us : List ℕ) (ks : List Known) (w : Written) (ends : List ℕ)
        → widths_from (ports ins registers) [] [] us (as_nodes (length ins) xs) ≡ Some ends → AreWidths ends
        → list_all (is_within (length ins) (length registers)) xs ≡ true → Knows us ks (length w.wires) → AreRight m (length w.wires)
        → Reaches m (nodes inputs registers ks w xs).written → AreNodesRight ends (nodes inputs registers ks w xs)
    unfolding nodes widths_from
    nodes_right_from [] us ks w ends e bounds within knows right r =
        record { knows = subst (λ (vs : List ℕ). Knows vs ks (length w.wires)) (same_Some us ends e) knows; right = right }
    nodes_right_from (x ∷ xs) us ks w ends e bounds within knows right r =
        let ps : List Port = ports ins registers in
        let n : ℕ = length ins in
        let c = chained (node_width ps [] [] us (as_node n x)) (λ v. widths_from ps [] [] (us ++ v ∷ []) (as_nodes n xs)) ends e in
        let s : Step = node inputs registers ks w x in
        let bound = bounds (length us) c.width (width_kept ps (as_nodes n xs) (us ++ c.width ∷ []) ends c.rest (length us) c.width (last_there us c.width [] (us ++ c.width ∷ []) (sym (append-nil (us ++ c.width ∷ []))))) in
        let least : (k u : ℕ) → slice_get us k ≡ Some u → 1 ≤ u = λ k u there. (bounds k u (width_kept ps (as_nodes n (x ∷ xs)) us ends e k u there)).0 in
        let both = and_parts (is_within n (length registers) x) (list_all (is_within n (length registers)) xs) within in
        let here = node_right us ks w knows right least x c.width bound.0 bound.1 both.0 c.first (reaches_first m inputs registers xs (ks ++ s.known ∷ []) s.written r) in
        nodes_right_from xs (us ++ c.width ∷ []) (ks ++ s.known ∷ []) s.written ends c.rest bounds both.1 (knows_after us ks w knows right least x c.width here) here.right r

    -- the nodes of a net whose widths are known
    pub nodes_right : (xs : List NetNode) (w : Written) (ends : List ℕ) → widths_from (ports ins registers) [] [] [] (as_nodes (length ins) xs) ≡ Some ends → AreWidths ends
        → list_all (is_within (length ins) (length registers)) xs ≡ true → AreRight m (length w.wires)
        → Reaches m (nodes inputs registers [] w xs).written → AreNodesRight ends (nodes inputs registers [] w xs)
    nodes_right xs w ends e bounds within right r =
        nodes_right_from xs [] [] w ends e bounds within (record { as_many = refl; each = λ k u there. absurd (let n : ⊥ = cc in n) }) right r
