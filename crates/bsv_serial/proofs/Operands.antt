-- Where a node has the operands that it needs, it can be computed.
use Rattle.std.proofs.Common.{◌≡◌, ◌∙◌, ℕ, zero, suc, ◌+◌, ◌-◌, ◌<◌, ◌≤◌, Bool, true, false, not, ◌&&◌, ◌||◌, List, [], ◌∷◌, length, map, Option, Some, None, refl, sym, ap, ap₂, subst, arith, IsTrue}
use Rattle.std.specs.Prelude.{◌==◌, nat_le, nat_lt, if◌then◌else◌, slice_get, option_map}
use Rattle.std.specs.List.{list_all}
use Rattle.std.proofs.lemmas.Bool.{and_parts, not-true, eqb-true, eq-eqb, leb-true, ltb-true}
use Rattle.bsv_bits.specs.Operators.{operate, is_shift}
use Rattle.bsv_bits.specs.Signed.{word_sign_extend}
use Rattle.bsv_bits.specs.Words.{Bits, zero_word, word_slice, word_concat, word_extend}
use Rattle.bsv_bits.specs.declared.operator.Operator.{Operator}
use Rattle.bsv_design.specs.declared.element.Call.{Call}
use Rattle.bsv_design.specs.declared.element.Port.{Port}
use Rattle.bsv_design.specs.declared.kind.Kind.{Kind}
use Rattle.bsv_design.specs.declared.node.Node.{Node}
use Rattle.bsv_design.specs.declared.node.Node.TheVariants as node
use Rattle.bsv_design.specs.design.Bodies.{at}
use Rattle.bsv_design.specs.design.Computing.{between, sliced, joined, extended, sign_extended}
use Rattle.bsv_design.specs.parts.Kinds.{kind_table}
use Rattle.bsv_design.specs.scheme.Schemes.{filled}
use Rattle.bsv_design.specs.scheme.Traces.{acts}
use Rattle.bsv_design.specs.design.Widths.{port_fits, method_fits, gives_word, result_width, node_width, gives_bit, if_width, two_width, slice_width, join_width, extend_width}
use Rattle.bsv_design.proofs.Asked.{some_width, most_width}
use Rattle.bsv_guard.specs.Fitting.{IsFitCall}
use Rattle.bsv_guard.proofs.BodyFits.{call_fit, word_there}
use Rattle.bsv_guard.proofs.Lists.{holds_at_all}
use Rattle.bsv_guard.proofs.Nodes.{where_width}
use Rattle.bsv_serial.specs.Bodies.{HasOperands}

-- ---- arguments

mapped_within : (ports : List Port) (k v : ℕ) → option_map (λ (p : Port). p.width) (slice_get ports k) ≡ Some v → k < length ports
mapped_within [] k v e = absurd (let n : ⊥ = cc in n)
mapped_within (p ∷ ports) zero v e = omega arith
mapped_within (p ∷ ports) (suc k) v e = let l = mapped_within ports k v e in omega arith

pub argument_within : (ks : List Kind) (ports : List Port) (cs : List Call) (ws : List Bits) (k : ℕ) → HasOperands ks ports cs ws (node.Argument k) → k < length ports
argument_within ks ports cs ws k h = mapped_within ports k h.width h.is

pub port_bounds : (ports : List Port) (k : ℕ) (p : Port) → IsTrue (list_all port_fits ports) → slice_get ports k ≡ Some p → (1 ≤ p.width) × (p.width ≤ 128)
port_bounds ports k p h e = let fits = holds_at_all port_fits ports h k p e in (some_width p fits, most_width p fits)

-- a word that is given is in its place, and else 0
pub given_there : (ports : List Port) (ws : List Bits) (k : ℕ) (w : Bits) → k < length ports → slice_get ws k ≡ Some w → slice_get (filled ports ws) k ≡ Some w
given_there [] ws k w l e = absurd (omega arith)
given_there (p ∷ ports) [] k w l e = absurd (let n : ⊥ = cc in n)
given_there (p ∷ ports) (v ∷ ws) zero w l e = e
given_there (p ∷ ports) (v ∷ ws) (suc k) w l e = given_there ports ws k w (omega arith) e

pub zero_there : (ports : List Port) (ws : List Bits) (k : ℕ) (p : Port) → slice_get ports k ≡ Some p → slice_get ws k ≡ None → slice_get (filled ports ws) k ≡ Some (zero_word p.width)
zero_there [] ws k p e h = absurd (let n : ⊥ = cc in n)
zero_there (x ∷ ports) [] zero p e h = let same : x ≡ p = cc in ap (λ (y : Port). Some (zero_word y.width)) same
zero_there (x ∷ ports) [] (suc k) p e h = zero_there ports [] k p e refl
zero_there (x ∷ ports) (v ∷ ws) zero p e h = absurd (let n : ⊥ = cc in n)
zero_there (x ∷ ports) (v ∷ ws) (suc k) p e h = zero_there ports ws k p e h

-- ---- results

-- the call is of a method that gives a value, with arguments that fit
pub record IsAnswered (ks : List Kind) (ws : List Bits) (c : Call) : Type 0 where
  pub reads : acts (slice_get ks c.part) c.method ≡ false
  pub fits : IsFitCall (slice_get ks c.part) c.method (map (at ws) c.args)

pub answered : (ks : List Kind) (ports : List Port) (cs : List Call) (ws : List Bits) (number : ℕ) (c : Call) → HasOperands ks ports cs ws (node.Result number) → slice_get cs number ≡ Some c → IsAnswered ks ws c
answered ks ports cs ws number c h here = of (slice_get ks c.part) refl (ap (result_width ks h.widths) (sym here) ∙ h.is)
  where
    of : (o : Option Kind) → slice_get ks c.part ≡ o → gives_word o h.widths c ≡ Some h.width → IsAnswered ks ws c
    of None at_part e = absurd (let n : ⊥ = cc in n)
    of (Some k) at_part e =
        let parts = and_parts (method_fits (Some k) h.widths c) (not ((kind_table k).is_action c.method)) (where_width (method_fits (Some k) h.widths c && not ((kind_table k).is_action c.method)) ((kind_table k).result_width c.method) h.width e).0 in
        record {
          reads = ap (λ (o : Option Kind). acts o c.method) at_part ∙ not-true ((kind_table k).is_action c.method) parts.1;
          fits = subst (λ (o : Option Kind). IsFitCall o c.method (map (at ws) c.args)) (sym at_part) (call_fit h.widths ws h.have (Some k) c parts.0);
        }

called_within : (ks : List Kind) (us : List ℕ) (cs : List Call) (number v : ℕ) → result_width ks us (slice_get cs number) ≡ Some v → number < length cs
called_within ks us [] number v e = absurd (let n : ⊥ = cc in n)
called_within ks us (c ∷ cs) zero v e = omega arith
called_within ks us (c ∷ cs) (suc number) v e = let l = called_within ks us cs number v e in omega arith

pub result_within : (ks : List Kind) (ports : List Port) (cs : List Call) (ws : List Bits) (number : ℕ) → HasOperands ks ports cs ws (node.Result number) → number < length cs
result_within ks ports cs ws number h = called_within ks h.widths cs number h.width h.is

-- ---- operators

module _ (ks : List Kind) (ports : List Port) (cs : List Call) (ws : List Bits) (x : Node) (h : HasOperands ks ports cs ws x) where
  -- a node of this form has this width
  width_of : (y : Node) → x ≡ y → node_width ports ks cs h.widths y ≡ Some h.width
  width_of y e = subst (λ (z : Node). node_width ports ks cs h.widths z ≡ Some h.width) e h.is

  -- the word of an operand has the width that is known of it
  operand : (a u : ℕ) → slice_get h.widths a ≡ Some u → (at ws a).width ≡ u
  operand a u e = (word_there h.widths ws h.have a u e).same_width

  module _ (o : Operator) (a b : ℕ) (e : x ≡ node.Two o a b) where
    pub two_same : is_shift o ≡ false → (at ws a).width ≡ (at ws b).width
    two_same no_shift = of (slice_get h.widths a) (slice_get h.widths b) refl refl (width_of (node.Two o a b) e)
      where
        of : (p q : Option ℕ) → slice_get h.widths a ≡ p → slice_get h.widths b ≡ q → two_width o p q ≡ Some h.width → (at ws a).width ≡ (at ws b).width
        of None q j k w = absurd (let n : ⊥ = cc in n)
        of (Some u) None j k w = absurd (let n : ⊥ = cc in n)
        of (Some u) (Some v) j k w =
            let w : if_width (u == v) (if gives_bit o then 1 else u) ≡ Some h.width = ap (λ (t : Bool). if t then Some u else if_width (u == v) (if gives_bit o then 1 else u)) (sym no_shift) ∙ w in
            let same = eqb-true u v (where_width (u == v) (if gives_bit o then 1 else u) h.width w).0 in
            operand a u j ∙ same ∙ sym (operand b v k)

    pub two_is : between o (at ws a) (at ws b) ≡ operate o (at ws a) (at ws b)
    unfolding between
    two_is = of (is_shift o) refl
      where
        of : (t : Bool) → is_shift o ≡ t → (if t || ((at ws a).width == (at ws b).width) then operate o (at ws a) (at ws b) else at ws a) ≡ operate o (at ws a) (at ws b)
        of true s = refl
        of false s = ap (λ (t : Bool). if t then operate o (at ws a) (at ws b) else at ws a) (eq-eqb (at ws a).width (at ws b).width (two_same s))

  module _ (a high low : ℕ) (e : x ≡ node.Slice a high low) where
    slice_fits : (nat_le low high && nat_lt high (at ws a).width) ≡ true
    slice_fits = of (slice_get h.widths a) refl (width_of (node.Slice a high low) e)
      where
        of : (p : Option ℕ) → slice_get h.widths a ≡ p → slice_width p high low ≡ Some h.width → (nat_le low high && nat_lt high (at ws a).width) ≡ true
        of None j w = absurd (let n : ⊥ = cc in n)
        of (Some u) j w = ap (λ (n : ℕ). nat_le low high && nat_lt high n) (operand a u j) ∙ (where_width (nat_le low high && nat_lt high u) (high - low + 1) h.width w).0

    pub slice_order : low ≤ high
    slice_order = leb-true low high (and_parts (nat_le low high) (nat_lt high (at ws a).width) slice_fits).0

    pub slice_within : high < (at ws a).width
    slice_within = ltb-true high (at ws a).width (and_parts (nat_le low high) (nat_lt high (at ws a).width) slice_fits).1

    pub slice_is : sliced (at ws a) high low ≡ word_slice (at ws a) high low
    unfolding sliced
    slice_is = ap (λ (t : Bool). if t then word_slice (at ws a) high low else at ws a) slice_fits

  module _ (a b : ℕ) (e : x ≡ node.Join a b) where
    join_fits : nat_le ((at ws a).width + (at ws b).width) 128 ≡ true
    join_fits = of (slice_get h.widths a) (slice_get h.widths b) refl refl (width_of (node.Join a b) e)
      where
        of : (p q : Option ℕ) → slice_get h.widths a ≡ p → slice_get h.widths b ≡ q → join_width p q ≡ Some h.width → nat_le ((at ws a).width + (at ws b).width) 128 ≡ true
        of None q j k w = absurd (let n : ⊥ = cc in n)
        of (Some u) None j k w = absurd (let n : ⊥ = cc in n)
        of (Some u) (Some v) j k w = ap₂ (λ (m n : ℕ). nat_le (m + n) 128) (operand a u j) (operand b v k) ∙ (where_width (nat_le (u + v) 128) (u + v) h.width w).0

    pub join_within : (at ws a).width + (at ws b).width ≤ 128
    join_within = leb-true ((at ws a).width + (at ws b).width) 128 join_fits

    pub join_is : joined (at ws a) (at ws b) ≡ word_concat (at ws a) (at ws b)
    unfolding joined
    join_is = ap (λ (t : Bool). if t then word_concat (at ws a) (at ws b) else at ws a) join_fits

  extend_fits : (a w : ℕ) (p : Option ℕ) → slice_get h.widths a ≡ p → extend_width p w ≡ Some h.width → (nat_le (at ws a).width w && nat_le w 128) ≡ true
  extend_fits a w None j e = absurd (let n : ⊥ = cc in n)
  extend_fits a w (Some u) j e = ap (λ (n : ℕ). nat_le n w && nat_le w 128) (operand a u j) ∙ (where_width (nat_le u w && nat_le w 128) w h.width e).0

  module _ (a w : ℕ) (fits : (nat_le (at ws a).width w && nat_le w 128) ≡ true) where
    wider : (at ws a).width ≤ w
    wider = leb-true (at ws a).width w (and_parts (nat_le (at ws a).width w) (nat_le w 128) fits).0

    most : w ≤ 128
    most = leb-true w 128 (and_parts (nat_le (at ws a).width w) (nat_le w 128) fits).1

  module _ (a w : ℕ) (e : x ≡ node.Extend a w) where
    fits_extended : (nat_le (at ws a).width w && nat_le w 128) ≡ true
    fits_extended = extend_fits a w (slice_get h.widths a) refl (width_of (node.Extend a w) e)

    pub extend_wider : (at ws a).width ≤ w
    extend_wider = wider a w fits_extended

    pub extend_is : extended (at ws a) w ≡ word_extend (at ws a) w
    unfolding extended
    extend_is = ap (λ (t : Bool). if t then word_extend (at ws a) w else at ws a) fits_extended

  module _ (a w : ℕ) (e : x ≡ node.SignExtend a w) where
    fits_signed : (nat_le (at ws a).width w && nat_le w 128) ≡ true
    fits_signed = extend_fits a w (slice_get h.widths a) refl (width_of (node.SignExtend a w) e)

    pub sign_wider : (at ws a).width ≤ w
    sign_wider = wider a w fits_signed

    pub sign_is : sign_extended (at ws a) w ≡ word_sign_extend (at ws a) w
    unfolding sign_extended
    sign_is = ap (λ (t : Bool). if t then word_sign_extend (at ws a) w else at ws a) fits_signed
