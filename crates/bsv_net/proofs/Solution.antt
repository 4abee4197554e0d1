-- The words of a net are a solution of its equations.
use Rattle.std.proofs.Common.{◌≡◌, ◌∙◌, ℕ, zero, suc, ◌+◌, ◌-◌, Bool, true, false, ◌&&◌, ◌||◌, List, [], ◌∷◌, ◌++◌, length, map, Option, Some, None, refl, sym, ap, ap₂, subst, arith, append_assoc, append-nil, length-append}
use Rattle.std.specs.Prelude.{◌==◌, nat_le, nat_lt, if◌then◌else◌, slice_get}
use Rattle.std.proofs.lemmas.Bool.{ltb-true, eqb-true, eq-eqb}
use Rattle.std.proofs.lemmas.Option.{same_Some}
use Rattle.bsv_lemmas.proofs.Places.{mapped_at, at_left, at_right}
use Rattle.bsv_bits.specs.Operators.{operate, is_shift}
use Rattle.bsv_bits.specs.Signed.{word_sign_extend}
use Rattle.bsv_bits.specs.Words.{Bits, word_slice, word_concat, word_extend}
use Rattle.bsv_bits.specs.declared.operator.Operator.{Operator}
use Rattle.bsv_design.specs.declared.element.Port.{Port}
use Rattle.bsv_design.specs.declared.node.Node.{Node}
use Rattle.bsv_design.specs.design.Bodies.{at, node_word, values, words_after}
use Rattle.bsv_design.specs.design.Computing.{between, sliced, joined, extended, sign_extended}
use Rattle.bsv_design.specs.scheme.Relations.{no_answers}
use Rattle.bsv_design.specs.design.Words.{or_zero}
use Rattle.bsv_design.specs.scheme.States.{AreWordsOf}
use Rattle.bsv_design.specs.design.Widths.{if_width, gives_bit, two_width, slice_width, join_width, extend_width, node_width, widths_from}
use Rattle.bsv_guard.specs.Fitting.{HaveWidths}
use Rattle.bsv_guard.proofs.BodyFits.{word_there, words_fit}
use Rattle.bsv_guard.proofs.Lists.{holds_at_all}
use Rattle.bsv_guard.proofs.Nodes.{grown, chained, where_width}
use Rattle.bsv_net.specs.declared.net_data.NetData.{NetData}
use Rattle.bsv_net.specs.declared.node.NetNode.{NetNode}
use Rattle.bsv_net.specs.declared.node.NetNode.TheVariants as net
use Rattle.bsv_net.specs.Nets.{as_node, as_nodes, port, ports, register_widths, word, words, is_within, IsNet}
use Rattle.bsv_net.specs.Equations.{Satisfies, operated, computed}
use Rattle.bsv_net.proofs.Operands.{Below, is_below, width_kept, word_kept}

-- ---- words of widths

pub same_length : (us : List ℕ) (vs : List Bits) → HaveWidths us vs → length us ≡ length vs
same_length [] [] h = refl
same_length [] (v ∷ vs) h = absurd h
same_length (u ∷ us) [] h = absurd h
same_length (u ∷ us) (v ∷ vs) h = ap suc (same_length us vs h.1)

pub have_both : (us : List ℕ) (vs : List Bits) (more : List ℕ) (ws : List Bits) → HaveWidths us vs → HaveWidths more ws → HaveWidths (us ++ more) (vs ++ ws)
have_both [] [] more ws h k = k
have_both [] (v ∷ vs) more ws h k = absurd h
have_both (u ∷ us) [] more ws h k = absurd h
have_both (u ∷ us) (v ∷ vs) more ws h k = (h.0, have_both us vs more ws h.1 k)

words_of_ports : (us : List ℕ) (vs : List Bits) → HaveWidths us vs → AreWordsOf (map port us) vs
words_of_ports [] [] h = tt
words_of_ports [] (v ∷ vs) h = absurd h
words_of_ports (u ∷ us) [] h = absurd h
words_of_ports (u ∷ us) (v ∷ vs) h = (h.0, words_of_ports us vs h.1)

-- ---- each node

widths_grown : (ps : List Port) (ns : List Node) (us ends : List ℕ) → widths_from ps [] [] us ns ≡ Some ends → (more : List ℕ) × (ends ≡ us ++ more)
unfolding widths_from
widths_grown ps [] us ends e = ([], (let same : us ≡ ends = same_Some us ends e in sym same ∙ sym (append-nil us)))
widths_grown ps (x ∷ ns) us ends e =
    let c = chained (node_width ps [] [] us x) (λ w. widths_from ps [] [] (us ++ w ∷ []) ns) ends e in
    let g = widths_grown ps ns (us ++ c.width ∷ []) ends c.rest in
    (c.width ∷ g.0, g.1 ∙ append_assoc us (c.width ∷ []) g.0)

module _ (ps : List Port) (arguments : List Bits) where
  -- after nodes of these widths and words, a node has its width, and the word that its operator gives
  record IsAt (ends : List ℕ) (all : List Bits) (k : ℕ) (x : Node) : Type 0 where
    width : ℕ
    has : node_width ps [] [] ends x ≡ Some width
    word : at all k ≡ node_word no_answers arguments [] all x

  abbrev following : List Bits → List Node → List Bits
  following vs ns = values no_answers arguments [] vs ns

  first_at : (x : Node) (vs : List Bits) (us : List ℕ) (width : ℕ) (after : List ℕ) (behind : List Bits) → length vs ≡ length us → node_width ps [] [] us x ≡ Some width
      → IsAt (us ++ width ∷ after) (vs ++ node_word no_answers arguments [] vs x ∷ behind) (length vs + 0) x
  first_at x vs us width after behind long e =
      let below = is_below us ps x width e in
      let w : Bits = node_word no_answers arguments [] vs x in
      record {
        width = width;
        has = width_kept us ps (width ∷ after) x below ∙ e;
        word = ap or_zero (at_right vs (w ∷ behind) 0) ∙ sym (word_kept arguments vs (w ∷ behind) x (subst (λ (n : ℕ). Below n x) (sym long) below));
      }

  each_at : (ns : List Node) (vs : List Bits) (us ends : List ℕ) → length vs ≡ length us → widths_from ps [] [] us ns ≡ Some ends → (k : ℕ) (x : Node) → slice_get ns k ≡ Some x
      → IsAt ends (following vs ns) (length vs + k) x
  unfolding words_after widths_from
  each_at [] vs us ends long e k x there = absurd (let n : ⊥ = cc in n)
  each_at (y ∷ ns) vs us ends long e zero x there =
      let same : y ≡ x = same_Some y x there in
      let c = chained (node_width ps [] [] us y) (λ w. widths_from ps [] [] (us ++ w ∷ []) ns) ends e in
      let w : Bits = node_word no_answers arguments [] vs y in
      let g = grown [] ps [] arguments no_answers (vs ++ w ∷ []) ns in
      let ws = widths_grown ps ns (us ++ c.width ∷ []) ends c.rest in
      let here = first_at y vs us c.width ws.0 g.0 long c.first in
      let there : IsAt ends (vs ++ w ∷ g.0) (length vs + 0) y = subst (λ (ms : List ℕ). IsAt ms (vs ++ w ∷ g.0) (length vs + 0) y) (sym (ws.1 ∙ append_assoc us (c.width ∷ []) ws.0)) here in
      let all : IsAt ends (following (vs ++ w ∷ []) ns) (length vs + 0) y = subst (λ (bs : List Bits). IsAt ends bs (length vs + 0) y) (sym (g.1 ∙ append_assoc vs (w ∷ []) g.0)) there in
      subst (IsAt ends (following (vs ++ w ∷ []) ns) (length vs + 0)) same all
  each_at (y ∷ ns) vs us ends long e (suc k) x there =
      let c = chained (node_width ps [] [] us y) (λ w. widths_from ps [] [] (us ++ w ∷ []) ns) ends e in
      let w : Bits = node_word no_answers arguments [] vs y in
      let more : length (vs ++ w ∷ []) ≡ length (us ++ c.width ∷ []) = omega (arith, length-append vs (w ∷ []), length-append us (c.width ∷ [])) in
      let rest = each_at ns (vs ++ w ∷ []) (us ++ c.width ∷ []) ends more c.rest k x there in
      let place : length (vs ++ w ∷ []) + k ≡ length vs + suc k = omega (arith, length-append vs (w ∷ [])) in
      subst (λ (j : ℕ). IsAt ends (following (vs ++ w ∷ []) ns) j x) place rest

-- ---- as a net computes

pub as_computed : (inputs registers vs : List Bits) (m : ℕ) (x : NetNode) → is_within (length inputs) m x ≡ true → word inputs registers vs x ≡ computed inputs registers (at vs) x
as_computed inputs registers vs m (net.Input k) h = ap or_zero (at_left inputs registers k (ltb-true k (length inputs) h))
as_computed inputs registers vs m (net.Register k) h = ap or_zero (at_right inputs registers k)
as_computed inputs registers vs m (net.Constant w) h = refl
as_computed inputs registers vs m (net.Not a) h = refl
as_computed inputs registers vs m (net.Two o a b) h = refl
as_computed inputs registers vs m (net.Pick t a b) h = refl
as_computed inputs registers vs m (net.Slice a high low) h = refl
as_computed inputs registers vs m (net.Join a b) h = refl
as_computed inputs registers vs m (net.Extend a width) h = refl
as_computed inputs registers vs m (net.SignExtend a width) h = refl

-- ---- as operators compute

module _ (us : List ℕ) (vs : List Bits) (have : HaveWidths us vs) where
  operand : (a u : ℕ) → slice_get us a ≡ Some u → (at vs a).width ≡ u
  operand a u e = (word_there us vs have a u e).same_width

  two_same : (o : Operator) (a b v : ℕ) (p q : Option ℕ) → slice_get us a ≡ p → slice_get us b ≡ q → two_width o p q ≡ Some v → is_shift o ≡ false → (at vs a).width ≡ (at vs b).width
  two_same o a b v None q i j e no_shift = absurd (let n : ⊥ = cc in n)
  two_same o a b v (Some u) None i j e no_shift = absurd (let n : ⊥ = cc in n)
  two_same o a b v (Some u) (Some w) i j e no_shift =
      let f : if_width (u == w) (if gives_bit o then 1 else u) ≡ Some v = ap (λ (t : Bool). if t then Some u else if_width (u == w) (if gives_bit o then 1 else u)) (sym no_shift) ∙ e in
      let same = eqb-true u w (where_width (u == w) (if gives_bit o then 1 else u) v f).0 in
      operand a u i ∙ same ∙ sym (operand b w j)

  two_is : (o : Operator) (a b : ℕ) → (is_shift o ≡ false → (at vs a).width ≡ (at vs b).width) → between o (at vs a) (at vs b) ≡ operate o (at vs a) (at vs b)
  unfolding between
  two_is o a b same = of (is_shift o) refl
    where
      of : (t : Bool) → is_shift o ≡ t → (if t || ((at vs a).width == (at vs b).width) then operate o (at vs a) (at vs b) else at vs a) ≡ operate o (at vs a) (at vs b)
      of true s = refl
      of false s = ap (λ (t : Bool). if t then operate o (at vs a) (at vs b) else at vs a) (eq-eqb (at vs a).width (at vs b).width (same s))

  slice_is : (a high low v : ℕ) (p : Option ℕ) → slice_get us a ≡ p → slice_width p high low ≡ Some v → sliced (at vs a) high low ≡ word_slice (at vs a) high low
  unfolding sliced
  slice_is a high low v None i e = absurd (let n : ⊥ = cc in n)
  slice_is a high low v (Some u) i e =
      let fits = ap (λ (n : ℕ). nat_le low high && nat_lt high n) (operand a u i) ∙ (where_width (nat_le low high && nat_lt high u) (high - low + 1) v e).0 in
      ap (λ (t : Bool). if t then word_slice (at vs a) high low else at vs a) fits

  join_is : (a b v : ℕ) (p q : Option ℕ) → slice_get us a ≡ p → slice_get us b ≡ q → join_width p q ≡ Some v → joined (at vs a) (at vs b) ≡ word_concat (at vs a) (at vs b)
  unfolding joined
  join_is a b v None q i j e = absurd (let n : ⊥ = cc in n)
  join_is a b v (Some u) None i j e = absurd (let n : ⊥ = cc in n)
  join_is a b v (Some u) (Some w) i j e =
      let fits = ap₂ (λ (m n : ℕ). nat_le (m + n) 128) (operand a u i) (operand b w j) ∙ (where_width (nat_le (u + w) 128) (u + w) v e).0 in
      ap (λ (t : Bool). if t then word_concat (at vs a) (at vs b) else at vs a) fits

  wider : (a width v : ℕ) (p : Option ℕ) → slice_get us a ≡ p → extend_width p width ≡ Some v → (nat_le (at vs a).width width && nat_le width 128) ≡ true
  wider a width v None i e = absurd (let n : ⊥ = cc in n)
  wider a width v (Some u) i e = ap (λ (n : ℕ). nat_le n width && nat_le width 128) (operand a u i) ∙ (where_width (nat_le u width && nat_le width 128) width v e).0

  extend_is : (a width : ℕ) → (nat_le (at vs a).width width && nat_le width 128) ≡ true → extended (at vs a) width ≡ word_extend (at vs a) width
  unfolding extended
  extend_is a width fits = ap (λ (t : Bool). if t then word_extend (at vs a) width else at vs a) fits

  sign_extend_is : (a width : ℕ) → (nat_le (at vs a).width width && nat_le width 128) ≡ true → sign_extended (at vs a) width ≡ word_sign_extend (at vs a) width
  unfolding sign_extended
  sign_extend_is a width fits = ap (λ (t : Bool). if t then word_sign_extend (at vs a) width else at vs a) fits

  as_operated : (inputs registers : List Bits) (ps : List Port) (n : ℕ) (x : NetNode) (v : ℕ) → node_width ps [] [] us (as_node n x) ≡ Some v → computed inputs registers (at vs) x ≡ operated inputs registers (at vs) x
  as_operated inputs registers ps n (net.Input k) v e = refl
  as_operated inputs registers ps n (net.Register k) v e = refl
  as_operated inputs registers ps n (net.Constant w) v e = refl
  as_operated inputs registers ps n (net.Not a) v e = refl
  as_operated inputs registers ps n (net.Two o a b) v e = two_is o a b (two_same o a b v (slice_get us a) (slice_get us b) refl refl e)
  as_operated inputs registers ps n (net.Pick t a b) v e = refl
  as_operated inputs registers ps n (net.Slice a high low) v e = slice_is a high low v (slice_get us a) refl e
  as_operated inputs registers ps n (net.Join a b) v e = join_is a b v (slice_get us a) (slice_get us b) refl refl e
  as_operated inputs registers ps n (net.Extend a width) v e = extend_is a width (wider a width v (slice_get us a) refl e)
  as_operated inputs registers ps n (net.SignExtend a width) v e = sign_extend_is a width (wider a width v (slice_get us a) refl e)

-- ---- all nodes

module _ (c : NetData) (right : IsNet c) (inputs registers : List Bits) (first : HaveWidths c.inputs inputs) (second : HaveWidths (register_widths c.registers) registers) where
  same : length c.inputs ≡ length inputs
  same = same_length c.inputs inputs first

  widths_are : widths_from (ports c.inputs c.registers) [] [] [] (as_nodes (length inputs) c.nodes) ≡ Some right.widths
  widths_are = subst (λ (n : ℕ). widths_from (ports c.inputs c.registers) [] [] [] (as_nodes n c.nodes) ≡ Some right.widths) same right.nodes

  given : AreWordsOf (ports c.inputs c.registers) (inputs ++ registers)
  given = words_of_ports (c.inputs ++ register_widths c.registers) (inputs ++ registers) (have_both c.inputs inputs (register_widths c.registers) registers first second)

  -- each node has its width
  pub words_have : HaveWidths right.widths (words c.nodes inputs registers)
  unfolding words
  words_have = words_fit [] (ports c.inputs c.registers) [] (inputs ++ registers) given no_answers (λ k t arguments h. absurd h) (as_nodes (length inputs) c.nodes) right.widths widths_are

  node_at : (k : ℕ) (x : NetNode) → slice_get c.nodes k ≡ Some x → IsAt (ports c.inputs c.registers) (inputs ++ registers) right.widths (words c.nodes inputs registers) k (as_node (length inputs) x)
  unfolding words
  node_at k x there =
      let n : ℕ = length inputs in
      let h = each_at (ports c.inputs c.registers) (inputs ++ registers) (as_nodes n c.nodes) [] [] right.widths refl widths_are k (as_node n x) (mapped_at (as_node n) c.nodes k x there) in
      let place : 0 + k ≡ k = omega arith in
      subst (λ (j : ℕ). IsAt (ports c.inputs c.registers) (inputs ++ registers) right.widths (words c.nodes inputs registers) j (as_node n x)) place h

  computed_at : (k : ℕ) (x : NetNode) → slice_get c.nodes k ≡ Some x → at (words c.nodes inputs registers) k ≡ computed inputs registers (at (words c.nodes inputs registers)) x
  computed_at k x there =
      let within = subst (λ (n : ℕ). is_within n (length c.registers) x ≡ true) same (holds_at_all (is_within (length c.inputs) (length c.registers)) c.nodes right.within k x there) in
      (node_at k x there).word ∙ as_computed inputs registers (words c.nodes inputs registers) (length c.registers) x within

  operated_at : (k : ℕ) (x : NetNode) → slice_get c.nodes k ≡ Some x → at (words c.nodes inputs registers) k ≡ operated inputs registers (at (words c.nodes inputs registers)) x
  operated_at k x there =
      let h = node_at k x there in
      computed_at k x there ∙ as_operated right.widths (words c.nodes inputs registers) words_have inputs registers (ports c.inputs c.registers) (length inputs) x h.width h.has

  pub satisfies : Satisfies inputs registers (at (words c.nodes inputs registers)) c.nodes right.widths
  satisfies = record {
    operates = operated_at;
    computes = computed_at;
    fits = word_there right.widths (words c.nodes inputs registers) words_have;
  }
