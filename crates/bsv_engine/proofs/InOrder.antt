-- The widths of nodes that are in order.
use Rattle.std.proofs.Common.{◌≡◌, ◌∙◌, ℕ, ◌+◌, ◌-◌, ◌^◌, ◌<◌, ◌≤◌, true, ◌&&◌, List, [], ◌∷◌, ◌++◌, length, get_or, Option, Some, None, sym, ap, ap₂, arith, refl, if◌then◌else◌}
use Rattle.std.specs.Prelude.{slice_get, ◌==◌, nat_le, nat_lt, option_map, min}
use Rattle.std.specs.List.{list_all}
use Rattle.std.proofs.lemmas.List.{length-map, length-append}
use Rattle.std.proofs.lemmas.Bool.{and_parts, ltb-true}
use Rattle.std.proofs.lemmas.Bool.Decides.{nat_tests}
use Rattle.std.proofs.lemmas.Option.{same_Some, slice_get-get_or, get_or_from_slice_get}
use Rattle.bsv_lemmas.proofs.Places.{mapped_at, at_left, at_right}
use Rattle.bsv_bits.specs.declared.operator.Operator.{Operator}
use Rattle.bsv_bits.specs.declared.operator.Operator.TheVariants as operator
use Rattle.bsv_prim.specs.declared.primitive.RegisterInfo.{RegisterInfo}
use Rattle.bsv_design.specs.declared.element.Port.{Port}
use Rattle.bsv_design.specs.design.Widths.{gives_bit, two_width, pick_width, slice_width, join_width, extend_width, node_width, widths_from}
use Rattle.bsv_guard.proofs.Nodes.{chained, where_width}
use Rattle.bsv_net.specs.declared.node.NetNode.{NetNode}
use Rattle.bsv_net.specs.declared.node.NetNode.TheVariants as net
use Rattle.bsv_net.specs.Nets.{as_node, as_nodes, port, ports, register_widths, is_within}
use Rattle.bsv_engine.specs.Widths.{width_of, widths_of}

-- there is one for each node
pub widths_count : (inputs : List ℕ) (registers : List RegisterInfo) (us : List ℕ) (xs : List NetNode) → length (widths_of inputs registers us xs) ≡ length us + length xs
widths_count inputs registers us [] = omega arith
widths_count inputs registers us (x ∷ xs) =
    widths_count inputs registers (us ++ width_of inputs registers us x ∷ []) xs ∙ omega (arith, length-append us (width_of inputs registers us x ∷ []))

no_width : {A : Type 0} (w : ℕ) → None ≡ Some w → A
no_width w e = absurd (let n : ⊥ = cc in n)

two_is : (o : Operator) (u v w : ℕ) → two_width o (Some u) (Some v) ≡ Some w → (if gives_bit o then 1 else u) ≡ w
two_is operator.Add u v w e = (where_width (u == v) u w e).1
two_is operator.Sub u v w e = (where_width (u == v) u w e).1
two_is operator.Mul u v w e = (where_width (u == v) u w e).1
two_is operator.And u v w e = (where_width (u == v) u w e).1
two_is operator.Or u v w e = (where_width (u == v) u w e).1
two_is operator.Xor u v w e = (where_width (u == v) u w e).1
two_is operator.Same u v w e = (where_width (u == v) 1 w e).1
two_is operator.Less u v w e = (where_width (u == v) 1 w e).1
two_is operator.LessSigned u v w e = (where_width (u == v) 1 w e).1
two_is operator.Shl u v w e = same_Some u w e
two_is operator.Shr u v w e = same_Some u w e
two_is operator.Sar u v w e = same_Some u w e

module _ (us : List ℕ) where
  two_of : (o : Operator) (a w : ℕ) (p q : Option ℕ) → slice_get us a ≡ p → two_width o p q ≡ Some w → (if gives_bit o then 1 else get_or us a 0) ≡ w
  two_of o a w None q i e = no_width w e
  two_of o a w (Some u) None i e = no_width w e
  two_of o a w (Some u) (Some v) i e = ap (λ n. if gives_bit o then 1 else n) (get_or_from_slice_get us a u 0 i) ∙ two_is o u v w e

  pick_of : (a w : ℕ) (p q r : Option ℕ) → slice_get us a ≡ q → pick_width p q r ≡ Some w → get_or us a 0 ≡ w
  pick_of a w None q r i e = no_width w e
  pick_of a w (Some t) None r i e = no_width w e
  pick_of a w (Some t) (Some u) None i e = no_width w e
  pick_of a w (Some t) (Some u) (Some v) i e = get_or_from_slice_get us a u 0 i ∙ (where_width ((t == 1) && (u == v)) u w e).1

  slice_of : (a high low w : ℕ) (p : Option ℕ) → slice_get us a ≡ p → slice_width p high low ≡ Some w → min (high - low + 1) (get_or us a 0) ≡ w
  slice_of a high low w None i e = no_width w e
  slice_of a high low w (Some u) i e =
      let is = where_width (nat_le low high && nat_lt high u) (high - low + 1) w e in
      let below : high < u = ltb-true high u (and_parts (nat_le low high) (nat_lt high u) is.0).1 in
      ap (min (high - low + 1)) (get_or_from_slice_get us a u 0 i) ∙ omega (arith, is.1)

  join_of : (a b w : ℕ) (p q : Option ℕ) → slice_get us a ≡ p → slice_get us b ≡ q → join_width p q ≡ Some w → min (get_or us a 0 + get_or us b 0) (2 ^ 32 - 1) ≡ w
  join_of a b w None q i j e = no_width w e
  join_of a b w (Some u) None i j e = no_width w e
  join_of a b w (Some u) (Some v) i j e =
      let is = where_width (nat_le (u + v) 128) (u + v) w e in
      let most : u + v ≤ 128 = few (u + v) is.0 in
      ap₂ (λ m n. min (m + n) (2 ^ 32 - 1)) (get_or_from_slice_get us a u 0 i) (get_or_from_slice_get us b v 0 j) ∙ omega (arith, is.1)
    where
      few : (n : ℕ) → nat_le n 128 ≡ true → n ≤ 128
      few n e = grind (arith, nat_tests)

  extend_of : (width w : ℕ) (p : Option ℕ) → extend_width p width ≡ Some w → width ≡ w
  extend_of width w None e = no_width w e
  extend_of width w (Some u) e = (where_width (nat_le u width && nat_le width 128) width w e).1

module _ (inputs : List ℕ) (registers : List RegisterInfo) where
  argument_is : (k u w : ℕ) → slice_get (inputs ++ register_widths registers) k ≡ Some u → option_map (λ (p : Port). p.width) (slice_get (ports inputs registers) k) ≡ Some w → u ≡ w
  argument_is k u w there e = same_Some u w (sym (ap (option_map (λ (p : Port). p.width)) (mapped_at port (inputs ++ register_widths registers) k u there)) ∙ e)

  one_width : (us : List ℕ) (x : NetNode) (w : ℕ) → is_within (length inputs) (length registers) x ≡ true → node_width (ports inputs registers) [] [] us (as_node (length inputs) x) ≡ Some w → width_of inputs registers us x ≡ w
  one_width us (net.Input k) w h e =
      let l = ltb-true k (length inputs) h in
      argument_is k (get_or inputs k 0) w (at_left inputs (register_widths registers) k l ∙ slice_get-get_or inputs k 0 l) e
  one_width us (net.Register k) w h e =
      let l : k < length (register_widths registers) = omega (arith, ltb-true k (length registers) h, length-map registers (λ (r : RegisterInfo). r.width)) in
      argument_is (length inputs + k) (get_or (register_widths registers) k 0) w (at_right inputs (register_widths registers) k ∙ slice_get-get_or (register_widths registers) k 0 l) e
  one_width us (net.Constant v) w h e = (where_width (nat_le 1 v.width && nat_le v.width 128 && nat_lt v.value (2 ^ v.width)) v.width w e).1
  one_width us (net.Not a) w h e = get_or_from_slice_get us a w 0 e
  one_width us (net.Two o a b) w h e = two_of us o a w (slice_get us a) (slice_get us b) refl e
  one_width us (net.Pick t a b) w h e = pick_of us a w (slice_get us t) (slice_get us a) (slice_get us b) refl e
  one_width us (net.Slice a high low) w h e = slice_of us a high low w (slice_get us a) refl e
  one_width us (net.Join a b) w h e = join_of us a b w (slice_get us a) (slice_get us b) refl refl e
  one_width us (net.Extend a width) w h e = extend_of us width w (slice_get us a) e
  one_width us (net.SignExtend a width) w h e = extend_of us width w (slice_get us a) e

  pub widths_are : (us ends : List ℕ) (xs : List NetNode) → list_all (is_within (length inputs) (length registers)) xs ≡ true
      → widths_from (ports inputs registers) [] [] us (as_nodes (length inputs) xs) ≡ Some ends → widths_of inputs registers us xs ≡ ends
  unfolding widths_from
  widths_are us ends [] h e = same_Some us ends e
  widths_are us ends (x ∷ xs) h e =
      let n : ℕ = length inputs in
      let c = chained (node_width (ports inputs registers) [] [] us (as_node n x)) (λ w. widths_from (ports inputs registers) [] [] (us ++ w ∷ []) (as_nodes n xs)) ends e in
      let parts = and_parts (is_within n (length registers) x) (list_all (is_within n (length registers)) xs) h in
      ap (λ w. widths_of inputs registers (us ++ w ∷ []) xs) (one_width us x c.width parts.0 c.first)
      ∙ widths_are (us ++ c.width ∷ []) ends xs parts.1 c.rest
