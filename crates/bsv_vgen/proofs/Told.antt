-- Where words solve the assignments of the module, the atom of each node of the net has the node's word.
use Rattle.std.proofs.Common.{◌≡◌, ◌∙◌, ℕ, ◌+◌, ◌-◌, ◌<◌, ◌≤◌, Bool, true, false, List, [], ◌∷◌, length, Some, refl, sym, ap, ap₂, subst, arith}
use Rattle.std.specs.Prelude.{nat_eq, nat_lt, if◌then◌else◌, slice_get}
use Rattle.std.proofs.lemmas.Bool.{ltb-true, ltb-false}
use Rattle.bsv_bits.specs.Words.{Bits, bit, zero_word, word_not, word_slice, word_concat, word_extend}
use Rattle.bsv_bits.specs.Operators.{operate}
use Rattle.bsv_bits.specs.Signed.{word_less_signed, word_sign_extend}
use Rattle.bsv_bits.specs.declared.operator.Operator.{Operator}
use Rattle.bsv_bits.specs.declared.operator.Operator.TheVariants as operator
use Rattle.bsv_prim.specs.Table.{IsWordOf}
use Rattle.bsv_design.specs.design.Computing.{sliced}
use Rattle.bsv_vtext.specs.declared.tree.Assign.{Assign}
use Rattle.bsv_vtext.specs.declared.tree.Atom.{Atom}
use Rattle.bsv_vtext.specs.declared.tree.Atom.TheVariants as atom
use Rattle.bsv_vtext.specs.declared.tree.Side.{Side}
use Rattle.bsv_vtext.specs.declared.tree.Side.TheVariants as side
use Rattle.bsv_vtext.specs.declared.tree.Target.TheVariants as target
use Rattle.bsv_vtext.specs.Signals.{VModuleData}
use Rattle.bsv_vtext.specs.VClock.{Inputs, Nets, atom_word, side_word}
use Rattle.bsv_vgen.specs.declared.known.Known.{Known}
use Rattle.bsv_vgen.specs.Lines.{Written, Step, constant, with_line, two_side, slice, join, zeros, extend, negative, filling, join_above, sign_extend}
use Rattle.bsv_vgen.specs.Names.{numbered_wire}
use Rattle.bsv_vgen.proofs.Fronts.{Reaches, line_there}
use Rattle.bsv_vgen.proofs.Before.{join_before, filling_before}
use Rattle.bsv_vgen.proofs.Knowing.{zeros_are}
use Rattle.bsv_vgen.proofs.Extensions.{zeros_above, same_bits, signs_above, same_number}

-- an operator is written as it computes
two_word : (word : Atom → Bits) (o : Operator) (a b : Atom) → side_word word (two_side o a b) ≡ operate o (word a) (word b)
two_word word operator.Add a b = refl
two_word word operator.Sub a b = refl
two_word word operator.Mul a b = refl
two_word word operator.And a b = refl
two_word word operator.Or a b = refl
two_word word operator.Xor a b = refl
two_word word operator.Same a b = refl
two_word word operator.Less a b = refl
two_word word operator.LessSigned a b = refl
two_word word operator.Shl a b = refl
two_word word operator.Shr a b = refl
two_word word operator.Sar a b = refl

-- the assignments of a module are true as equations
abbrev pub Solved : VModuleData → List Bits → Inputs → Nets → Type 0
Solved m ws ins nets = (l : ℕ) (x : Assign) → slice_get m.assigns l ≡ Some x → nets x.target ≡ side_word (atom_word ws ins nets) x.side

module _ (m : VModuleData) (ws : List Bits) (ins : Inputs) (nets : Nets) (solved : Solved m ws ins nets) where
  abbrev word : Atom → Bits
  word a = atom_word ws ins nets a

  pub line_told : (w : Written) (u : ℕ) (s : Side) → Reaches m (with_line w u s) → word (atom.Wire (length w.wires)) ≡ side_word word s
  line_told w u s r = solved (length w.wires) (record { target = target.Wire (length w.wires); side = s }) (line_there m w (numbered_wire (length w.wires) u) s r).assign_there

  pub two_told : (w : Written) (u : ℕ) (o : Operator) (a b : Atom) → Reaches m (with_line w u (two_side o a b))
      → word (atom.Wire (length w.wires)) ≡ operate o (word a) (word b)
  two_told w u o a b r = line_told w u (two_side o a b) r ∙ two_word word o a b

  pub slice_told : (w : Written) (a : Atom) (v own : Bits) (high low : ℕ) → word a ≡ v → own ≡ word_slice v high low → own ≡ sliced v high low
      → Reaches m (slice w a high low).written → word (slice w a high low).known.atom ≡ own
  slice_told w (atom.Enable k) v own high low e as_slice as_part r =
      line_told w (high - low + 1) (side.Slice (atom.Enable k) high low) r ∙ ap (λ (x : Bits). word_slice x high low) e ∙ sym as_slice
  slice_told w (atom.Argument k i) v own high low e as_slice as_part r =
      line_told w (high - low + 1) (side.Slice (atom.Argument k i) high low) r ∙ ap (λ (x : Bits). word_slice x high low) e ∙ sym as_slice
  slice_told w (atom.Register k) v own high low e as_slice as_part r =
      line_told w (high - low + 1) (side.Slice (atom.Register k) high low) r ∙ ap (λ (x : Bits). word_slice x high low) e ∙ sym as_slice
  slice_told w (atom.Wire k) v own high low e as_slice as_part r =
      line_told w (high - low + 1) (side.Slice (atom.Wire k) high low) r ∙ ap (λ (x : Bits). word_slice x high low) e ∙ sym as_slice
  slice_told w (atom.Constant x) v own high low e as_slice as_part r = ap (λ (y : Bits). sliced y high low) e ∙ sym as_part

  pub join_told : (w : Written) (a b : Known) → Reaches m (join w a b).written → word (join w a b).known.atom ≡ word_concat (word a.atom) (word b.atom)
  join_told w a b r = line_told w (a.width + b.width) (side.Join (a.atom ∷ b.atom ∷ [])) r

  -- ---- more bits above

  module _ (w : Written) (a : Known) (v : Bits) (ua u : ℕ) (is : word a.atom ≡ v) (width : a.width ≡ ua) (own : IsWordOf ua v) (fits : ua ≤ u) (most : u ≤ 128) where
    width_of : a.width ≡ v.width
    width_of = width ∙ sym own.same_width

    abbrev zero_constant : Known
    zero_constant = constant (zeros (u - a.width))

    wider : a.width < u → (zeros (u - a.width) ≡ zero_word (u - a.width)) × (u - a.width + v.width ≡ u)
    wider less =
        let some = own.word.some in
        let same = width_of in
        (zeros_are (u - a.width) (omega (arith, less)) (omega (arith, most)), omega (arith, less, same))

    abbrev extension : Bool → Step
    extension b = if b then join w zero_constant a else record { written = w; known = a }

    pub extend_told : Reaches m (extend w a u).written → word (extend w a u).known.atom ≡ word_extend v u
    extend_told r = of (nat_lt a.width u) refl r
      where
        of : (b : Bool) → nat_lt a.width u ≡ b → Reaches m (extension b).written → word (extension b).known.atom ≡ word_extend v u
        of true e reaches =
            let less = ltb-true a.width u e in
            let h = wider less in
            join_told w zero_constant a reaches ∙ ap₂ word_concat h.0 is ∙ zeros_above v (u - a.width) u h.1
        of false e reaches = is ∙ same_bits v u (let l = ltb-false a.width u e in let s = width_of in omega (arith, l, s, fits, width))

    abbrev filling_of : Step
    filling_of = filling (negative w a) (u - a.width)

    abbrev sign_extension : Bool → Step
    sign_extension b = if b then join_above filling_of a else record { written = w; known = a }

    negative_told : Reaches m (negative w a).written → 1 ≤ ua → ua ≤ 128 → word (negative w a).known.atom ≡ bit (word_less_signed v (zero_word v.width))
    negative_told r some few =
        let none : zeros a.width ≡ zero_word v.width = ap zeros width_of ∙ zeros_are v.width own.word.some own.word.most in
        line_told w 1 (side.LessSigned a.atom (atom.Constant (zeros a.width))) r ∙ ap₂ (λ (x y : Bits). bit (word_less_signed x y)) is none

    filling_told : (t : Bool) → zeros (u - a.width) ≡ zero_word (u - a.width) → word (negative w a).known.atom ≡ bit t → Reaches m filling_of.written
        → word filling_of.known.atom ≡ (if nat_eq (bit t).value 1 then word_not (zero_word (u - a.width)) else zero_word (u - a.width))
    filling_told t none test r =
        line_told (negative w a).written (u - a.width) (side.Pick (negative w a).known.atom (atom.Constant (word_not (zeros (u - a.width)))) (atom.Constant (zeros (u - a.width)))) r
        ∙ ap₂ (λ (x y : Bits). if nat_eq x.value 1 then word_not y else y) test none

    pub sign_extend_told : Reaches m (sign_extend w a u).written → word (sign_extend w a u).known.atom ≡ word_sign_extend v u
    sign_extend_told r = of (nat_lt a.width u) refl r
      where
        of : (b : Bool) → nat_lt a.width u ≡ b → Reaches m (sign_extension b).written → word (sign_extension b).known.atom ≡ word_sign_extend v u
        of true e reaches =
            let less = ltb-true a.width u e in
            let h = wider less in
            let second = join_before m filling_of.written filling_of.known a reaches in
            let first = filling_before m (negative w a) (u - a.width) second in
            let test = negative_told first (subst (λ (n : ℕ). 1 ≤ n) own.same_width own.word.some) (subst (λ (n : ℕ). n ≤ 128) own.same_width own.word.most) in
            let above = filling_told (word_less_signed v (zero_word v.width)) h.0 test second in
            join_told filling_of.written filling_of.known a reaches ∙ ap₂ word_concat above is ∙ signs_above v (u - a.width) u own.word h.1
        of false e reaches = is ∙ same_number v u own.word (let l = ltb-false a.width u e in let s = width_of in omega (arith, l, s, fits, width))
