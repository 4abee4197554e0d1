-- Where the atoms of a side have words of their widths, the side gives a word of its width.
use Rattle.std.proofs.Common.{◌≡◌, ◌∙◌, ℕ, ◌+◌, ◌-◌, ◌<◌, ◌≤◌, Bool, true, false, List, [], ◌∷◌, length, map, Some, refl, sym, ap, ap₂, subst, arith}
use Rattle.std.specs.Prelude.{◌==◌, ◌&&◌, ◌||◌, not, nat_le, nat_lt, if◌then◌else◌}
use Rattle.std.proofs.lemmas.Bool.{eq-eqb, le-leb, lt-ltb}
use Rattle.bsv_bits.specs.Operators.{operate, is_shift}
use Rattle.bsv_bits.specs.Signed.{word_less_signed}
use Rattle.bsv_bits.specs.Words.{Bits, bit, word_concat, word_less, word_same, word_slice}
use Rattle.bsv_bits.specs.declared.operator.Operator.{Operator}
use Rattle.bsv_bits.specs.declared.operator.Operator.TheVariants as bits
use Rattle.bsv_prim.specs.Table.{IsWordOf}
use Rattle.bsv_design.specs.design.Computing as computing
use Rattle.bsv_design.specs.design.Widths.{gives_bit, if_width}
use Rattle.bsv_guard.proofs.Words.{join_fits, not_fits, pick_fits, slice_fits, two_fits}
use Rattle.bsv_vtext.specs.declared.tree.Atom.{Atom}
use Rattle.bsv_vtext.specs.declared.tree.Side.{Side}
use Rattle.bsv_vtext.specs.declared.tree.Side.TheVariants as side
use Rattle.bsv_vtext.specs.declared.tree.VOperator.{VOperator}
use Rattle.bsv_vtext.specs.declared.tree.VOperator.TheVariants as operator
use Rattle.bsv_vtext.specs.VClock.{joined, operated, side_word}
use Rattle.bsv_vtext.specs.Widths.{sort_of, FitsTwo, FitsJoined, FitsSlice, Fits}
use Rattle.bsv_vtext.specs.Widths as widths

-- ---- words that belong together

between_is : (o : Operator) (a b : Bits) → (is_shift o || a.width == b.width) ≡ true → computing.between o a b ≡ operate o a b
unfolding computing.between
between_is o a b e = ap (λ (t : Bool). if t then operate o a b else a) e

even_fits : (o : Operator) (a b : Bits) (u : ℕ) → is_shift o ≡ false → gives_bit o ≡ false → IsWordOf u a → IsWordOf u b
    → IsWordOf u (operate o a b)
even_fits o a b u plain wide h k =
    let same : (a.width == b.width) ≡ true = eq-eqb a.width b.width (h.same_width ∙ sym k.same_width) in
    subst (IsWordOf u) (between_is o a b (ap₂ (λ (x y : Bool). x || y) plain same))
    (two_fits o a b u h.word k.word
    (ap (λ (t : Bool). if t then Some a.width else if_width (a.width == b.width) (if gives_bit o then 1 else a.width)) plain
    ∙ ap₂ (λ (s t : Bool). if_width s (if t then 1 else a.width)) same wide ∙ ap Some h.same_width))

shift_fits : (o : Operator) (a b : Bits) (u v : ℕ) → is_shift o ≡ true → IsWordOf u a → IsWordOf v b → IsWordOf u (operate o a b)
shift_fits o a b u v shifts h k =
    subst (IsWordOf u) (between_is o a b (ap (λ (x : Bool). x || a.width == b.width) shifts))
    (two_fits o a b u h.word k.word
    (ap (λ (t : Bool). if t then Some a.width else if_width (a.width == b.width) (if gives_bit o then 1 else a.width)) shifts
    ∙ ap Some h.same_width))

pub any_bit : (b : Bool) (u : ℕ) → u ≡ 1 → IsWordOf u (bit b)
any_bit true u e = record { word = record { some = omega arith; most = omega arith; below = omega arith }; same_width = sym e }
any_bit false u e = record { word = record { some = omega arith; most = omega arith; below = omega arith }; same_width = sym e }

concat_fits : (a b : Bits) (u v : ℕ) → u + v ≤ 128 → IsWordOf u a → IsWordOf v b → IsWordOf (u + v) (word_concat a b)
unfolding computing.joined
concat_fits a b u v most h k =
    let few : nat_le (a.width + b.width) 128 ≡ true = le-leb (a.width + b.width) 128 (omega (arith, most, h.same_width, k.same_width)) in
    subst (λ (t : Bool). IsWordOf (u + v) (if t then word_concat a b else a)) few
    (join_fits a b (u + v) h.word k.word
    (ap (λ (t : Bool). if_width t (a.width + b.width)) few ∙ ap₂ (λ (x y : ℕ). Some (x + y)) h.same_width k.same_width))

part_fits : (a : Bits) (high low own u : ℕ) → low ≤ high → high < own → u ≡ high - low + 1 → IsWordOf own a
    → IsWordOf u (word_slice a high low)
unfolding computing.sliced
part_fits a high low own u order within e h =
    let there : (nat_le low high && nat_lt high a.width) ≡ true =
    ap₂ (λ (x y : Bool). x && y) (le-leb low high order) (lt-ltb high a.width (omega (arith, within, h.same_width))) in
    subst (λ (t : Bool). IsWordOf u (if t then word_slice a high low else a)) there
    (slice_fits a high low u h.word (ap (λ (t : Bool). if_width t (high - low + 1)) there ∙ ap Some (sym e)))

-- ---- sides

module _ (word : Atom → Bits) (May : Atom → ℕ → Type 0) (fits : (a : Atom) (u : ℕ) → May a u → IsWordOf u (word a)) where
  two_fit : (o : VOperator) (a b : Atom) (u : ℕ) → FitsTwo May (sort_of o) a b u → IsWordOf u (operated o (word a) (word b))
  two_fit operator.Add a b u h = even_fits bits.Add (word a) (word b) u refl refl (fits a u h.0) (fits b u h.1)
  two_fit operator.Sub a b u h = even_fits bits.Sub (word a) (word b) u refl refl (fits a u h.0) (fits b u h.1)
  two_fit operator.Mul a b u h = even_fits bits.Mul (word a) (word b) u refl refl (fits a u h.0) (fits b u h.1)
  two_fit operator.And a b u h = even_fits bits.And (word a) (word b) u refl refl (fits a u h.0) (fits b u h.1)
  two_fit operator.Or a b u h = even_fits bits.Or (word a) (word b) u refl refl (fits a u h.0) (fits b u h.1)
  two_fit operator.Xor a b u h = even_fits bits.Xor (word a) (word b) u refl refl (fits a u h.0) (fits b u h.1)
  two_fit operator.Same a b u h = any_bit (word_same (word a) (word b)) u h.0
  two_fit operator.Differs a b u h = any_bit (not (word_same (word a) (word b))) u h.0
  two_fit operator.Less a b u h = any_bit (word_less (word a) (word b)) u h.0
  two_fit operator.UpTo a b u h = any_bit (not (word_less (word b) (word a))) u h.0
  two_fit operator.Shl a b u h = shift_fits bits.Shl (word a) (word b) u h.1.0 refl (fits a u h.0) (fits b h.1.0 h.1.1)
  two_fit operator.Shr a b u h = shift_fits bits.Shr (word a) (word b) u h.1.0 refl (fits a u h.0) (fits b h.1.0 h.1.1)

  no_parts : (u : ℕ) → FitsJoined May [] u → u ≡ 0
  no_parts u widths.none = refl

  -- a part in front of others
  beside : (a : Atom) (own others : ℕ) (rest : List Atom) → own + others ≤ 128 → May a own → FitsJoined May rest others
      → (1 ≤ length rest → IsWordOf others (joined (map word rest))) → IsWordOf (own + others) (joined (map word (a ∷ rest)))
  beside a own others [] most may parts behind =
      let same : own ≡ own + others = omega (arith, no_parts others parts) in subst (λ (u : ℕ). IsWordOf u (word a)) same (fits a own may)
  beside a own others (b ∷ rest) most may parts behind =
      concat_fits (word a) (joined (map word (b ∷ rest))) own others most (fits a own may) (behind (omega arith))

  parts_fit : (parts : List Atom) (u : ℕ) → u ≤ 128 → FitsJoined May parts u → 1 ≤ length parts → IsWordOf u (joined (map word parts))
  parts_fit parts u most widths.none some = absurd (omega (arith, some))
  parts_fit parts u most (widths.more {a = a} {rest = rest} own others may fit) some =
      beside a own others rest most may fit (λ l. parts_fit rest others (omega (arith, most)) fit l)

  pub side_fits : (s : Side) (u : ℕ) → u ≤ 128 → Fits May s u → IsWordOf u (side_word word s)
  side_fits (side.Is a) u most h = fits a u h
  side_fits (side.Not a) u most h = not_fits (word a) u (fits a u h)
  side_fits (side.Two o a b) u most h = two_fit o a b u h
  side_fits (side.LessSigned a b) u most h = any_bit (word_less_signed (word a) (word b)) u h.0
  side_fits (side.UpToSigned a b) u most h = any_bit (not (word_less_signed (word b) (word a))) u h.0
  side_fits (side.ShiftSigned a b) u most h = shift_fits bits.Sar (word a) (word b) u h.1.0 refl (fits a u h.0) (fits b h.1.0 h.1.1)
  side_fits (side.Pick t a b) u most h = pick_fits (word t) (word a) (word b) 1 u (fits a u h.1.0) (fits b u h.1.1)
  side_fits (side.Join parts) u most h = parts_fit parts u most h.1 (let l = h.0 in omega (arith, l))
  side_fits (side.Slice a high low) u most h = part_fits (word a) high low h.own u h.order h.within h.width_is (fits a h.own h.stands)
