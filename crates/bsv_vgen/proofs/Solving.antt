-- A module in order computes: whatever its registers and inputs are, there are words for its nets that solve its assignments.
use Rattle.std.proofs.Common.{◌≡◌, ◌∙◌, ℕ, zero, suc, ◌<◌, ◌≤◌, ◌⊎◌, inl, inr, Bool, true, false, List, ◌∷◌, length, map, Option, Some, None, refl, sym, ap, ap₂, subst, arith}
use Rattle.std.specs.Prelude.{◌==◌, slice_get, nat_eq, not, if◌then◌else◌}
use Rattle.std.proofs.lemmas.Bool.{eqb-true, eq-eqb, cases_lt}
use Rattle.std.proofs.lemmas.Option.{slice_get_within}
use Rattle.bsv_bits.specs.Words.{Bits, bit, word_not, word_slice}
use Rattle.bsv_bits.specs.Signed.{word_less_signed, word_sar}
use Rattle.bsv_vtext.specs.declared.tree.Assign.{Assign}
use Rattle.bsv_vtext.specs.declared.tree.Atom.{Atom}
use Rattle.bsv_vtext.specs.declared.tree.Atom.TheVariants as atom
use Rattle.bsv_vtext.specs.declared.tree.Side.{Side}
use Rattle.bsv_vtext.specs.declared.tree.Side.TheVariants as side
use Rattle.bsv_vtext.specs.declared.tree.Target.{Target}
use Rattle.bsv_vtext.specs.declared.tree.Target.TheVariants as target
use Rattle.bsv_vtext.specs.Modules.{IsModule, IsAssignedBefore, Stands}
use Rattle.bsv_vtext.specs.Signals.{VModuleData}
use Rattle.bsv_vtext.specs.VClock.{Inputs, Nets, atom_word, joined, operated, side_word}
use Rattle.bsv_vtext.specs.Widths.{target_width, Sort, Even, Comparing, Shifting, sort_of, FitsTwo, FitsJoined, Fits}
use Rattle.bsv_vtext.specs.Widths as widths

-- ---- sides whose atoms have the same words

module _ (word other : Atom → Bits) (May : Atom → ℕ → Type 0) (same : (a : Atom) (u : ℕ) → May a u → word a ≡ other a) where
  two_same : (sort : Sort) (a b : Atom) (u : ℕ) → FitsTwo May sort a b u → (word a ≡ other a) × (word b ≡ other b)
  two_same Even a b u h = (same a u h.0, same b u h.1)
  two_same Comparing a b u h = (same a h.1.0 h.1.1.0, same b h.1.0 h.1.1.1)
  two_same Shifting a b u h = (same a u h.0, same b h.1.0 h.1.1)

  parts_same : (parts : List Atom) (u : ℕ) → FitsJoined May parts u → map word parts ≡ map other parts
  parts_same parts u widths.none = refl
  parts_same parts u (widths.more {a = a} {rest = rest} own others may fits) =
      ap₂ (λ (w : Bits) (ws : List Bits). w ∷ ws) (same a own may) (parts_same rest others fits)

  abbrev picked : Bits → Bits → Bits → Bits
  picked t a b = if nat_eq t.value 1 then a else b

  pub side_same : (s : Side) (u : ℕ) → Fits May s u → side_word word s ≡ side_word other s
  side_same (side.Is a) u h = same a u h
  side_same (side.Not a) u h = ap word_not (same a u h)
  side_same (side.Two o a b) u h = let e = two_same (sort_of o) a b u h in ap₂ (operated o) e.0 e.1
  side_same (side.LessSigned a b) u h = let e = two_same Comparing a b u h in ap₂ (λ (x y : Bits). bit (word_less_signed x y)) e.0 e.1
  side_same (side.UpToSigned a b) u h = let e = two_same Comparing a b u h in ap₂ (λ (x y : Bits). bit (not (word_less_signed y x))) e.0 e.1
  side_same (side.ShiftSigned a b) u h = let e = two_same Shifting a b u h in ap₂ word_sar e.0 e.1
  side_same (side.Pick t a b) u h =
      ap₂ (λ (x y : Bits). picked x y (word b)) (same t 1 h.0) (same a u h.1.0) ∙ ap (picked (other t) (other a)) (same b u h.1.1)
  side_same (side.Join parts) u h = ap joined (parts_same parts u h.1)
  side_same (side.Slice a high low) u h = ap (λ (x : Bits). word_slice x high low) (same a h.own h.stands)

-- ---- targets

is_target : Target → Target → Bool
is_target (target.Wire j) (target.Wire k) = j == k
is_target (target.Ready j) (target.Ready k) = j == k
is_target (target.Result j) (target.Result k) = j == k
is_target _ _ = false

target_is : (s t : Target) → is_target s t ≡ true → s ≡ t
unfolding is_target
target_is (target.Wire j) (target.Wire k) h = ap target.Wire (eqb-true j k h)
target_is (target.Wire j) (target.Ready k) h = absurd cc
target_is (target.Wire j) (target.Result k) h = absurd cc
target_is (target.Ready j) (target.Wire k) h = absurd cc
target_is (target.Ready j) (target.Ready k) h = ap target.Ready (eqb-true j k h)
target_is (target.Ready j) (target.Result k) h = absurd cc
target_is (target.Result j) (target.Wire k) h = absurd cc
target_is (target.Result j) (target.Ready k) h = absurd cc
target_is (target.Result j) (target.Result k) h = ap target.Result (eqb-true j k h)

own_target : (t : Target) → is_target t t ≡ true
unfolding is_target
own_target (target.Wire k) = eq-eqb k k refl
own_target (target.Ready k) = eq-eqb k k refl
own_target (target.Result k) = eq-eqb k k refl

-- ---- lines, one after the other

-- these nets, in which the target has this word
abbrev with_word : Nets → Target → Bits → Nets
with_word nets t w = λ s. if is_target t s then w else nets s

module _ (c : VModuleData) (ws : List Bits) (ins : Inputs) where
  abbrev pub words : Nets → Atom → Bits
  words nets a = atom_word ws ins nets a

  abbrev with_line : Option Assign → Nets → Nets
  with_line None nets = nets
  with_line (Some x) nets = with_word nets x.target (side_word (words nets) x.side)

  -- the nets after so many lines
  behind : ℕ → Nets
  behind zero = λ _. bit false
  behind (suc n) = with_line (slice_get c.assigns n) (behind n)

  -- the line is true as an equation
  abbrev pub Holds : Nets → ℕ → Type 0
  Holds nets line = (x : Assign) → slice_get c.assigns line ≡ Some x → nets x.target ≡ side_word (words nets) x.side

  -- nets that agree on the wires of earlier lines give a line one word
  agree : (line : ℕ) (nets others : Nets)
      → ((k : ℕ) → IsAssignedBefore c line (target.Wire k) → nets (target.Wire k) ≡ others (target.Wire k))
      → (a : Atom) (u : ℕ) → Stands c line a u → words nets a ≡ words others a
  agree line nets others h (atom.Enable m) u stands = refl
  agree line nets others h (atom.Argument m k) u stands = refl
  agree line nets others h (atom.Register k) u stands = refl
  agree line nets others h (atom.Wire k) u stands = h k stands.1
  agree line nets others h (atom.Constant w) u stands = refl

  later : (line n : ℕ) (t : Target) → line ≤ n → IsAssignedBefore c line t → IsAssignedBefore c n t
  later line n t l b = record { earlier = b.earlier; before = (let e = b.before in omega arith); assign = b.assign; at = b.at; target_is = b.target_is }

  -- the nets that solve all lines
  pub solution : Nets
  solution = behind (length c.assigns)

  module _ (is : IsModule c) where
    -- what an earlier line assigns, this one does not
    other_target : (n : ℕ) (y : Assign) (t : Target) → slice_get c.assigns n ≡ Some y → IsAssignedBefore c n t → is_target y.target t ≡ false
    other_target n y t at b = of (is_target y.target t) refl
      where
        of : (truth : Bool) → is_target y.target t ≡ truth → is_target y.target t ≡ false
        of false e = e
        of true e =
            absurd (let same = is.once b.earlier n b.assign y b.at at (b.target_is ∙ sym (target_is y.target t e)) in let l = b.before in omega arith)

    kept : (n : ℕ) (t : Target) → IsAssignedBefore c n t → behind (suc n) t ≡ behind n t
    unfolding behind
    kept n t b = of (slice_get c.assigns n) refl
      where
        of : (o : Option Assign) → slice_get c.assigns n ≡ o → with_line o (behind n) t ≡ behind n t
        of None e = refl
        of (Some y) e = ap (λ (truth : Bool). if truth then side_word (words (behind n)) y.side else behind n t) (other_target n y t e b)

    -- the line sees the same nets after one more line
    side_kept : (n line : ℕ) (x : Assign) → line ≤ n → slice_get c.assigns line ≡ Some x
        → side_word (words (behind (suc n))) x.side ≡ side_word (words (behind n)) x.side
    side_kept n line x l at =
        let good = is.assigns line x at in
        side_same (words (behind (suc n))) (words (behind n)) (Stands c line)
        (agree line (behind (suc n)) (behind n) (λ k b. kept n (target.Wire k) (later line n (target.Wire k) l b))) x.side good.width good.side

    new_line : (n : ℕ) (x : Assign) → slice_get c.assigns n ≡ Some x → behind (suc n) x.target ≡ side_word (words (behind n)) x.side
    unfolding behind
    new_line n x at =
        ap (λ (o : Option Assign). with_line o (behind n) x.target) at
        ∙ ap (λ (truth : Bool). if truth then side_word (words (behind n)) x.side else behind n x.target) (own_target x.target)

    hold_more : (n : ℕ) → ((line : ℕ) → line < n → Holds (behind n) line) → (line : ℕ) → line ≤ n → (line < n) ⊎ (n ≤ line)
        → Holds (behind (suc n)) line
    hold_more n held line l (inl b) x at =
        kept n x.target (record { earlier = line; before = b; assign = x; at = at; target_is = refl })
        ∙ (held line b x at ∙ sym (side_kept n line x l at))
    hold_more n held line l (inr b) x at =
        let last : line ≡ n = omega (arith, l, b) in
        new_line n x (subst (λ (k : ℕ). slice_get c.assigns k ≡ Some x) last at) ∙ sym (side_kept n line x l at)

    hold : (n line : ℕ) → line < n → Holds (behind n) line
    hold zero line l = absurd (omega (arith, l))
    hold (suc n) line l = hold_more n (hold n) line (omega (arith, l)) (cases_lt line n)

    pub solved : (line : ℕ) → Holds solution line
    unfolding solution
    solved line x at = hold (length c.assigns) line (slice_get_within c.assigns line x at) x at
