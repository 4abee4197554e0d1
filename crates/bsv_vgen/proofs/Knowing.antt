-- What is known of nodes is right: each atom has the node's width, and may stand on the lines after.
use Rattle.std.proofs.Common.{◌≡◌, ◌∙◌, ℕ, ◌+◌, ◌-◌, ◌<◌, ◌≤◌, Bool, true, false, ◌&&◌, IsTrue, [], ◌∷◌, ◌++◌, length, Some, refl, sym, ap, ap₂, subst, arith, length-append}
use Rattle.std.specs.Prelude.{◌==◌, ◌^◌, nat_le, nat_lt, if◌then◌else◌}
use Rattle.std.proofs.lemmas.Bool.{and_parts, leb-true, ltb-true, eqb-true, le-leb, lt-ltb, ltb-false}
use Rattle.std.proofs.Math.Pow.{pow_pos}
use Rattle.std.proofs.lemmas.Option.{same_Some}
use Rattle.bsv_bits.specs.Words.{Bits, bit, word_not}
use Rattle.bsv_bits.specs.declared.operator.Operator.{Operator}
use Rattle.bsv_bits.specs.declared.operator.Operator.TheVariants as operator
use Rattle.bsv_prim.specs.Table.{IsWordOf}
use Rattle.bsv_design.specs.design.Computing.{word, sliced}
use Rattle.bsv_design.specs.design.Widths as widths
use Rattle.bsv_design.specs.design.Widths.{if_width, gives_bit, word_width, pick_width, slice_width, join_width, extend_width}
use Rattle.bsv_guard.proofs.Nodes.{where_width}
use Rattle.bsv_guard.proofs.Words.{not_fits, slice_fits}
use Rattle.bsv_vtext.specs.declared.tree.Atom.{Atom}
use Rattle.bsv_vtext.specs.declared.tree.Atom.TheVariants as atom
use Rattle.bsv_vtext.specs.declared.tree.Side.{Side}
use Rattle.bsv_vtext.specs.declared.tree.Side.TheVariants as side
use Rattle.bsv_vtext.specs.Modules.{Stands}
use Rattle.bsv_vtext.specs.Signals.{VModuleData}
use Rattle.bsv_vtext.specs.Widths.{Fits, FitsTwo, IsNamed, Even, Comparing, Shifting, FitsJoined, none, more, width_fits}
use Rattle.bsv_vgen.specs.declared.known.Known.{Known}
use Rattle.bsv_vgen.specs.Lines.{Written, Step, constant, line, with_line, two_side, two_width, slice, join, zeros, extend, negative, filling, join_above, sign_extend}
use Rattle.bsv_vgen.specs.Names.{numbered_wire}
use Rattle.bsv_vgen.proofs.Fronts.{Reaches, AreRight, line_there, reaches_before, one_more, stands_later, wire_stands}

-- a width that a word may have
pub fits_width : (u : ℕ) → 1 ≤ u → u ≤ 128 → IsTrue (width_fits u)
fits_width u some most = ap₂ (λ (a b : Bool). a && b) (le-leb 1 u some) (le-leb u 128 most)

-- ---- constants

pub zeros_are : (u : ℕ) → 1 ≤ u → u ≤ 128 → zeros u ≡ record { width = u; value = 0 }
unfolding word
zeros_are u some most =
    ap (λ (b : Bool). if b then record { width = u; value = 0 } else bit false)
    (ap₂ (λ (a b : Bool). a && b) (fits_width u some most) (lt-ltb 0 (2 ^ u) (pow_pos u)))

pub zeros_word : (u : ℕ) → 1 ≤ u → u ≤ 128 → IsWordOf u (zeros u)
zeros_word u some most =
    subst (IsWordOf u) (sym (zeros_are u some most)) (record { word = record { some = some; most = most; below = pow_pos u }; same_width = refl })

module _ (m : VModuleData) where
  -- what is known of a node of this width
  pub record IsKnownRight (n : ℕ) (x : Known) (u : ℕ) : Type 0 where
    pub width : x.width ≡ u
    pub stands : Stands m n x.atom u

  pub right_later : (n j : ℕ) (x : Known) (u : ℕ) → n ≤ j → IsKnownRight n x u → IsKnownRight j x u
  right_later n j x u l h = record { width = h.width; stands = stands_later m n j x.atom u l h.stands }

  pub constant_stands : (n : ℕ) (w : Bits) (u : ℕ) → IsWordOf u w → Stands m n (atom.Constant w) u
  constant_stands n w u h = (record { has_width = ap Some h.same_width; word = h.word }, tt)

  pub constant_right : (n : ℕ) (w : Bits) (u : ℕ) → IsWordOf u w → IsKnownRight n (constant w) u
  constant_right n w u h = record { width = h.same_width; stands = constant_stands n w u h }

  -- a constant that may stand is a word
  pub constant_word : (n : ℕ) (w : Bits) (u : ℕ) → Stands m n (atom.Constant w) u → IsWordOf u w
  constant_word n w u h = record { word = h.0.word; same_width = same_Some w.width u h.0.has_width }

  -- ---- lines

  -- what a step leaves: right lines, and what is known of the node
  pub record IsStepRight (w : Written) (s : Step) (u : ℕ) : Type 0 where
    pub longer : length w.wires ≤ length s.written.wires
    pub right : AreRight m (length s.written.wires)
    pub known : IsKnownRight (length s.written.wires) s.known u
    pub before : Reaches m w

  pub kept_right : (w : Written) (x : Known) (u : ℕ) → Reaches m w → AreRight m (length w.wires) → IsKnownRight (length w.wires) x u
      → IsStepRight w (record { written = w; known = x }) u
  kept_right w x u r right h = record { longer = omega arith; right = right; known = h; before = r }

  -- one more line
  pub line_right : (w : Written) (u : ℕ) (s : Side) → Reaches m (with_line w u s) → AreRight m (length w.wires) → Fits (Stands m (length w.wires)) s u
      → IsTrue (width_fits u) → IsStepRight w (line w u s) u
  line_right w u s r right fits width =
      let n : ℕ = length w.wires in
      let is = line_there m w (numbered_wire n u) s r in
      let long : length (w.wires ++ numbered_wire n u ∷ []) ≡ n + 1 = length-append w.wires (numbered_wire n u ∷ []) in
      record {
        longer = omega (arith, long);
        right = subst (AreRight m) (sym long) (one_more m n (numbered_wire n u) s is right fits width);
        known = record { width = refl; stands = subst (λ (k : ℕ). Stands m k (atom.Wire n) u) (sym long) (wire_stands m n (numbered_wire n u) s is) };
        before = reaches_before m w (numbered_wire n u) s r;
      }

  -- ---- operators

  pub record IsTwoRight (n : ℕ) (o : Operator) (ua u : ℕ) (a b : Atom) : Type 0 where
    pub width : two_width o ua ≡ u
    pub fits : Fits (Stands m n) (two_side o a b) u

  module _ (n ua ub u : ℕ) (a b : Atom) (one : Stands m n a ua) (other : Stands m n b ub) where
    even : if_width (ua == ub) ua ≡ Some u → (ua ≡ u) × FitsTwo (Stands m n) Even a b u
    even e =
        let given = where_width (ua == ub) ua u e in
        let same : ub ≡ u = sym (eqb-true ua ub given.0) ∙ given.1 in
        (given.1, (subst (Stands m n a) given.1 one, subst (Stands m n b) same other))

    comparing : if_width (ua == ub) 1 ≡ Some u → (1 ≡ u) × FitsTwo (Stands m n) Comparing a b u
    comparing e =
        let given = where_width (ua == ub) 1 u e in
        (given.1, (sym given.1, (ua, (one, subst (Stands m n b) (sym (eqb-true ua ub given.0)) other))))

    shifting : Some ua ≡ Some u → (ua ≡ u) × FitsTwo (Stands m n) Shifting a b u
    shifting e = let same = same_Some ua u e in (same, (subst (Stands m n a) same one, (ub, other)))

    pub two_right : (o : Operator) → widths.two_width o (Some ua) (Some ub) ≡ Some u → IsTwoRight n o ua u a b
    two_right operator.Add e = let h = even e in record { width = h.0; fits = h.1 }
    two_right operator.Sub e = let h = even e in record { width = h.0; fits = h.1 }
    two_right operator.Mul e = let h = even e in record { width = h.0; fits = h.1 }
    two_right operator.And e = let h = even e in record { width = h.0; fits = h.1 }
    two_right operator.Or e = let h = even e in record { width = h.0; fits = h.1 }
    two_right operator.Xor e = let h = even e in record { width = h.0; fits = h.1 }
    two_right operator.Same e = let h = comparing e in record { width = h.0; fits = h.1 }
    two_right operator.Less e = let h = comparing e in record { width = h.0; fits = h.1 }
    two_right operator.LessSigned e = let h = comparing e in record { width = h.0; fits = h.1 }
    two_right operator.Shl e = let h = shifting e in record { width = h.0; fits = h.1 }
    two_right operator.Shr e = let h = shifting e in record { width = h.0; fits = h.1 }
    two_right operator.Sar e = let h = shifting e in record { width = h.0; fits = h.1 }

  -- a line of a width that is the node's
  pub line_as : (w : Written) (v u : ℕ) (s : Side) → v ≡ u → Reaches m (with_line w v s) → AreRight m (length w.wires) → Fits (Stands m (length w.wires)) s u
      → IsTrue (width_fits u) → IsStepRight w (line w v s) u
  line_as w v u s same r right fits width =
      subst (λ (x : ℕ). IsStepRight w (line w v s) x) same
      (line_right w v s r right (subst (Fits (Stands m (length w.wires)) s) (sym same) fits) (subst (λ (x : ℕ). IsTrue (width_fits x)) (sym same) width))

  -- ---- parts, joins and extensions

  named_slice : (w : Written) (a : Atom) (ua u high low : ℕ) → IsNamed (Stands m (length w.wires)) a → Stands m (length w.wires) a ua → slice_width (Some ua) high low ≡ Some u
      → IsTrue (width_fits u) → AreRight m (length w.wires) → Reaches m (with_line w (high - low + 1) (side.Slice a high low))
      → IsStepRight w (line w (high - low + 1) (side.Slice a high low)) u
  named_slice w a ua u high low named stands e width right r =
      let given = where_width (nat_le low high && nat_lt high ua) (high - low + 1) u e in
      let parts = and_parts (nat_le low high) (nat_lt high ua) given.0 in
      line_as w (high - low + 1) u (side.Slice a high low) given.1 r right
      (record { named = named; own = ua; stands = stands; order = leb-true low high parts.0; within = ltb-true high ua parts.1; width_is = sym given.1 }) width

  pub slice_right : (w : Written) (a : Atom) (ua u high low : ℕ) → Stands m (length w.wires) a ua → slice_width (Some ua) high low ≡ Some u → IsTrue (width_fits u)
      → AreRight m (length w.wires) → Reaches m (slice w a high low).written → IsStepRight w (slice w a high low) u
  slice_right w (atom.Enable k) ua u high low stands e width right r = named_slice w (atom.Enable k) ua u high low tt stands e width right r
  slice_right w (atom.Argument k i) ua u high low stands e width right r = named_slice w (atom.Argument k i) ua u high low tt stands e width right r
  slice_right w (atom.Register k) ua u high low stands e width right r = named_slice w (atom.Register k) ua u high low tt stands e width right r
  slice_right w (atom.Wire k) ua u high low stands e width right r = named_slice w (atom.Wire k) ua u high low tt stands e width right r
  slice_right w (atom.Constant x) ua u high low stands e width right r =
      let whole = constant_word (length w.wires) x ua stands in
      let own : IsWordOf u (sliced x high low) = slice_fits x high low u whole.word (ap (λ (n : ℕ). slice_width (Some n) high low) whole.same_width ∙ e) in
      kept_right w (constant (sliced x high low)) u r right (constant_right (length w.wires) (sliced x high low) u own)

  pub join_right : (w : Written) (a b : Known) (ua ub u : ℕ) → IsKnownRight (length w.wires) a ua → IsKnownRight (length w.wires) b ub → ua + ub ≡ u → IsTrue (width_fits u)
      → AreRight m (length w.wires) → Reaches m (join w a b).written → IsStepRight w (join w a b) u
  join_right w a b ua ub u one other sum width right r =
      let total : a.width + b.width ≡ u = ap₂ (λ (x y : ℕ). x + y) one.width other.width ∙ sum in
      let count : ua + (ub + 0) ≡ u = omega (arith, sum) in
      line_as w (a.width + b.width) u (side.Join (a.atom ∷ b.atom ∷ [])) total r right
      (omega arith, subst (FitsJoined (Stands m (length w.wires)) (a.atom ∷ b.atom ∷ [])) count (more ua (ub + 0) one.stands (more ub 0 other.stands none))) width

  -- a word of this width with more bits above
  module _ (w : Written) (a : Known) (ua u : ℕ) (one : IsKnownRight (length w.wires) a ua) (least : 1 ≤ ua) (most : u ≤ 128) (right : AreRight m (length w.wires)) where
    wide : ua < u → IsTrue (width_fits u)
    wide less = fits_width u (omega (arith, less)) most

    same_above : ua < u → (u - a.width ≡ u - ua) × (u - ua + ua ≡ u) × (1 ≤ u - ua) × (u - ua ≤ 128)
    same_above less = (ap (λ (x : ℕ). u - x) one.width, omega (arith, less), omega (arith, less), omega (arith, most))

    extended : ua < u → Reaches m (join w (constant (zeros (u - a.width))) a).written → IsStepRight w (join w (constant (zeros (u - a.width))) a) u
    extended less r =
        let above = same_above less in
        let zero : IsWordOf (u - ua) (zeros (u - a.width)) = subst (λ (x : ℕ). IsWordOf (u - ua) (zeros x)) (sym above.0) (zeros_word (u - ua) above.2 above.3) in
        join_right w (constant (zeros (u - a.width))) a (u - ua) ua u (constant_right (length w.wires) (zeros (u - a.width)) (u - ua) zero) one above.1 (wide less) right r

    unchanged : ua ≡ u → Reaches m w → IsStepRight w (record { written = w; known = a }) u
    unchanged same r = kept_right w a u r right (subst (IsKnownRight (length w.wires) a) same one)

    abbrev extension : Bool → Step
    extension b = if b then join w (constant (zeros (u - a.width))) a else record { written = w; known = a }

    pub extend_right : ua ≤ u → Reaches m (extend w a u).written → IsStepRight w (extend w a u) u
    extend_right fits r = of (nat_lt a.width u) refl r
      where
        of : (b : Bool) → nat_lt a.width u ≡ b → Reaches m (extension b).written → IsStepRight w (extension b) u
        of true e reaches = extended (subst (λ (x : ℕ). x < u) one.width (ltb-true a.width u e)) reaches
        of false e reaches = unchanged (let l = ltb-false a.width u e in let s = one.width in omega (arith, l, s, fits)) reaches

    -- whether the number is negative
    negative_right : ua ≤ 128 → Reaches m (negative w a).written → IsStepRight w (negative w a) 1
    negative_right few r =
        let zero : IsWordOf ua (zeros a.width) = subst (λ (x : ℕ). IsWordOf ua (zeros x)) (sym one.width) (zeros_word ua least few) in
        line_right w 1 (side.LessSigned a.atom (atom.Constant (zeros a.width))) r right (refl, (ua, (one.stands, constant_stands (length w.wires) (zeros a.width) ua zero))) refl

    -- and as many bits above as are wanted
    filling_right : (s : Step) (extra : ℕ) → IsStepRight w s 1 → 1 ≤ extra → extra ≤ 128 → Reaches m (filling s extra).written → IsStepRight s.written (filling s extra) extra
    filling_right s extra h some few r =
        let zero = zeros_word extra some few in
        let ones : IsWordOf extra (word_not (zeros extra)) = not_fits (zeros extra) extra zero in
        let n : ℕ = length s.written.wires in
        line_right s.written extra (side.Pick s.known.atom (atom.Constant (word_not (zeros extra))) (atom.Constant (zeros extra))) r h.right
        (h.known.stands, (constant_stands n (word_not (zeros extra)) extra ones, constant_stands n (zeros extra) extra zero)) (fits_width extra some few)

    signed : ua < u → Reaches m (join_above (filling (negative w a) (u - a.width)) a).written
        → IsStepRight w (join_above (filling (negative w a) (u - a.width)) a) u
    signed less r =
        let f : Step = filling (negative w a) (u - a.width) in
        let reaches_f = reaches_before m f.written (numbered_wire (length f.written.wires) (f.known.width + a.width)) (side.Join (f.known.atom ∷ a.atom ∷ [])) r in
        let reaches_n = reaches_before m (negative w a).written (numbered_wire (length (negative w a).written.wires) (u - a.width))
        (side.Pick (negative w a).known.atom (atom.Constant (word_not (zeros (u - a.width)))) (atom.Constant (zeros (u - a.width)))) reaches_f in
        let above = same_above less in
        let first = negative_right (omega (arith, less, most)) reaches_n in
        let second = filling_right (negative w a) (u - a.width) first (subst (λ (x : ℕ). 1 ≤ x) (sym above.0) above.2) (subst (λ (x : ℕ). x ≤ 128) (sym above.0) above.3) reaches_f in
        let long : length w.wires ≤ length f.written.wires = (let x = first.longer in let y = second.longer in omega (arith, x, y)) in
        let last = join_right f.written f.known a (u - a.width) ua u second.known (right_later (length w.wires) (length f.written.wires) a ua long one)
        (ap (λ (x : ℕ). x + ua) above.0 ∙ above.1) (wide less) second.right r in
        record { longer = (let z = last.longer in omega (arith, long, z)); right = last.right; known = last.known; before = first.before }

    abbrev sign_extension : Bool → Step
    sign_extension b = if b then join_above (filling (negative w a) (u - a.width)) a else record { written = w; known = a }

    pub sign_extend_right : ua ≤ u → Reaches m (sign_extend w a u).written → IsStepRight w (sign_extend w a u) u
    sign_extend_right fits r = of (nat_lt a.width u) refl r
      where
        of : (b : Bool) → nat_lt a.width u ≡ b → Reaches m (sign_extension b).written → IsStepRight w (sign_extension b) u
        of true e reaches = signed (subst (λ (x : ℕ). x < u) one.width (ltb-true a.width u e)) reaches
        of false e reaches = unchanged (let l = ltb-false a.width u e in let s = one.width in omega (arith, l, s, fits)) reaches
