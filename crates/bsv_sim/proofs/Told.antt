-- What a net tells of an element, where its nodes have these words; and what an element gives.
use Rattle.std.proofs.Common.{◌≡◌, ◌∙◌, ℕ, zero, suc, ◌<◌, Bool, true, false, List, [], ◌∷◌, map, Option, Some, None, is_some, refl, sym, ap, arith}
use Rattle.std.specs.Prelude.{slice_get, option_map, nat_lt, if◌then◌else◌, IsTrue}
use Rattle.std.proofs.Math.Bool.{Bool-set}
use Rattle.std.proofs.Math.Logic.{∥∥₁_elim}
use Rattle.std.proofs.lemmas.Bool.{lt-ltb, ltb-true}
use Rattle.std.proofs.lemmas.Option.{same_Some}
use Rattle.bsv_lemmas.proofs.Places.{mapped_at}
use Rattle.bsv_bits.specs.Words.{Bits, bit}
use Rattle.bsv_design.specs.declared.design.Design.{Design}
use Rattle.bsv_design.specs.declared.element.Element.{Element}
use Rattle.bsv_design.specs.design.Bodies.{at, words}
use Rattle.bsv_design.specs.design.Designs.{IsDesign}
use Rattle.bsv_design.specs.design.Roles.{gives_value}
use Rattle.bsv_design.specs.design.Widths.{result_fits}
use Rattle.bsv_design.specs.design.Words.{is_one}
use Rattle.bsv_design.specs.scheme.Schemes.{Asking, Look, answers, design_scheme, given, kinds_of, seen, trace_of, value}
use Rattle.bsv_design.specs.scheme.Seen.{design_data}
use Rattle.bsv_design.specs.scheme.Traces.{body_trace}
use Rattle.bsv_sim.specs.Signals.{one_at, word_of}

-- ---- words

pub one_told : (vs : List Bits) (ns : List ℕ) (k : ℕ) (b : Bool) → slice_get (map (at vs) ns) k ≡ Some (bit b) → one_at vs (slice_get ns k) ≡ b
one_told vs [] k b e = absurd (let z : ⊥ = cc in z)
one_told vs (n ∷ ns) zero b e = ap (λ (w : Bits). is_one w) (same_Some (at vs n) (bit b) e) ∙ of b
  where
    of : (b : Bool) → is_one (bit b) ≡ b
    of true = refl
    of false = refl
one_told vs (n ∷ ns) (suc k) b e = one_told vs ns k b e

pub word_told : (vs : List Bits) (ns : List ℕ) (nodes k j : ℕ) (w : Bits) → slice_get ns k ≡ Some j → j < nodes → slice_get (map (at vs) ns) k ≡ Some w
    → word_of vs nodes (slice_get ns k) ≡ Some w
word_told vs ns nodes k j w there l told =
    ap (λ (o : Option ℕ). word_of vs nodes o) there
    ∙ ap (λ (t : Bool). if t then Some (at vs j) else None) (lt-ltb j nodes l)
    ∙ sym (mapped_at (at vs) ns k j there) ∙ told

pub nothing_told : (vs : List Bits) (ns : List ℕ) (nodes k : ℕ) → slice_get ns k ≡ Some nodes → word_of vs nodes (slice_get ns k) ≡ None
nothing_told vs ns nodes k there =
    ap (λ (o : Option ℕ). word_of vs nodes o) there ∙ ap (λ (t : Bool). if t then Some (at vs nodes) else None) (of (nat_lt nodes nodes) refl)
  where
    of : (t : Bool) → nat_lt nodes nodes ≡ t → t ≡ false
    of true h = absurd (let l = ltb-true nodes nodes h in omega (arith, l))
    of false h = refl

-- ---- what an element of a design gives

some_result : (widths : List ℕ) (gives : Bool) (place : Option ℕ) (word : ℕ → Bits) → IsTrue (result_fits widths gives place)
    → is_some (option_map word place) ≡ gives
some_result widths true (Some k) word h = refl
some_result widths true None word h = absurd (let z : ⊥ = cc in z)
some_result widths false None word h = refl
some_result widths false (Some k) word h = absurd (let z : ⊥ = cc in z)

-- it gives a word exactly where it is a method that gives a value
pub gives_word : (d : Design) (q : Asking) (n : ℕ) (look : Look) (e : Element) → slice_get d.elements n ≡ Some e
    → is_some (value (design_scheme (design_data d)) q n look) ≡ gives_value e.role
unfolding value seen design_scheme body_trace
gives_word d q n look e there =
    ap (λ (x : Option Element). is_some (trace_of (kinds_of (design_data d)) x (answers (kinds_of (design_data d)) look) (given (design_scheme (design_data d)) q n)).result) there
    ∙ ∥∥₁_elim d.right (Bool-set _ _) (λ (right : IsDesign (design_data d)).
    some_result (right.elements n e there).fits.widths (gives_value e.role) e.result
    (at (words e (answers (kinds_of (design_data d)) look) (given (design_scheme (design_data d)) q n))) (right.elements n e there).fits.result)
