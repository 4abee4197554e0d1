-- The kind of a width and a depth that there is, and the wire without a word that stands for one that there is not.
use Rattle.std.proofs.Common.{◌≡◌, ◌∙◌, ℕ, ◌≤◌, Bool, true, false, refl, sym, ap, ap₂, subst}
use Rattle.std.specs.Prelude.{nat_le}
use Rattle.std.proofs.Math.Bridge.{le_prop}
use Rattle.std.proofs.lemmas.Bool.{leb-true, le-leb}
use Rattle.std.proofs.Props.{props}
use Rattle.bsv_bits.specs.Words.{Bits}
use Rattle.bsv_prim.specs.Table.{IsWordOf}
use Rattle.bsv_design.specs.declared.kind.Kind.{Kind}
use Rattle.bsv_design.specs.declared.kind.Kind.TheVariants as kinds
use Rattle.bsv_elab.specs.MadeKinds.{pulse, passed, from_range, or_zero, or_zero_fits, reg, regu, wire, dwire, rwire, plain, pipeline, bypass}

passed_so : (b : Bool) (f : b ≡ true → Kind) (k : Kind) → b ≡ true → ((e : b ≡ true) → f e ≡ k) → passed b f ≡ k
passed_so true f k is same = same refl
passed_so false f k is same = absurd cc

passed_not : (b : Bool) (f : b ≡ true → Kind) (k : Kind) → ((e : b ≡ true) → f e ≡ k) → (b ≡ false → pulse ≡ k) → passed b f ≡ k
passed_not true f k so not = so refl
passed_not false f k so not = not refl

in_range : (most n : ℕ) (f : 1 ≤ n → n ≤ most → Kind) (k : Kind) → 1 ≤ n → n ≤ most → ((a : 1 ≤ n) (b : n ≤ most) → f a b ≡ k) → from_range most n f ≡ k
in_range most n f k a b same =
    passed_so (nat_le 1 n) (λ p. passed (nat_le n most) (λ q. f (leb-true 1 n p) (leb-true n most q))) k (le-leb 1 n a)
    (λ p. passed_so (nat_le n most) (λ q. f (leb-true 1 n p) (leb-true n most q)) k (le-leb n most b) (λ q. same (leb-true 1 n p) (leb-true n most q)))

out_of_range : (most n : ℕ) (f : 1 ≤ n → n ≤ most → Kind) → ((a : 1 ≤ n) (b : n ≤ most) → f a b ≡ pulse) → from_range most n f ≡ pulse
out_of_range most n f same =
    passed_not (nat_le 1 n) (λ p. passed (nat_le n most) (λ q. f (leb-true 1 n p) (leb-true n most q))) pulse
    (λ p. passed_not (nat_le n most) (λ q. f (leb-true 1 n p) (leb-true n most q)) pulse (λ q. same (leb-true 1 n p) (leb-true n most q)) (λ q. refl))
    (λ p. refl)

word_same : (n : ℕ) (w : Bits) (p q : IsWordOf n w) → p ≡ q
word_same n w p q = let prop : IsProp (IsWordOf n w) = Prim.hlevel props in prop p q

pub reg_in : (n : ℕ) (w v : Bits) (is : IsWordOf n v) → v ≡ or_zero n w → 1 ≤ n → n ≤ 128 → kinds.Reg (record { width = n; start = v; in_range = is }) ≡ reg n w
unfolding reg
reg_in n w v is e a b =
    sym (in_range 128 n (λ p q. kinds.Reg (record { width = n; start = or_zero n w; in_range = or_zero_fits n w p q })) (kinds.Reg (record { width = n; start = v; in_range = is })) a b
    (λ p q. subst (λ x. (i : IsWordOf n x) → kinds.Reg (record { width = n; start = or_zero n w; in_range = or_zero_fits n w p q }) ≡ kinds.Reg (record { width = n; start = x; in_range = i })) (sym e)
    (λ i. ap (λ i. kinds.Reg (record { width = n; start = or_zero n w; in_range = i })) (word_same n (or_zero n w) (or_zero_fits n w p q) i)) is))

pub dwire_in : (n : ℕ) (w v : Bits) (is : IsWordOf n v) → v ≡ or_zero n w → 1 ≤ n → n ≤ 128 → kinds.DWire (record { width = n; default = v; in_range = is }) ≡ dwire n w
unfolding dwire
dwire_in n w v is e a b =
    sym (in_range 128 n (λ p q. kinds.DWire (record { width = n; default = or_zero n w; in_range = or_zero_fits n w p q })) (kinds.DWire (record { width = n; default = v; in_range = is })) a b
    (λ p q. subst (λ x. (i : IsWordOf n x) → kinds.DWire (record { width = n; default = or_zero n w; in_range = or_zero_fits n w p q }) ≡ kinds.DWire (record { width = n; default = x; in_range = i })) (sym e)
    (λ i. ap (λ i. kinds.DWire (record { width = n; default = or_zero n w; in_range = i })) (word_same n (or_zero n w) (or_zero_fits n w p q) i)) is))

module _ (n : ℕ) (a : 1 ≤ n) (b : n ≤ 128) where
  pub regu_in : regu n ≡ kinds.RegU (record { width = n; some_width = a; most_width = b })
  unfolding regu
  regu_in =
      in_range 128 n (λ p q. kinds.RegU (record { width = n; some_width = p; most_width = q })) _ a b
      (λ p q. ap₂ (λ p q. kinds.RegU (record { width = n; some_width = p; most_width = q })) (le_prop p a) (le_prop q b))

  pub wire_in : wire n ≡ kinds.Wire (record { width = n; some_width = a; most_width = b })
  unfolding wire
  wire_in =
      in_range 128 n (λ p q. kinds.Wire (record { width = n; some_width = p; most_width = q })) _ a b
      (λ p q. ap₂ (λ p q. kinds.Wire (record { width = n; some_width = p; most_width = q })) (le_prop p a) (le_prop q b))

  pub pipeline_in : pipeline n ≡ kinds.Pipeline (record { width = n; some_width = a; most_width = b })
  unfolding pipeline
  pipeline_in =
      in_range 128 n (λ p q. kinds.Pipeline (record { width = n; some_width = p; most_width = q })) _ a b
      (λ p q. ap₂ (λ p q. kinds.Pipeline (record { width = n; some_width = p; most_width = q })) (le_prop p a) (le_prop q b))

  pub bypass_in : bypass n ≡ kinds.Bypass (record { width = n; some_width = a; most_width = b })
  unfolding bypass
  bypass_in =
      in_range 128 n (λ p q. kinds.Bypass (record { width = n; some_width = p; most_width = q })) _ a b
      (λ p q. ap₂ (λ p q. kinds.Bypass (record { width = n; some_width = p; most_width = q })) (le_prop p a) (le_prop q b))

pub rwire_in : (n : ℕ) (a : 1 ≤ n) (b : n ≤ 127) → rwire n ≡ kinds.RWire (record { width = n; some_width = a; most_width = b })
unfolding rwire
rwire_in n a b =
    in_range 127 n (λ p q. kinds.RWire (record { width = n; some_width = p; most_width = q })) _ a b
    (λ p q. ap₂ (λ p q. kinds.RWire (record { width = n; some_width = p; most_width = q })) (le_prop p a) (le_prop q b))

module _ (n : ℕ) (none : 1 ≤ n → n ≤ 128 → ⊥) where
  pub reg_out : (w : Bits) → reg n w ≡ pulse
  unfolding reg
  reg_out w = out_of_range 128 n (λ p q. kinds.Reg (record { width = n; start = or_zero n w; in_range = or_zero_fits n w p q })) (λ p q. absurd (none p q))

  pub dwire_out : (w : Bits) → dwire n w ≡ pulse
  unfolding dwire
  dwire_out w = out_of_range 128 n (λ p q. kinds.DWire (record { width = n; default = or_zero n w; in_range = or_zero_fits n w p q })) (λ p q. absurd (none p q))

  pub regu_out : regu n ≡ pulse
  unfolding regu
  regu_out = out_of_range 128 n (λ p q. kinds.RegU (record { width = n; some_width = p; most_width = q })) (λ p q. absurd (none p q))

  pub wire_out : wire n ≡ pulse
  unfolding wire
  wire_out = out_of_range 128 n (λ p q. kinds.Wire (record { width = n; some_width = p; most_width = q })) (λ p q. absurd (none p q))

  pub pipeline_out : pipeline n ≡ pulse
  unfolding pipeline
  pipeline_out = out_of_range 128 n (λ p q. kinds.Pipeline (record { width = n; some_width = p; most_width = q })) (λ p q. absurd (none p q))

  pub bypass_out : bypass n ≡ pulse
  unfolding bypass
  bypass_out = out_of_range 128 n (λ p q. kinds.Bypass (record { width = n; some_width = p; most_width = q })) (λ p q. absurd (none p q))

pub rwire_out : (n : ℕ) → (1 ≤ n → n ≤ 127 → ⊥) → rwire n ≡ pulse
unfolding rwire
rwire_out n none = out_of_range 127 n (λ p q. kinds.RWire (record { width = n; some_width = p; most_width = q })) (λ p q. absurd (none p q))

-- ---- plain queues

pub plain_in : (n depth : ℕ) (a : 1 ≤ n) (b : n ≤ 128) (c : 1 ≤ depth) (d : depth ≤ 64)
    → plain n depth ≡ kinds.Plain (record { width = n; depth = depth; some_width = a; most_width = b; some_depth = c; most_depth = d })
unfolding plain
plain_in n depth a b c d =
    let made = λ (p : 1 ≤ n) (q : n ≤ 128) (r : 1 ≤ depth) (s : depth ≤ 64).
    kinds.Plain (record { width = n; depth = depth; some_width = p; most_width = q; some_depth = r; most_depth = s }) in
    in_range 128 n (λ p q. from_range 64 depth (λ r s. made p q r s)) (made a b c d) a b
    (λ p q. in_range 64 depth (λ r s. made p q r s) (made a b c d) c d
    (λ r s. ap₂ (λ p q. made p q r s) (le_prop p a) (le_prop q b) ∙ ap₂ (λ r s. made a b r s) (le_prop r c) (le_prop s d)))

pub plain_out : (n depth : ℕ) → (1 ≤ n → n ≤ 128 → 1 ≤ depth → depth ≤ 64 → ⊥) → plain n depth ≡ pulse
unfolding plain
plain_out n depth none =
    let made = λ (p : 1 ≤ n) (q : n ≤ 128) (r : 1 ≤ depth) (s : depth ≤ 64).
    kinds.Plain (record { width = n; depth = depth; some_width = p; most_width = q; some_depth = r; most_depth = s }) in
    out_of_range 128 n (λ p q. from_range 64 depth (made p q)) (λ p q. out_of_range 64 depth (made p q) (λ r s. absurd (none p q r s)))
