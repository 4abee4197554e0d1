-- The kind that a maker makes. A width or a depth that a kind does not have, which no typed design asks for, gives a
-- wire without a word. The facts beside the fields of a kind are proved here.
use Rattle.std.specs.Prelude.{ℕ, ◌^◌, ◌≡◌, ◌≤◌, ◌<◌, ◌==◌, ◌&&◌, nat_le, nat_lt, Bool, true, false, if◌then◌else◌}
use Rattle.std.proofs.Common.{refl, subst, leb-true}
use Rattle.std.proofs.lemmas.Bool.{eqb-true, ltb-true}
use Rattle.bsv_bits.specs.Words.{Bits, IsWord, zero_word}
use Rattle.bsv_bits.proofs.Modulo.{IsWord_zero}
use Rattle.bsv_prim.specs.Table.{IsWordOf}
use Rattle.bsv_types.specs.declared.makers.GivenMaker.{GivenMaker}
use Rattle.bsv_types.specs.declared.makers.GivenMaker.TheVariants as maker
use Rattle.bsv_design.specs.declared.kind.Kind.{Kind}
use Rattle.bsv_design.specs.declared.kind.Kind.TheVariants as kinds

abbrev pub pulse : Kind
pulse = kinds.Pulse (record {})

-- what follows where the test is passed
abbrev pub passed : (b : Bool) → (b ≡ true → Kind) → Kind
passed true f = f refl
passed false f = pulse

abbrev pub from_range : (most n : ℕ) → (1 ≤ n → n ≤ most → Kind) → Kind
from_range most n f = passed (nat_le 1 n) (λ a. passed (nat_le n most) (λ b. f (leb-true 1 n a) (leb-true n most b)))

-- the word, where it has so many bits, as it has in each typed design; or else 0
abbrev pub or_zero : ℕ → Bits → Bits
or_zero n w = if (w.width == n) && nat_lt w.value (2 ^ n) then w else zero_word n

pub or_zero_fits : (n : ℕ) (w : Bits) → 1 ≤ n → n ≤ 128 → IsWordOf n (or_zero n w)
or_zero_fits n w a b = by (w.width == n) (nat_lt w.value (2 ^ n)) refl refl where
  zero_fits : IsWordOf n (zero_word n)
  zero_fits = record { word = IsWord_zero n a b; same_width = refl }

  by : (x y : Bool) → (w.width == n) ≡ x → nat_lt w.value (2 ^ n) ≡ y → IsWordOf n (if x && y then w else zero_word n)
  by true true e f =
      let same : w.width ≡ n = eqb-true w.width n e in
      record { word = subst (λ m. 1 ≤ m → m ≤ 128 → w.value < 2 ^ m → IsWord w) same (λ p q r. record { some = p; most = q; below = r }) a b (ltb-true w.value (2 ^ n) f); same_width = same }
  by true false e f = zero_fits
  by false y e f = zero_fits

unfoldable pub reg : ℕ → Bits → Kind
reg n w = from_range 128 n (λ a b. kinds.Reg (record { width = n; start = or_zero n w; in_range = or_zero_fits n w a b }))

unfoldable pub regu : ℕ → Kind
regu n = from_range 128 n (λ a b. kinds.RegU (record { width = n; some_width = a; most_width = b }))

unfoldable pub wire : ℕ → Kind
wire n = from_range 128 n (λ a b. kinds.Wire (record { width = n; some_width = a; most_width = b }))

unfoldable pub dwire : ℕ → Bits → Kind
dwire n w = from_range 128 n (λ a b. kinds.DWire (record { width = n; default = or_zero n w; in_range = or_zero_fits n w a b }))

unfoldable pub rwire : ℕ → Kind
rwire n = from_range 127 n (λ a b. kinds.RWire (record { width = n; some_width = a; most_width = b }))

unfoldable pub plain : ℕ → ℕ → Kind
plain n depth =
    from_range 128 n (λ a b. from_range 64 depth (λ c d.
    kinds.Plain (record { width = n; depth = depth; some_width = a; most_width = b; some_depth = c; most_depth = d })))

unfoldable pub pipeline : ℕ → Kind
pipeline n = from_range 128 n (λ a b. kinds.Pipeline (record { width = n; some_width = a; most_width = b }))

unfoldable pub bypass : ℕ → Kind
bypass n = from_range 128 n (λ a b. kinds.Bypass (record { width = n; some_width = a; most_width = b }))

-- by the width of what it holds, its depth, and its start or default
abbrev pub kind_of : GivenMaker → ℕ → ℕ → Bits → Kind
kind_of maker.Reg n depth w = reg n w
kind_of maker.RegU n depth w = regu n
kind_of maker.Wire n depth w = wire n
kind_of maker.DWire n depth w = dwire n w
kind_of maker.RWire n depth w = rwire n
kind_of maker.PulseWire n depth w = pulse
kind_of maker.Fifo n depth w = plain n depth
kind_of maker.Fifo1 n depth w = plain n depth
kind_of maker.SizedFifo n depth w = plain n depth
kind_of maker.Fifof n depth w = plain n depth
kind_of maker.Fifof1 n depth w = plain n depth
kind_of maker.SizedFifof n depth w = plain n depth
kind_of maker.LFifo n depth w = pipeline n
kind_of maker.PipelineFifo n depth w = pipeline n
kind_of maker.LFifof n depth w = pipeline n
kind_of maker.PipelineFifof n depth w = pipeline n
kind_of maker.BypassFifo n depth w = bypass n
kind_of maker.BypassFifof n depth w = bypass n
