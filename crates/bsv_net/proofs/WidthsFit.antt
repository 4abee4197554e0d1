-- The words of the inputs of a scheme have the widths of its inputs, and those of registers the widths of the registers.
use Rattle.std.proofs.Common.{◌≡◌, ◌+◌, ℕ, suc, Bool, true, false, List, [], ◌∷◌, ◌++◌, Option, Some, refl, ap, subst, arith, map}
use Rattle.std.specs.Prelude.{slice_get, cond}
use Rattle.bsv_bits.specs.Words.{Bits, bit}
use Rattle.bsv_design.specs.declared.element.Port.{Port}
use Rattle.bsv_design.specs.design.Roles.{is_rule}
use Rattle.bsv_design.specs.scheme.Schemes.{Scheme, Outline, Asking, given, ports_of}
use Rattle.bsv_design.specs.scheme.States.{AreWordsOf}
use Rattle.bsv_guard.specs.Fitting.{HaveWidths}
use Rattle.bsv_clock.specs.Shows.{inputs_from, inputs_of, input_widths, input_widths_of, cell, cell_widths}
use Rattle.bsv_clock.specs.Clocks.{is_asked}
use Rattle.bsv_net.proofs.Solution.{have_both}
use Rattle.bsv_prim.specs.declared.primitive.RegisterInfo.{RegisterInfo}
use Rattle.bsv_net.specs.Nets.{register_widths}
use Rattle.bsv_net.specs.Unasked.{Arguments, inputs_with, inputs_with_from}
use Rattle.bsv_prim.specs.WireKinds.{bit_is_word}

pub cells_have : (rs : List RegisterInfo) → cell_widths (map cell rs) ≡ register_widths rs
cells_have [] = refl
cells_have (r ∷ rs) = ap (λ (ws : List ℕ). r.width ∷ ws) (cells_have rs)

words_have : (ps : List Port) (ws : List Bits) → AreWordsOf ps ws → HaveWidths (map (λ p. p.width) ps) ws
words_have [] [] h = tt
words_have [] (w ∷ ws) h = absurd h
words_have (p ∷ ps) [] h = absurd h
words_have (p ∷ ps) (w ∷ ws) h = (h.0, words_have ps ws h.1)

pub inputs_have : (q : Asking) (xs : Arguments) (n : ℕ) (os : List Outline) → ((j : ℕ) (o : Outline) → slice_get os j ≡ Some o → AreWordsOf o.ports (xs (n + j)))
    → HaveWidths (input_widths_of os) (inputs_with_from q xs n os)
inputs_have q xs n [] fit = tt
inputs_have q xs n (o ∷ os) fit =
    of (is_rule o.role)
    (inputs_have q xs (n + 1) os (λ j p there. subst (λ k. AreWordsOf p.ports (xs k)) (omega arith) (fit (suc j) p there)))
    (words_have o.ports (xs n) (subst (λ k. AreWordsOf o.ports (xs k)) (omega arith) (fit 0 o refl)))
  where
    of : (b : Bool) → HaveWidths (input_widths_of os) (inputs_with_from q xs (n + 1) os) → HaveWidths (map (λ p. p.width) o.ports) (xs n)
        → HaveWidths (cond b [] (map (λ p. p.width) o.ports ++ (1 ∷ input_widths_of os))) (cond b [] (xs n ++ (bit (is_asked q n) ∷ inputs_with_from q xs (n + 1) os)))
    of true rest first = tt
    of false rest first = have_both (map (λ p. p.width) o.ports) (xs n) (1 ∷ input_widths_of os) (bit (is_asked q n) ∷ inputs_with_from q xs (n + 1) os) first (bit_is_word (is_asked q n), rest)

-- the inputs of a scheme have its widths
pub inputs_of_scheme : (S : Scheme) (q : Asking) (xs : Arguments) → ((n : ℕ) → AreWordsOf (ports_of (slice_get S.elements n)) (xs n)) → HaveWidths (input_widths S) (inputs_with S q xs)
unfolding input_widths inputs_with
inputs_of_scheme S q xs fit =
    inputs_have q xs 0 S.elements (λ j o there.
    subst (λ n. AreWordsOf o.ports (xs n)) (omega arith)
    (subst (λ (x : Option Outline). AreWordsOf (ports_of x) (xs j)) there (fit j)))

-- what is given is one of the words that may be there
inputs_given_from : (S : Scheme) (q : Asking) (n : ℕ) (os : List Outline) → inputs_with_from q (given S q) n os ≡ inputs_from S q n os
inputs_given_from S q n [] = refl
inputs_given_from S q n (o ∷ os) =
    ap (λ (ws : List Bits). cond (is_rule o.role) [] (given S q n ++ (bit (is_asked q n) ∷ ws))) (inputs_given_from S q (n + 1) os)

pub inputs_given : (S : Scheme) (q : Asking) → inputs_with S q (given S q) ≡ inputs_of S q
unfolding inputs_with inputs_of
inputs_given S q = inputs_given_from S q 0 S.elements
