-- The start of a register without one, cut from one number for every width.
use Rattle.std.proofs.Common.{◌≡◌, ℕ, zero, suc, ◌+◌, ◌-◌, ◌/◌, ◌%◌, ◌^◌, ◌≤◌, Bool, true, refl, ap, sym, subst, ◌∙◌, arith, inl, inr}
use Rattle.std.specs.Prelude.{◌&&◌, nat_eq}
use Rattle.std.proofs.lemmas.Bool.{eqb-true, cases_lt, and_parts}
use Rattle.bsv_bits.specs.Words.{reduced}
use Rattle.bsv_prim.specs.Registers.{odd_bits, unset_start}

-- 128 bits, of which the odd ones are 1
abbrev all_odd : ℕ
all_odd = 0xaaaaaaaaaaaaaaaaaaaaaaaaaaaaaaaa

-- a test of all widths up to one
agrees : ℕ → Bool
agrees zero = nat_eq (odd_bits zero) (all_odd % 2 ^ zero)
agrees (suc n) = nat_eq (odd_bits (suc n)) (all_odd % 2 ^ suc n) && agrees n

agrees_everywhere : agrees 128 ≡ true
unfolding agrees
agrees_everywhere = refl

agrees_at : (n : ℕ) → agrees n ≡ true → (width : ℕ) → width ≤ n → odd_bits width ≡ all_odd % 2 ^ width
unfolding agrees
agrees_at zero h zero l = eqb-true _ _ h
agrees_at zero h (suc width) l = absurd (omega arith)
agrees_at (suc n) h width l =
    let parts = and_parts (nat_eq (odd_bits (suc n)) (all_odd % 2 ^ suc n)) (agrees n) h in
    elim (cases_lt n width) [
      | inl above ↦ let same : suc n ≡ width = omega arith in subst (λ (k : ℕ). odd_bits k ≡ all_odd % 2 ^ k) same (eqb-true _ _ parts.0)
      | inr within ↦ agrees_at n parts.1 width within
    ]

pub start_is_cut : (width : ℕ) → 1 ≤ width → width ≤ 128 → reduced (width - 1 - 0 + 1) (0xaaaaaaaaaaaaaaaaaaaaaaaaaaaaaaaa / 2 ^ 0) ≡ unset_start width
start_is_cut width some most =
    let whole : width - 1 - 0 + 1 ≡ width = omega arith in
    ap (λ (k : ℕ). reduced k all_odd) whole
    ∙ ap (λ (n : ℕ). record { width = width; value = n }) (sym (agrees_at 128 agrees_everywhere width most))
