-- Where too many brackets are open at once, and only there, is a first one of them.
use Rattle.std.proofs.Common.{◌≡◌, ℕ, suc, ◌+◌, ◌<◌, ◌≤◌, Bool, true, false, nat_lt, if◌then◌else◌, List, [], ◌∷◌, length, drop, get_or, Some, None, refl, ap, subst, sym, ◌∙◌, drop-cons, arith}
use Rattle.bsv_expr.specs.declared.lexeme.Lexeme.{Lexeme}
use Rattle.bsv_expr.specs.Brackets.{open_after, Reaches}
use Rattle.bsv_parse.specs.Depths.{FirstDeep, first_deep}
use Rattle.bsv_expr.proofs.Tools.{some_is}

told : (count : ℕ) (w : Lexeme) (ts : List Lexeme) (b : Bool) → nat_lt 64 (open_after count w.terminal) ≡ b
    → ((at : ℕ) → first_deep (open_after count w.terminal) ts ≡ Some at → FirstDeep (open_after count w.terminal) ts at)
    → (at : ℕ) → (if b then Some w.span.start else first_deep (open_after count w.terminal) ts) ≡ Some at → FirstDeep count (w ∷ ts) at
told count w ts true is go at e = subst (λ n. FirstDeep count (w ∷ ts) n) (some_is w.span.start at e) (FirstDeep.here (grind (arith, is)))
told count w ts false is go at e = FirstDeep.later (grind (arith, is)) (go at e)

-- the byte that is found is that of the first one
pub found_deep : (count : ℕ) (ts : List Lexeme) (at : ℕ) → first_deep count ts ≡ Some at → FirstDeep count ts at
unfolding first_deep
found_deep count [] at e = absurd cc
found_deep count (w ∷ ts) at e = told count w ts (nat_lt 64 (open_after count w.terminal)) refl (found_deep (open_after count w.terminal) ts) at e

-- and it is found
pub deep_found : (count : ℕ) (ts : List Lexeme) (at : ℕ) → FirstDeep count ts at → first_deep count ts ≡ Some at
unfolding first_deep
deep_found count ts at (FirstDeep.here {w = w} {ts = us} more) = let is : nat_lt 64 (open_after count w.terminal) ≡ true = grind arith in rw is refl
deep_found count ts at (FirstDeep.later {w = w} {ts = us} less d) = let is : nat_lt 64 (open_after count w.terminal) ≡ false = grind arith in rw is (deep_found (open_after count w.terminal) us at d)

reached : (count : ℕ) (w : Lexeme) (ts : List Lexeme) (b : Bool) → nat_lt 64 (open_after count w.terminal) ≡ b
    → (open_after count w.terminal ≤ 64 → first_deep (open_after count w.terminal) ts ≡ None → Reaches 65 (open_after count w.terminal) ts → ⊥)
    → (if b then Some w.span.start else first_deep (open_after count w.terminal) ts) ≡ None → Reaches 65 (open_after count w.terminal) ts → ⊥
reached count w ts true is go e r = absurd cc
reached count w ts false is go e r = go (grind (arith, is)) e r

-- where none is found, no more than 64 are open at once
pub none_deep : (count : ℕ) (ts : List Lexeme) → count ≤ 64 → first_deep count ts ≡ None → Reaches 65 count ts → ⊥
unfolding first_deep
none_deep count [] le e (Reaches.here h) = omega arith
none_deep count (w ∷ us) le e (Reaches.here h) = omega arith
none_deep count (w ∷ us) le e (Reaches.later d) = reached count w us (nat_lt 64 (open_after count w.terminal)) refl (λ less none. none_deep (open_after count w.terminal) us less none) e d

-- where one is found, more than 64 are open at once
pub deep_reaches : (count : ℕ) (ts : List Lexeme) (at : ℕ) → FirstDeep count ts at → Reaches 65 count ts
deep_reaches count ts at (FirstDeep.here more) = Reaches.later (Reaches.here (omega arith))
deep_reaches count ts at (FirstDeep.later less d) = Reaches.later (deep_reaches _ _ at d)

-- one token more
pub deeper : (count at : ℕ) (w : Lexeme) (ts : List Lexeme) → at < length ts → get_or ts at w ≡ w → first_deep count (drop at ts) ≡ (if nat_lt 64 (open_after count w.terminal) then Some w.span.start else first_deep (open_after count w.terminal) (drop (at + 1) ts))
unfolding first_deep
deeper count at w ts below is = let one : at + 1 ≡ suc at = omega arith in let split : drop at ts ≡ w ∷ drop (at + 1) ts = drop-cons ts at w below ∙ ap (λ v. v ∷ drop (suc at) ts) is ∙ ap (λ n. w ∷ drop n ts) (sym one) in rw split refl
