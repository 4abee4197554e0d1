-- Items after which no more go on.
use Rattle.std.proofs.Common.{◌≡◌, ℕ, zero, suc, Bool, false, List, Ok, refl}
use Rattle.bsv_lex.specs.declared.terminal.Terminal.{Terminal}
use Rattle.bsv_expr.specs.declared.lexeme.Lexeme.{Lexeme}
use Rattle.bsv_expr.specs.Reading.{Read, turns}

pub turns_closed : {S A : Type 0} (soft : Bool) (set : List Terminal) (goes : S → Bool) (step : S → A → S) (item : List Lexeme → Read A) (n : ℕ) (s : S) (ts : List Lexeme)
    → goes s ≡ false → turns soft set goes step item n s ts ≡ Ok (s, ts)
unfolding turns
turns_closed soft set goes step item zero s ts shut = refl
turns_closed soft set goes step item (suc n) s ts shut = rw shut refl
