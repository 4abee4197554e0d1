-- The turns of a loop of a reader.
use Rattle.std.proofs.Common.{◌≡◌, ℕ, ◌+◌, ◌-◌, ◌<◌, ◌≤◌, Bool, ◌&&◌, if◌then◌else◌, List, Ok}
use Rattle.bsv_lemmas.proofs.Turns.{one_more, no_more}
use Rattle.bsv_lex.specs.declared.terminal.Terminal.{Terminal}
use Rattle.bsv_expr.specs.declared.lexeme.Lexeme.{Lexeme}
use Rattle.bsv_expr.specs.Lexemes.{starts}
use Rattle.bsv_expr.specs.Reading.{Read, softened, turns}

module _ {S A : Type 0} (soft : Bool) (set : List Terminal) (goes : S → Bool) (step : S → A → S) (item : List Lexeme → Read A) where
  pub turns_more : (n at : ℕ) (s : S) (ts : List Lexeme) → at < n → turns soft set goes step item (n - at) s ts ≡ (if goes s && starts set ts then softened soft (item ts) (Ok (s, ts)) (λ a. turns soft set goes step item (n - (at + 1)) (step s a.0) a.1) else Ok (s, ts))
  unfolding turns
  turns_more n at s ts below = one_more (λ m. turns soft set goes step item m s ts) n at below

  pub turns_end : (n at : ℕ) (s : S) (ts : List Lexeme) → n ≤ at → turns soft set goes step item (n - at) s ts ≡ Ok (s, ts)
  unfolding turns
  turns_end n at s ts done = no_more (λ m. turns soft set goes step item m s ts) n at done

pub ruleset turns_of = (turns_more, turns_end)
