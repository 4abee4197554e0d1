-- Where too many brackets are open at once.
use Rattle.std.specs.Prelude.{ℕ, ◌<◌, ◌≤◌, nat_lt, if◌then◌else◌, List, [], ◌∷◌, Option, Some, None}
use Rattle.bsv_expr.specs.declared.lexeme.Lexeme.{Lexeme}
use Rattle.bsv_expr.specs.Brackets.{open_after}

-- with so many open before, the first token after which more than 64 are open begins at this byte
pub data FirstDeep : ℕ → List Lexeme → ℕ → Type 0 where
  here : {count : ℕ} {w : Lexeme} {ts : List Lexeme} → 64 < open_after count w.terminal → FirstDeep count (w ∷ ts) w.span.start
  later : {count : ℕ} {w : Lexeme} {ts : List Lexeme} {at : ℕ} → open_after count w.terminal ≤ 64 → FirstDeep (open_after count w.terminal) ts at → FirstDeep count (w ∷ ts) at

-- the byte of that token, if there is one
unfoldable pub first_deep : ℕ → List Lexeme → Option ℕ
first_deep count [] = None
first_deep count (w ∷ ts) = if nat_lt 64 (open_after count w.terminal) then Some w.span.start else first_deep (open_after count w.terminal) ts
