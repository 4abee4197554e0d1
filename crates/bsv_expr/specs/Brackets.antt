-- How many brackets are open at once (the brackets of texts are `(`, `(*`, `[`, `{`, `begin` and `case`).
use Rattle.std.specs.Prelude.{ℕ, suc, ◌-◌, ◌≤◌, if◌then◌else◌, List, [], ◌∷◌}
use Rattle.bsv_lex.specs.declared.terminal.Terminal.{Terminal}
use Rattle.bsv_lex.specs.declared.terminal.Terminal.TheVariants as word
use Rattle.bsv_expr.specs.declared.lexeme.Lexeme.{Lexeme}
use Rattle.bsv_expr.specs.Lexemes.{is_in}

abbrev pub openers : List Terminal
openers = word.OpenParen ∷ word.OpenAttribute ∷ word.OpenBracket ∷ word.OpenBrace ∷ word.Begin ∷ word.Case ∷ []

abbrev pub closers : List Terminal
closers = word.CloseParen ∷ word.CloseAttribute ∷ word.CloseBracket ∷ word.CloseBrace ∷ word.End ∷ word.EndCase ∷ []

-- how many are open after a token: a closing one closes the innermost, and none where none is open
unfoldable pub open_after : ℕ → Terminal → ℕ
open_after count t = if is_in openers t then suc count else (if is_in closers t then count - 1 else count)

-- from so many open brackets on, somewhere so many are open at once
pub data Reaches (limit : ℕ) : ℕ → List Lexeme → Type 0 where
  here : {count : ℕ} {ts : List Lexeme} → limit ≤ count → Reaches limit count ts
  later : {count : ℕ} {w : Lexeme} {ts : List Lexeme} → Reaches limit (open_after count w.terminal) ts → Reaches limit count (w ∷ ts)
