-- Tokens as the grammar sees them, and sets of words of the grammar.
use Rattle.std.specs.Prelude.{ℕ, Bool, true, false, not, ◌&&◌, List, [], ◌∷◌, length, ◌-◌, map, slice_get, slice_range, Option, Some, None}
use Rattle.std.specs.List.{list_any}
use denote.Enum.Bare.{sameb}
use Rattle.bsv_lex.specs.contracts.terminal.Terminal.{the_type}
use Rattle.bsv_lex.specs.declared.terminal.Terminal.{Terminal}
use Rattle.bsv_lex.specs.declared.token.Token.{Token}
use Rattle.bsv_lex.specs.Words.{terminal_of}
use Rattle.bsv_expr.specs.declared.lexeme.Lexeme.{Lexeme}

-- whether two words of the grammar are one
unfoldable pub same_terminal : Terminal → Terminal → Bool
same_terminal = sameb the_type

-- whether a word is one of these
abbrev pub is_in : List Terminal → Terminal → Bool
is_in set t = list_any (same_terminal t) set

-- whether the next token, if there is one, is one of these words
abbrev pub starts : List Terminal → List Lexeme → Bool
starts set [] = false
starts set (w ∷ rest) = is_in set w.terminal

-- whether each of the first words is one of the second ones
abbrev pub is_within : List Terminal → List Terminal → Bool
is_within [] set = true
is_within (x ∷ xs) set = is_in set x && is_within xs set

-- whether no word is one of both
abbrev pub is_apart : List Terminal → List Terminal → Bool
is_apart [] set = true
is_apart (x ∷ xs) set = not (is_in set x) && is_apart xs set

-- a token of the source as the grammar sees it
abbrev pub lexeme : List ℕ → Token → Lexeme
lexeme source t = record { terminal = terminal_of t.kind (slice_range source t.start t.end); span = record { start = t.start; end = t.end } }

-- the tokens of the source as the grammar sees them
unfoldable pub lexemes : List ℕ → List Token → List Lexeme
lexemes source ts = map (lexeme source) ts

-- the byte at which the token of a number begins, or the end of the source
abbrev pub start_or_end : List ℕ → Option Token → ℕ
start_or_end source None = length source
start_or_end source (Some t) = t.start

-- the byte at which the last tokens begin, of which there are so many, or the end of the source
abbrev pub place : List ℕ → List Token → ℕ → ℕ
place source tokens left = start_or_end source (slice_get tokens (length tokens - left))
