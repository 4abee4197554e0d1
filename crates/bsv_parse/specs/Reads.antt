-- Which package the tokens of a source are, and when too many brackets are open at once in them.
use Rattle.std.specs.Prelude.{ℕ, List, [], ◌∷◌, Result, Ok}
use Rattle.bsv_ast.specs.declared.package.Package.{Package}
use Rattle.bsv_lex.specs.declared.token.Token.{Token}
use Rattle.bsv_expr.specs.declared.lexeme.Lexeme.{Lexeme}
use Rattle.bsv_expr.specs.declared.fault.ReadFault.{ReadFault}
use Rattle.bsv_expr.specs.Lexemes.{lexemes}
use Rattle.bsv_expr.specs.Reading.{◌>>=◌, refuse}
use Rattle.bsv_parse.specs.Packages.{IsFile, file, within}
use Rattle.bsv_parse.specs.Depths.{FirstDeep}

-- the tokens are this package, however many brackets are open at once
abbrev pub Reads : List ℕ → List Token → Package → Type 0
Reads source tokens x = (n : ℕ) × IsFile source n x (lexemes source tokens) []

-- the 65th bracket that is open at once begins at this byte
abbrev pub IsTooDeep : List ℕ → List Token → ℕ → Type 0
IsTooDeep source tokens at = FirstDeep 0 (lexemes source tokens) at

-- How it is read; no definition rests on this.

-- what was read, if no token comes after it
abbrev pub all_of : Package × List Lexeme → Result Package ReadFault
all_of (x, []) = Ok x
all_of (x, w ∷ rest) = refuse (w ∷ rest)

-- the file that all these tokens are, in whose blocks and brackets at most 66 are open at once
unfoldable pub whole : List ℕ → List Lexeme → Result Package ReadFault
whole source ts = within source 67 file ts >>= λ a. all_of a
