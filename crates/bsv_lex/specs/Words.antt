-- The words of the grammar: what each keyword and each symbol is to it.
use Rattle.std.specs.Prelude.{ℕ, if◌then◌else◌, List, [], ◌∷◌, Option, Some, None, unwrap_or, codes}
use Rattle.std.specs.Str.{bytes_eq}
use Rattle.bsv_ast.specs.Names.{reserved_words, is_listed}
use Rattle.bsv_lex.specs.declared.token.TokenKind.{TokenKind}
use Rattle.bsv_lex.specs.declared.token.TokenKind.TheVariants as kind
use Rattle.bsv_lex.specs.declared.terminal.Terminal.{Terminal}
use Rattle.bsv_lex.specs.declared.terminal.Terminal.TheVariants as word

-- a word of the grammar, and what it is to the grammar
abbrev pub Entry : Type 0
Entry = List ℕ × Terminal

-- the keywords that are in a production
unfoldable pub keywords : List Entry
keywords =
    (codes "package", word.Package) ∷ (codes "endpackage", word.EndPackage) ∷ (codes "import", word.Import) ∷
    (codes "typedef", word.Typedef) ∷ (codes "enum", word.Enum) ∷ (codes "struct", word.Struct) ∷
    (codes "deriving", word.Deriving) ∷ (codes "interface", word.Interface) ∷
    (codes "endinterface", word.EndInterface) ∷ (codes "method", word.Method) ∷
    (codes "endmethod", word.EndMethod) ∷ (codes "function", word.Function) ∷
    (codes "endfunction", word.EndFunction) ∷ (codes "module", word.Module) ∷
    (codes "endmodule", word.EndModule) ∷ (codes "rule", word.Rule) ∷ (codes "endrule", word.EndRule) ∷
    (codes "let", word.Let) ∷ (codes "return", word.Return) ∷ (codes "if", word.If) ∷
    (codes "else", word.Else) ∷ (codes "case", word.Case) ∷ (codes "matches", word.Matches) ∷
    (codes "tagged", word.Tagged) ∷ (codes "default", word.Default) ∷ (codes "endcase", word.EndCase) ∷
    (codes "for", word.For) ∷ (codes "begin", word.Begin) ∷ (codes "end", word.End) ∷
    (codes "noAction", word.NoAction) ∷ (codes "int", word.Int) ∷ []

-- the symbols
unfoldable pub symbols : List Entry
symbols =
    (codes "(", word.OpenParen) ∷ (codes ")", word.CloseParen) ∷ (codes "[", word.OpenBracket) ∷
    (codes "]", word.CloseBracket) ∷ (codes "{", word.OpenBrace) ∷ (codes "}", word.CloseBrace) ∷
    (codes "(*", word.OpenAttribute) ∷ (codes "*)", word.CloseAttribute) ∷ (codes ";", word.Semicolon) ∷
    (codes ":", word.Colon) ∷ (codes "::", word.DoubleColon) ∷ (codes ",", word.Comma) ∷ (codes ".", word.Dot) ∷
    (codes "#", word.Hash) ∷ (codes "?", word.Question) ∷ (codes "=", word.Equal) ∷
    (codes "==", word.DoubleEqual) ∷ (codes "!=", word.NotEqual) ∷ (codes "<", word.Less) ∷
    (codes "<=", word.LessEqual) ∷ (codes "<-", word.LeftArrow) ∷ (codes "<<", word.ShiftLeft) ∷
    (codes ">", word.Greater) ∷ (codes ">=", word.GreaterEqual) ∷ (codes ">>", word.ShiftRight) ∷
    (codes "+", word.Plus) ∷ (codes "-", word.Minus) ∷ (codes "*", word.Star) ∷ (codes "&", word.And) ∷
    (codes "&&", word.DoubleAnd) ∷ (codes "^", word.Caret) ∷ (codes "|", word.Or) ∷
    (codes "||", word.DoubleOr) ∷ (codes "!", word.Not) ∷ (codes "~", word.Tilde) ∷ []

-- what the entries have for a text
abbrev pub lookup : List Entry → List ℕ → Option Terminal
lookup [] text = None
lookup (entry ∷ entries) text = if bytes_eq entry.0 text then Some entry.1 else lookup entries text

-- what was found for a text, else `Reserved` where it is a reserved word
abbrev pub or_reserved : Option Terminal → List ℕ → Option Terminal
or_reserved (Some found) text = Some found
or_reserved None text = if is_listed reserved_words text then Some word.Reserved else None

-- the keyword that a text is
unfoldable pub keyword : List ℕ → Option Terminal
keyword text = or_reserved (lookup keywords text) text

-- the symbol that a text is
unfoldable pub symbol : List ℕ → Option Terminal
symbol text = lookup symbols text

-- what a token of this kind and text is to the grammar; a keyword that is none of the grammar's is reserved
abbrev pub terminal_of : TokenKind → List ℕ → Terminal
terminal_of kind.Lower text = word.Lower
terminal_of kind.Upper text = word.Upper
terminal_of kind.Keyword text = unwrap_or (keyword text) word.Reserved
terminal_of kind.Number text = word.Number
terminal_of kind.Text text = word.Text
terminal_of kind.Symbol text = unwrap_or (symbol text) word.Reserved
