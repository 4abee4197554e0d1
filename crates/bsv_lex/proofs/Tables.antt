-- The tables of the code are those of the definitions.
use Rattle.std.proofs.Common.{◌≡◌, map, refl}
use Rattle.bsv_lex.specs.declared.terminal.TheConstants.{KEYWORDS, RESERVED, SYMBOLS}
use Rattle.bsv_ast.specs.Names.{grammar_words, reserved_words}
use Rattle.bsv_lex.specs.Words.{keywords, symbols}

pub keywords_table : map (λ entry. (entry.0.now, entry.1)) KEYWORDS ≡ keywords
unfolding keywords
keywords_table = refl

pub grammar_table : map (λ entry. entry.0) keywords ≡ grammar_words
unfolding keywords grammar_words
grammar_table = refl

pub reserved_table : map (λ entry. entry.now) RESERVED ≡ reserved_words
unfolding reserved_words
reserved_table = refl

pub symbols_table : map (λ entry. (entry.0.now, entry.1)) SYMBOLS ≡ symbols
unfolding symbols
symbols_table = refl

pub ruleset keyword_tables = (keywords_table, reserved_table)

pub ruleset symbol_table = (symbols_table)
