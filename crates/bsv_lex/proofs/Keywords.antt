-- A text is a keyword of the grammar exactly where it is in the list of keywords.
use Rattle.std.proofs.Common.{◌≡◌, ◌∙◌, ℕ, Bool, true, false, ◌||◌, List, [], ◌∷◌, map, Option, Some, None, is_some, refl, ap, if◌then◌else◌}
use Rattle.std.specs.Str.{bytes_eq}
use Rattle.bsv_ast.specs.Names.{reserved_words, is_listed, is_keyword}
use Rattle.bsv_lex.specs.declared.terminal.Terminal.{Terminal}
use Rattle.bsv_lex.specs.declared.terminal.Terminal.TheVariants as word
use Rattle.bsv_lex.specs.Words.{Entry, keywords, lookup, or_reserved, keyword}
use Rattle.bsv_lex.proofs.Tables.{grammar_table}

found_by : (t : Bool) (terminal : Terminal) (entries : List Entry) (text : List ℕ) → is_some (lookup entries text) ≡ is_listed (map (λ entry. entry.0) entries) text → is_some (if t then Some terminal else lookup entries text) ≡ (if t then true else is_listed (map (λ entry. entry.0) entries) text)
found_by true terminal entries text rest = refl
found_by false terminal entries text rest = rest

found : (entries : List Entry) (text : List ℕ) → is_some (lookup entries text) ≡ is_listed (map (λ entry. entry.0) entries) text
found [] text = refl
found (entry ∷ entries) text = found_by (bytes_eq entry.0 text) entry.1 entries text (found entries text)

reserved_by : (t : Bool) → is_some (if t then Some word.Reserved else None) ≡ t
reserved_by true = refl
reserved_by false = refl

either : (o : Option Terminal) (text : List ℕ) → is_some (or_reserved o text) ≡ (is_some o || is_listed reserved_words text)
either None text = reserved_by (is_listed reserved_words text)
either (Some terminal) text = refl

pub keyword_is : (text : List ℕ) → is_some (keyword text) ≡ is_keyword text
unfolding keyword is_keyword
keyword_is text = either (lookup keywords text) text ∙ ap (λ b. b || is_listed reserved_words text) (found keywords text ∙ ap (λ words. is_listed words text) grammar_table)
