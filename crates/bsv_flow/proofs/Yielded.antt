-- A file yields one package, or one refusal, and not both.
use Rattle.std.proofs.Common.{◌≡◌, ℕ, ◌<◌, ◌≤◌, ◌⊎◌, inl, inr, List, length, take, codes, Option, Some, None, Result, Ok, Err, refl, ap, subst, ◌∙◌, arith}
use Rattle.std.proofs.lemmas.Bool.{cases_lt}
use Rattle.std.proofs.lemmas.List.{take_all, length-take}
use Rattle.bsv_ast.specs.declared.package.Package.{Package}
use Rattle.bsv_lex.specs.declared.piece.Flaw.{Flaw}
use Rattle.bsv_lex.specs.declared.piece.Flaw.TheVariants as flaw
use Rattle.bsv_lex.specs.declared.token.Token.{Token}
use Rattle.bsv_lex.specs.declared.token.LexFault.{LexFault}
use Rattle.bsv_lex.specs.declared.token.LexFault.TheVariants as fault
use Rattle.bsv_lex.specs.Tokens.{Splits, Tokens, FirstFault, fault_at}
use Rattle.bsv_lex.proofs.Splitting.{one_list, not_both, one_each}
use Rattle.bsv_expr.specs.declared.fault.ReadFault.{ReadFault}
use Rattle.bsv_expr.specs.Lexemes.{lexemes}
use Rattle.bsv_expr.specs.Reading.{◌>>=◌}
use Rattle.bsv_expr.specs.Expression.{IsShallow}
use Rattle.bsv_parse.specs.Depths.{first_deep}
use Rattle.bsv_parse.specs.Reads.{Reads, all_of, whole}
use Rattle.bsv_parse.proofs.Deepest.{found_deep, none_deep}
use Rattle.bsv_parse.proofs.Judged.{one_read, deep_is, whole_found}
use Rattle.bsv_parse.proofs.Whole.{found_at}
use Rattle.bsv_flow.specs.declared.refusal.Refusal.{Refusal}
use Rattle.bsv_flow.specs.declared.refusal.Refusal.TheVariants as refusal
use Rattle.bsv_flow.specs.Positions.{line, column}
use Rattle.bsv_flow.specs.Yields.{Yields, most_bytes}

-- a file is one package at most
pub found_once : (name bytes : List ℕ) (x y : Package) → Yields name bytes (Ok x) → Yields name bytes (Ok y) → x ≡ y
found_once name bytes x y (Yields.tree {ts = ts} le is shallow d) (Yields.tree {ts = us} less also low e) =
    one_read bytes ts x y d (subst (λ vs. Reads bytes vs y) (one_list bytes us ts also is) e)

-- a file that is a package is not refused
pub found_or_refused : (name bytes : List ℕ) (x : Package) (r : Refusal) → Yields name bytes (Ok x) → Yields name bytes (Err r) → ⊥
found_or_refused name bytes x r (Yields.tree le is shallow d) (Yields.too_large more) = omega arith
found_or_refused name bytes x r (Yields.tree {ts = ts} le is shallow d) (Yields.bad_byte less f) = not_both bytes ts _ is f
found_or_refused name bytes x r (Yields.tree {ts = ts} le is shallow d) (Yields.open_comment less f) = not_both bytes ts _ is f
found_or_refused name bytes x r (Yields.tree {ts = ts} le is shallow d) (Yields.bad_literal less f) = not_both bytes ts _ is f
found_or_refused name bytes x r (Yields.tree {ts = ts} le is shallow d) (Yields.too_long less f) = not_both bytes ts _ is f
found_or_refused name bytes x r (Yields.tree {ts = ts} le is shallow d) (Yields.too_deep {ts = us} {at = at} less also deep) =
    deep_is bytes us at deep (subst (λ vs. IsShallow bytes vs) (one_list bytes ts us is also) shallow)
found_or_refused name bytes x r (Yields.tree {ts = ts} le is shallow d) (Yields.no_tree {ts = us} at less also low never) =
    never x (subst (λ vs. Reads bytes vs x) (one_list bytes ts us is also) d)

-- ---- each file yields something

abbrev Something : List ℕ → List ℕ → Type 0
Something name bytes = (r : Result Package Refusal) × Yields name bytes r

flaw_in_text : (f : Flaw) (at : ℕ) → fault_at f at ≡ fault.OutOfMemory → ⊥
flaw_in_text flaw.BadByte at e = absurd cc
flaw_in_text flaw.OpenComment at e = absurd cc
flaw_in_text flaw.BadLiteral at e = absurd cc
flaw_in_text flaw.TooLong at e = absurd cc

some_fault : (x y : LexFault) → ◌≡◌ {A = Option LexFault} (Some x) (Some y) → x ≡ y
some_fault x y e = cc

-- no text lacks memory
never_memory : (at : ℕ) (bytes : List ℕ) (ts : List Token) (o : Option LexFault) → Splits at bytes ts o → o ≡ Some fault.OutOfMemory → ⊥
never_memory at bytes ts o Splits.end e = absurd cc
never_memory at bytes ts o (Splits.gap text rest parts stands more) e = never_memory _ rest _ o more e
never_memory at bytes ts o (Splits.token text rest parts stands more) e = never_memory _ rest _ o more e
never_memory at bytes ts o (Splits.broken {f = f} text rest parts stands) e = flaw_in_text f at (some_fault (fault_at f at) fault.OutOfMemory e)

at_fault : (name bytes : List ℕ) (f : LexFault) → length bytes ≤ most_bytes → FirstFault bytes f → Something name bytes
at_fault name bytes (fault.BadByte at) le first = (Err (refusal.BadByte name (line bytes at) (column bytes at)), Yields.bad_byte le first)
at_fault name bytes (fault.OpenComment at) le first = (Err (refusal.OpenComment name (line bytes at) (column bytes at)), Yields.open_comment le first)
at_fault name bytes (fault.BadLiteral at) le first = (Err (refusal.BadLiteral name (line bytes at) (column bytes at)), Yields.bad_literal le first)
at_fault name bytes (fault.TooLong at) le first = (Err (refusal.TooLong name (line bytes at) (column bytes at)), Yields.too_long le first)
at_fault name bytes fault.OutOfMemory le first = absurd (never_memory 0 bytes first.0 (Some fault.OutOfMemory) first.1 refl)

-- what the tokens are is read
is_read : (bytes : List ℕ) (ts : List Token) (x : Package) → IsShallow bytes ts → Reads bytes ts x → whole bytes (lexemes bytes ts) ≡ Ok x
unfolding whole
is_read bytes ts x shallow d = ap (λ r. r >>= λ a. all_of a) (found_at bytes (lexemes bytes ts) shallow d.0 x d.1)

not_read : (bytes : List ℕ) (ts : List Token) (f : ReadFault) → IsShallow bytes ts → whole bytes (lexemes bytes ts) ≡ Err f → (x : Package) → Reads bytes ts x → ⊥
not_read bytes ts f shallow none x d = let found = is_read bytes ts x shallow d in absurd cc

by_reading : (name bytes : List ℕ) (ts : List Token) (r : Result Package ReadFault) → length bytes ≤ most_bytes → Tokens bytes ts → IsShallow bytes ts → whole bytes (lexemes bytes ts) ≡ r → Something name bytes
by_reading name bytes ts (Ok x) le is shallow e = (Ok x, Yields.tree le is shallow (67, whole_found bytes (lexemes bytes ts) x e))
by_reading name bytes ts (Err f) le is shallow e = (Err (refusal.Syntax name (line bytes 0) (column bytes 0)), Yields.no_tree 0 le is shallow (not_read bytes ts f shallow e))

by_depth : (name bytes : List ℕ) (ts : List Token) (o : Option ℕ) → length bytes ≤ most_bytes → Tokens bytes ts → first_deep 0 (lexemes bytes ts) ≡ o → Something name bytes
by_depth name bytes ts (Some at) le is e = (Err (refusal.TooDeep name (line bytes at) (column bytes at)), Yields.too_deep le is (found_deep 0 (lexemes bytes ts) at e))
by_depth name bytes ts None le is e = by_reading name bytes ts (whole bytes (lexemes bytes ts)) le is (none_deep 0 (lexemes bytes ts) (omega arith) e) refl

by_length : (name bytes : List ℕ) → (most_bytes < length bytes) ⊎ (length bytes ≤ most_bytes) → Something name bytes
by_length name bytes (inl more) = (Err (refusal.Limit (codes "source") most_bytes), Yields.too_large more)
by_length name bytes (inr le) =
    elim (one_each bytes) [
      | inl found ↦ by_depth name bytes found.0 (first_deep 0 (lexemes bytes found.0)) le found.1 refl
      | inr fails ↦ at_fault name bytes fails.0 le fails.1
    ]

-- each file is a package, or is refused
pub some_yield : (name bytes : List ℕ) → (r : Result Package Refusal) × Yields name bytes r
some_yield name bytes = by_length name bytes (cases_lt most_bytes (length bytes))

-- ---- a source that was read up to one byte more than the limit

-- a source that is too large is refused for that
large : (name bytes text : List ℕ) (r : Result Package Refusal) → most_bytes < length bytes → most_bytes < length text → Yields name bytes r → Yields name text r
large name bytes text r more long (Yields.too_large also) = Yields.too_large long
large name bytes text r more long (Yields.bad_byte le first) = absurd (omega arith)
large name bytes text r more long (Yields.open_comment le first) = absurd (omega arith)
large name bytes text r more long (Yields.bad_literal le first) = absurd (omega arith)
large name bytes text r more long (Yields.too_long le first) = absurd (omega arith)
large name bytes text r more long (Yields.too_deep le is deep) = absurd (omega arith)
large name bytes text r more long (Yields.no_tree at le is shallow never) = absurd (omega arith)
large name bytes text r more long (Yields.tree le is shallow d) = absurd (omega arith)

-- it yields what the whole file yields
pub yields_of_front : (name text source : List ℕ) (r : Result Package Refusal) → source ≡ take 1048577 text → Yields name source r → Yields name text r
yields_of_front name text source r is y =
    elim (cases_lt most_bytes (length text)) [
      | inl more ↦ large name source text r (omega (arith, ap length is, length-take 1048577 text)) more y
      | inr le ↦ subst (λ bytes. Yields name bytes r) (is ∙ take_all 1048577 text (omega arith)) y
    ]
