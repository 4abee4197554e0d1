-- What a file yields, from what its tokens and its brackets are.
use Rattle.std.proofs.Common.{◌≡◌, ℕ, ◌≤◌, List, length, Result, Ok, Err, refl, subst, sym, rules}
use Rattle.bsv_ast.specs.declared.package.Package.{Package}
use Rattle.bsv_lex.specs.declared.token.Token.{Token}
use Rattle.bsv_lex.specs.declared.token.LexFault.{LexFault}
use Rattle.bsv_lex.specs.declared.token.LexFault.TheVariants as lexical
use Rattle.bsv_lex.specs.Tokens.{Tokens, FirstFault}
use Rattle.bsv_expr.specs.Expression.{IsShallow}
use Rattle.bsv_parse.specs.declared.answer.ParseFault.{ParseFault}
use Rattle.bsv_parse.specs.declared.answer.ParseFault.TheVariants as parse
use Rattle.bsv_parse.specs.Reads.{Reads, IsTooDeep}
use Rattle.bsv_flow.specs.Positions.{line, column}
use Rattle.bsv_flow.specs.Yields.{Yields, most_bytes}
use Rattle.bsv_flow.specs.declared.refusal.CompileFault.{CompileFault}
use Rattle.bsv_flow.specs.declared.refusal.CompileFault.TheVariants as fault
use Rattle.bsv_flow.specs.declared.refusal.Refusal.{Refusal}
use Rattle.bsv_flow.specs.declared.refusal.Refusal.TheVariants as refusal

-- a call that failed with one fault failed with no other
pub same_fault : {X : Type 0} (f g : CompileFault) → ◌≡◌ {A = Result X CompileFault} (Err f) (Err g) → f ≡ g
same_fault {X} f g e = search rules

module _ (file source : List ℕ) (small : length source ≤ most_bytes) where
  -- the first fault of the tokens is the refusal
  pub refused_by_token : (f : LexFault) (told : CompileFault) (r : Refusal)
      → ((f ≡ lexical.OutOfMemory → ⊥) → FirstFault source f)
      → ((at : ℕ) (q : Refusal) → f ≡ lexical.BadByte at → told ≡ fault.Refused q → q ≡ refusal.BadByte file (line source at) (column source at))
      → ((at : ℕ) (q : Refusal) → f ≡ lexical.OpenComment at → told ≡ fault.Refused q → q ≡ refusal.OpenComment file (line source at) (column source at))
      → ((at : ℕ) (q : Refusal) → f ≡ lexical.BadLiteral at → told ≡ fault.Refused q → q ≡ refusal.BadLiteral file (line source at) (column source at))
      → ((at : ℕ) (q : Refusal) → f ≡ lexical.TooLong at → told ≡ fault.Refused q → q ≡ refusal.TooLong file (line source at) (column source at))
      → ((q : Refusal) → f ≡ lexical.OutOfMemory → told ≡ fault.Refused q → ⊥)
      → told ≡ fault.Refused r → Yields file source (Err r)
  refused_by_token (lexical.BadByte at) told r first bad_byte open_comment bad_literal too_long none e =
      subst (λ q. Yields file source (Err q)) (sym (bad_byte at r refl e)) (Yields.bad_byte small (first (λ never. absurd cc)))
  refused_by_token (lexical.OpenComment at) told r first bad_byte open_comment bad_literal too_long none e =
      subst (λ q. Yields file source (Err q)) (sym (open_comment at r refl e)) (Yields.open_comment small (first (λ never. absurd cc)))
  refused_by_token (lexical.BadLiteral at) told r first bad_byte open_comment bad_literal too_long none e =
      subst (λ q. Yields file source (Err q)) (sym (bad_literal at r refl e)) (Yields.bad_literal small (first (λ never. absurd cc)))
  refused_by_token (lexical.TooLong at) told r first bad_byte open_comment bad_literal too_long none e =
      subst (λ q. Yields file source (Err q)) (sym (too_long at r refl e)) (Yields.too_long small (first (λ never. absurd cc)))
  refused_by_token lexical.OutOfMemory told r first bad_byte open_comment bad_literal too_long none e = absurd (none r refl e)

  module _ (tokens given : List Token) (same : given ≡ tokens) (are : Tokens source tokens) where
    -- the package of the tokens is what the file yields
    pub found_by_tree : (x : Package) → IsShallow source given → Reads source given x → Yields file source (Ok x)
    found_by_tree x shallow reads =
        Yields.tree small are (subst (λ ts. IsShallow source ts) same shallow) (subst (λ ts. Reads source ts x) same reads)

    -- too many brackets, or no package, is the refusal
    pub refused_by_tree : (f : ParseFault) (told : CompileFault) (r : Refusal)
        → ((at : ℕ) → ◌≡◌ {A = Result Package ParseFault} (Err f) (Err (parse.TooDeep at)) → IsTooDeep source given at)
        → ((at : ℕ) → ◌≡◌ {A = Result Package ParseFault} (Err f) (Err (parse.Syntax at)) → (x : Package) → Reads source given x → ⊥)
        → ((at : ℕ) → ◌≡◌ {A = Result Package ParseFault} (Err f) (Err (parse.Syntax at)) → IsShallow source given)
        → ((at : ℕ) (q : Refusal) → f ≡ parse.Syntax at → told ≡ fault.Refused q → q ≡ refusal.Syntax file (line source at) (column source at))
        → ((at : ℕ) (q : Refusal) → f ≡ parse.TooDeep at → told ≡ fault.Refused q → q ≡ refusal.TooDeep file (line source at) (column source at))
        → ((q : Refusal) → f ≡ parse.OutOfMemory → told ≡ fault.Refused q → ⊥)
        → told ≡ fault.Refused r → Yields file source (Err r)
    refused_by_tree (parse.Syntax at) told r is_deep is_none is_shallow syntax too_deep none e =
        subst (λ q. Yields file source (Err q)) (sym (syntax at r refl e))
        (Yields.no_tree at small are (subst (λ ts. IsShallow source ts) same (is_shallow at refl)) (subst (λ ts. (x : Package) → Reads source ts x → ⊥) same (is_none at refl)))
    refused_by_tree (parse.TooDeep at) told r is_deep is_none is_shallow syntax too_deep none e =
        subst (λ q. Yields file source (Err q)) (sym (too_deep at r refl e))
        (Yields.too_deep small are (subst (λ ts. IsTooDeep source ts at) same (is_deep at refl)))
    refused_by_tree parse.OutOfMemory told r is_deep is_none is_shallow syntax too_deep none e = absurd (none r refl e)
