-- What the reading of all the tokens of a source says of them.
use Rattle.std.proofs.Common.{◌≡◌, ℕ, List, [], ◌∷◌, Option, Some, None, Result, Ok, Err, refl, ap, subst, sym, ◌∙◌, arith}
use Rattle.bsv_ast.specs.declared.package.Package.{Package}
use Rattle.bsv_expr.specs.declared.lexeme.Lexeme.{Lexeme}
use Rattle.bsv_expr.specs.declared.fault.ReadFault.{ReadFault}
use Rattle.bsv_expr.specs.declared.fault.ReadFault.TheVariants as fault
use Rattle.bsv_lex.specs.declared.token.Token.{Token}
use Rattle.bsv_expr.specs.Lexemes.{lexemes}
use Rattle.bsv_expr.specs.Expression.{IsShallow}
use Rattle.bsv_expr.specs.Reading.{Read, ◌>>=◌, Gives}
use Rattle.bsv_expr.specs.Brackets.{Reaches}
use Rattle.bsv_expr.proofs.Tools.{ok_is, some_is}
use Rattle.bsv_parse.specs.Packages.{IsFile, within, file}
use Rattle.bsv_parse.specs.Depths.{FirstDeep, first_deep}
use Rattle.bsv_parse.specs.Reads.{Reads, IsTooDeep, all_of, whole}
use Rattle.bsv_parse.specs.declared.answer.ParseFault.{ParseFault}
use Rattle.bsv_parse.specs.declared.answer.ParseFault.TheVariants as parse
use Rattle.bsv_parse.proofs.Deepest.{found_deep, deep_found, none_deep, deep_reaches}
use Rattle.bsv_parse.proofs.PackageLaws.{file_sound}
use Rattle.bsv_parse.proofs.Whole.{same_file, no_tree, no_tree_after, not_too_deep}

-- what a reading of all the tokens was
read_all : (r : Read Package) (x : Package) → (r >>= λ a. all_of a) ≡ Ok x → r ≡ Ok (x, [])
read_all (Ok (y, [])) x e = ap (λ z. Ok (z, [])) (ok_is y x e)
read_all (Ok (y, w ∷ rest)) x e = absurd cc
read_all (Err f) x e = absurd cc

-- the tokens that are read are a file
pub whole_found : (source : List ℕ) (ts : List Lexeme) (x : Package) → whole source ts ≡ Ok x → IsFile source 67 x ts []
unfolding whole
whole_found source ts x e = file_sound source 67 ts x [] (read_all (within source 67 file ts) x e)

none_by : (source : List ℕ) (ts : List Lexeme) (left : ℕ) (r : Read Package) → within source 67 file ts ≡ r → (r >>= λ a. all_of a) ≡ Err (fault.Syntax left) → (n : ℕ) (x : Package) → IsFile source n x ts [] → ⊥
none_by source ts left (Ok (y, [])) is e n x d = absurd cc
none_by source ts left (Ok (y, w ∷ rest)) is e n x d = no_tree_after source ts y w rest is n x d
none_by source ts left (Err (fault.Syntax at)) is e n x d = no_tree source ts at is n x d
none_by source ts left (Err fault.TooDeep) is e n x d = absurd cc
none_by source ts left (Err fault.OutOfMemory) is e n x d = absurd cc

-- where nothing goes on with a token, they are none
pub whole_none : (source : List ℕ) (ts : List Lexeme) (left : ℕ) → whole source ts ≡ Err (fault.Syntax left) → (n : ℕ) (x : Package) → IsFile source n x ts [] → ⊥
unfolding whole
whole_none source ts left e n x d = none_by source ts left (within source 67 file ts) refl e n x d

deep_by : (r : Read Package) → (r >>= λ a. all_of a) ≡ Err fault.TooDeep → r ≡ Err fault.TooDeep
deep_by (Ok (y, [])) e = absurd cc
deep_by (Ok (y, w ∷ rest)) e = absurd cc
deep_by (Err (fault.Syntax at)) e = absurd cc
deep_by (Err fault.TooDeep) e = refl
deep_by (Err fault.OutOfMemory) e = absurd cc

-- where no more than 64 brackets are open at once, the reader was not given too few
pub whole_shallow : (source : List ℕ) (ts : List Lexeme) → (Reaches 65 0 ts → ⊥) → whole source ts ≡ Err fault.TooDeep → ⊥
unfolding whole
whole_shallow source ts shallow e = not_too_deep source ts shallow (deep_by (within source 67 file ts) e)

none_is : (o : Option ℕ) → ((at : ℕ) → o ≡ Some at → ⊥) → o ≡ None
none_is None never = refl
none_is (Some at) never = absurd (never at refl)

-- The same of the tokens that a call made the words of.

module _ (source : List ℕ) (tokens : List Token) (ts : List Lexeme) (are : ts ≡ lexemes source tokens) where
  -- the byte that is found is that of the 65th bracket
  pub deep_at : (o : Option ℕ) (at : ℕ) → o ≡ first_deep 0 ts → o ≡ Some at → IsTooDeep source tokens at
  deep_at o at is some = subst (λ us. FirstDeep 0 us at) are (found_deep 0 ts at (sym is ∙ some))

  -- it is the only one
  pub same_deep : (o : Option ℕ) (at other : ℕ) → o ≡ first_deep 0 ts → o ≡ Some at → IsTooDeep source tokens other → at ≡ other
  same_deep o at other is some d = some_is at other (sym some ∙ is ∙ ap (first_deep 0) are ∙ deep_found 0 (lexemes source tokens) other d)

  -- where none is found, no more than 64 brackets are open at once
  pub shallow_by : (o : Option ℕ) → o ≡ first_deep 0 ts → ((at : ℕ) → o ≡ Some at → ⊥) → IsShallow source tokens
  shallow_by o is never = none_deep 0 (lexemes source tokens) (omega arith) (sym (ap (first_deep 0) are) ∙ sym is ∙ none_is o never)

  -- the package that was read is that of the tokens
  pub read_is : (x : Package) → whole source ts ≡ Ok x → Reads source tokens x
  read_is x e = (67, whole_found source (lexemes source tokens) x (subst (λ us. whole source us ≡ Ok x) are e))

  -- where nothing goes on with a token, there is none
  pub none_is_read : (f : ReadFault) (left : ℕ) → f ≡ fault.Syntax left → Gives (λ (x : Package). x) (Err f) (whole source ts) → (x : Package) → Reads source tokens x → ⊥
  none_is_read f left is given x d =
      let e : whole source ts ≡ Err (fault.Syntax left) = subst (λ g. Gives (λ (y : Package). y) (Err g) (whole source ts)) is given in
      whole_none source (lexemes source tokens) left (subst (λ us. whole source us ≡ Err (fault.Syntax left)) are e) d.0 x d.1

  -- where no more than 64 brackets are open at once, the reader was not given too few
  pub never_deep : (f : ReadFault) → f ≡ fault.TooDeep → Gives (λ (x : Package). x) (Err f) (whole source ts) → IsShallow source tokens → ⊥
  never_deep f is given shallow =
      let e : whole source ts ≡ Err fault.TooDeep = subst (λ g. Gives (λ (y : Package). y) (Err g) (whole source ts)) is given in
      whole_shallow source (lexemes source tokens) shallow (subst (λ us. whole source us ≡ Err fault.TooDeep) are e)

-- where the 65th bracket is, more than 64 are open at once
pub deep_is : (source : List ℕ) (tokens : List Token) (at : ℕ) → IsTooDeep source tokens at → IsShallow source tokens → ⊥
deep_is source tokens at d shallow = shallow (deep_reaches 0 (lexemes source tokens) at d)

-- the tokens are one package at most
pub one_read : (source : List ℕ) (tokens : List Token) (x y : Package) → Reads source tokens x → Reads source tokens y → x ≡ y
one_read source tokens x y d e = same_file source d.0 e.0 x y (lexemes source tokens) d.1 e.1

-- two answers that name a byte name one
pub same_byte : (a b : ℕ) → ◌≡◌ {A = Result Package ParseFault} (Err (parse.TooDeep a)) (Err (parse.TooDeep b)) → a ≡ b
same_byte a b e = search
