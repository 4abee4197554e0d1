-- What the reader of files says of a whole list of tokens: the tree of a file is the only one, it is found at the limit
-- unless too many brackets and blocks are open at once, and where the reader finds none there is none.
use Rattle.std.proofs.Common.{◌≡◌, ◌⊎◌, inl, inr, ℕ, ◌+◌, ◌≤◌, List, [], ◌∷◌, Ok, Err, ap, sym, ◌∙◌, arith}
use Rattle.bsv_ast.specs.declared.package.Package.{Package}
use Rattle.bsv_expr.specs.declared.lexeme.Lexeme.{Lexeme}
use Rattle.bsv_expr.specs.declared.fault.ReadFault.TheVariants as fault
use Rattle.bsv_expr.specs.Reading.{Read}
use Rattle.bsv_expr.specs.Brackets.{Reaches}
use Rattle.bsv_expr.proofs.Tools.{ok_is}
use Rattle.bsv_expr.proofs.Agrees.{Agree}
use Rattle.bsv_parse.specs.Packages.{IsFile, within, file}
use Rattle.bsv_parse.proofs.PackageLaws.{file_completes, file_deep, file_agrees}

-- two readings that are one read one value, and leave the same tokens
read_once : {A : Type 0} (x y : A) (us vs : List Lexeme) → ◌≡◌ {A = Read A} (Ok (x, us)) (Ok (y, vs)) → x ≡ y
read_once {A} x y us vs e = ap (λ (q : A × List Lexeme). q.0) (ok_is (x, us) (y, vs) e)

left_once : {A : Type 0} (x y : A) (us vs : List Lexeme) → ◌≡◌ {A = Read A} (Ok (x, us)) (Ok (y, vs)) → us ≡ vs
left_once {A} x y us vs e = ap (λ (q : A × List Lexeme). q.1) (ok_is (x, us) (y, vs) e)

-- a whole file is read with as many brackets and blocks as it needs
pub file_only : (source : List ℕ) (n : ℕ) (x : Package) (ts : List Lexeme) → IsFile source n x ts [] → within source n file ts ≡ Ok (x, [])
file_only source n x ts d = file_completes source n x ts d

-- the second reading, where the first one found something
agreed : {A : Type 0} (r s : Read A) (x : A) (rest : List Lexeme) → Agree r s → r ≡ Ok (x, rest) → s ≡ Ok (x, rest)
agreed r s x rest (inl deep) e = let never : ◌≡◌ {A = Read _} (Err fault.TooDeep) (Ok (x, rest)) = sym deep ∙ e in absurd cc
agreed r s x rest (inr is) e = is ∙ e

-- and with more of them
pub file_above : (source : List ℕ) (n m : ℕ) → n ≤ m → (x : Package) (ts : List Lexeme) → IsFile source n x ts [] → within source m file ts ≡ Ok (x, [])
file_above source n m le x ts d = agreed (within source n file ts) (within source m file ts) x [] (file_agrees source n m le ts) (file_only source n x ts d)

-- a list of tokens has one tree
pub same_file : (source : List ℕ) (n m : ℕ) (x y : Package) (ts : List Lexeme) → IsFile source n x ts [] → IsFile source m y ts [] → x ≡ y
same_file source n m x y ts d e =
    read_once x y [] [] (sym (file_above source n (n + m) (omega arith) x ts d) ∙ file_above source m (n + m) (omega arith) y ts e)

-- with any number of brackets and blocks, the reader reads a file or was given too few
pub file_or_deep : (source : List ℕ) (n m : ℕ) (x : Package) (ts : List Lexeme) → IsFile source n x ts [] → (within source m file ts ≡ Err fault.TooDeep) ⊎ (within source m file ts ≡ Ok (x, []))
file_or_deep source n m x ts d =
    elim (file_agrees source m (m + n) (omega arith) ts) [
      | inl deep ↦ inl deep
      | inr is ↦ inr (sym is ∙ file_above source n (m + n) (omega arith) x ts d)
    ]

-- where the reader stops in front of a token, or at the end, with which nothing goes on, the tokens are no file
pub no_tree : (source : List ℕ) (ts : List Lexeme) (left : ℕ) → within source 67 file ts ≡ Err (fault.Syntax left) → (n : ℕ) (x : Package) → IsFile source n x ts [] → ⊥
no_tree source ts left e n x d =
    elim (file_or_deep source n 67 x ts d) [
      | inl deep ↦ let never : ◌≡◌ {A = Read Package} (Err (fault.Syntax left)) (Err fault.TooDeep) = sym e ∙ deep in absurd cc
      | inr is ↦ let never : ◌≡◌ {A = Read Package} (Err (fault.Syntax left)) (Ok (x, [])) = sym e ∙ is in absurd cc
    ]

-- nor are they one where it ends in front of a token
pub no_tree_after : (source : List ℕ) (ts : List Lexeme) (y : Package) (w : Lexeme) (rest : List Lexeme) → within source 67 file ts ≡ Ok (y, w ∷ rest) → (n : ℕ) (x : Package) → IsFile source n x ts [] → ⊥
no_tree_after source ts y w rest e n x d =
    elim (file_or_deep source n 67 x ts d) [
      | inl deep ↦ let never : ◌≡◌ {A = Read Package} (Ok (y, w ∷ rest)) (Err fault.TooDeep) = sym e ∙ deep in absurd cc
      | inr is ↦ let never : w ∷ rest ≡ [] = left_once y x (w ∷ rest) [] (sym e ∙ is) in absurd cc
    ]

-- where at no token 65 are open at once, the reader was not given too few brackets and blocks
pub not_too_deep : (source : List ℕ) (ts : List Lexeme) → (Reaches 65 0 ts → ⊥) → within source 67 file ts ≡ Err fault.TooDeep → ⊥
not_too_deep source ts shallow e = shallow (file_deep source 67 ts e 0)

-- and reads what is a file
pub found_at : (source : List ℕ) (ts : List Lexeme) → (Reaches 65 0 ts → ⊥) → (n : ℕ) (x : Package) → IsFile source n x ts [] → within source 67 file ts ≡ Ok (x, [])
found_at source ts shallow n x d =
    elim (file_or_deep source n 67 x ts d) [
      | inl deep ↦ absurd (not_too_deep source ts shallow deep)
      | inr is ↦ is
    ]
