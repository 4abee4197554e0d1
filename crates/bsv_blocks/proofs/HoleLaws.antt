-- The laws of the expressions and types at the places of what holds no statement, at each number of brackets.
use Rattle.std.proofs.Common.{◌≡◌, inl, inr, ℕ, ◌+◌, ◌<◌, ◌≤◌, true, false, List, [], ◌∷◌, length, Ok, Err, refl, arith}
use Rattle.bsv_ast.specs.declared.text.Span.{Span}
use Rattle.bsv_ast.specs.declared.expressions.Expr.{Expr}
use Rattle.bsv_lex.specs.declared.terminal.Terminal.{Terminal}
use Rattle.bsv_lex.specs.declared.terminal.Terminal.TheVariants as word
use Rattle.bsv_expr.specs.declared.lexeme.Lexeme.{Lexeme}
use Rattle.bsv_expr.specs.declared.fault.ReadFault.TheVariants as fault
use Rattle.bsv_expr.specs.Lexemes.{same_terminal, starts}
use Rattle.bsv_expr.specs.Grammar.{Means}
use Rattle.bsv_expr.specs.Reading.{read}
use Rattle.bsv_expr.specs.Brackets.{Reaches}
use Rattle.bsv_expr.specs.Expressions as grammar
use Rattle.bsv_expr.specs.Expressions.{IsExpr, expression_first, expression_more, more_of, levels, words_of}
use Rattle.bsv_expr.specs.Readers.{expr}
use Rattle.bsv_expr.proofs.Ahead.{nullable, first, more, test, guarded, Tame}
use Rattle.bsv_expr.proofs.Sound.{sound}
use Rattle.bsv_expr.proofs.Sets.{within_stops}
use Rattle.bsv_expr.proofs.Shorter.{shorter}
use Rattle.bsv_expr.proofs.Complete.{Good, good}
use Rattle.bsv_expr.proofs.Agrees.{Agree, agrees}
use Rattle.bsv_expr.proofs.Closing.{Balanced, balanced, bonus, lower_limit}
use Rattle.bsv_expr.proofs.Deeper.{deep}
use Rattle.bsv_expr.proofs.Knot.{begins_by, goes_on_by, laws_at, expr_sound, exprs_named, arguments_named}
use Rattle.bsv_expr.proofs.Depths.{inside, exprs_tame, arguments_tame, expr_balanced, expr_deep, expr_agrees}
use Rattle.bsv_blocks.specs.Types.{type_first}
use Rattle.bsv_blocks.specs.Holes.{Hole, Filled, Inner, inner}
use Rattle.bsv_blocks.proofs.TypeKnot.{type_more, written_sound, type_laws_at, written_balanced, written_deep, written_agrees}

-- the words with which what is at a place begins
abbrev pub hole_begins : Hole → List Terminal
hole_begins Hole.expression = expression_first
hole_begins Hole.expressions = expression_first
hole_begins Hole.arguments = word.OpenParen ∷ []
hole_begins Hole.written = type_first

-- the words that go on after it
abbrev pub hole_goes_on : Hole → List Terminal
hole_goes_on Hole.expression = expression_more
hole_goes_on Hole.expressions = word.Comma ∷ expression_more
hole_goes_on Hole.arguments = []
hole_goes_on Hole.written = type_more

module _ (source : List ℕ) (n : ℕ) where
  part_sound : {A : Type 0} (g : grammar.Of A) (ts : List Lexeme) (x : A) (rest : List Lexeme) → read source (λ h. expr source n false) false g ts ≡ Ok (x, rest) → Means source (λ h. IsExpr source n) g x ts rest
  part_sound g ts x rest e = sound source (λ h. expr source n false) (λ h. IsExpr source n) (λ h us y vs d. expr_sound source n false us y vs d) g false ts x rest e

  -- what is read at a place is there
  pub inner_sound : (h : Hole) (ts : List Lexeme) (x : Filled h) (rest : List Lexeme) → inner source n h ts ≡ Ok (x, rest) → Inner source n h x ts rest
  unfolding inner Inner
  inner_sound Hole.expression ts x rest e = expr_sound source n false ts x rest e
  inner_sound Hole.expressions ts x rest e = part_sound grammar.exprs ts x rest e
  inner_sound Hole.arguments ts x rest e = part_sound grammar.arguments ts x rest e
  inner_sound Hole.written ts x rest e = written_sound source n ts x rest e

  abbrev good_of : {A : Type 0} → grammar.Of A → Type 0
  good_of g = Good source (λ h. expr source n false) (λ h. IsExpr source n) begins_by goes_on_by (λ h. (laws_at source n).completes) (λ h. (laws_at source n).begins) (λ h. (laws_at source n).shorter) g

  exprs_good : good_of grammar.exprs
  unfolding test first more nullable grammar.exprs grammar.expression expression_first expression_more more_of levels words_of same_terminal
  exprs_good = good source (λ h. expr source n false) (λ h. IsExpr source n) begins_by goes_on_by (λ h. (laws_at source n).completes) (λ h. (laws_at source n).begins) (λ h. (laws_at source n).shorter) grammar.exprs refl (exprs_named source n (laws_at source n))

  arguments_good : good_of grammar.arguments
  unfolding test first more nullable grammar.arguments grammar.exprs grammar.expression expression_first expression_more more_of levels words_of same_terminal
  arguments_good = good source (λ h. expr source n false) (λ h. IsExpr source n) begins_by goes_on_by (λ h. (laws_at source n).completes) (λ h. (laws_at source n).begins) (λ h. (laws_at source n).shorter) grammar.arguments refl (arguments_named source n (laws_at source n))

  exprs_complete : (x : List Expr) (ts rest : List Lexeme) → Means source (λ h. IsExpr source n) grammar.exprs x ts rest → starts (word.Comma ∷ expression_more) rest ≡ false → read source (λ h. expr source n false) false grammar.exprs ts ≡ Ok (x, rest)
  unfolding more nullable grammar.exprs grammar.expression expression_more more_of levels words_of same_terminal
  exprs_complete x ts rest d stop = exprs_good.completes false x ts rest d (within_stops (more begins_by goes_on_by grammar.exprs) (word.Comma ∷ expression_more) rest refl stop)

  arguments_complete : (x : List Expr × Span) (ts rest : List Lexeme) → Means source (λ h. IsExpr source n) grammar.arguments x ts rest → starts [] rest ≡ false → read source (λ h. expr source n false) false grammar.arguments ts ≡ Ok (x, rest)
  unfolding more grammar.arguments
  arguments_complete x ts rest d stop = arguments_good.completes false x ts rest d stop

  -- the reader at a place reads what is there
  pub inner_completes : (h : Hole) (x : Filled h) (ts rest : List Lexeme) → Inner source n h x ts rest → starts (hole_goes_on h) rest ≡ false → inner source n h ts ≡ Ok (x, rest)
  unfolding inner Inner
  inner_completes Hole.expression x ts rest d stop = (laws_at source n).completes x ts rest d stop
  inner_completes Hole.expressions x ts rest d stop = exprs_complete x ts rest d stop
  inner_completes Hole.arguments x ts rest d stop = arguments_complete x ts rest d stop
  inner_completes Hole.written x ts rest d stop = (type_laws_at source n).completes x ts rest d stop

  exprs_begin : (x : List Expr) (ts rest : List Lexeme) → Means source (λ h. IsExpr source n) grammar.exprs x ts rest → starts expression_first ts ≡ true
  unfolding first nullable grammar.exprs grammar.expression
  exprs_begin x ts rest d =
      elim (exprs_good.begins x ts rest d) [
        | inl e ↦ e
        | inr e ↦ let never : false ≡ true = e.0 in absurd cc
      ]

  arguments_begin : (x : List Expr × Span) (ts rest : List Lexeme) → Means source (λ h. IsExpr source n) grammar.arguments x ts rest → starts (word.OpenParen ∷ []) ts ≡ true
  unfolding first nullable grammar.arguments
  arguments_begin x ts rest d =
      elim (arguments_good.begins x ts rest d) [
        | inl e ↦ e
        | inr e ↦ let never : false ≡ true = e.0 in absurd cc
      ]

  -- what is at a place begins with one of its words
  pub inner_begins : (h : Hole) (x : Filled h) (ts rest : List Lexeme) → Inner source n h x ts rest → starts (hole_begins h) ts ≡ true
  unfolding Inner
  inner_begins Hole.expression x ts rest d = (laws_at source n).begins x ts rest d
  inner_begins Hole.expressions x ts rest d = exprs_begin x ts rest d
  inner_begins Hole.arguments x ts rest d = arguments_begin x ts rest d
  inner_begins Hole.written x ts rest d = (type_laws_at source n).begins x ts rest d

  part_shorter : {A : Type 0} (g : grammar.Of A) (x : A) (ts rest : List Lexeme) → nullable g ≡ false → Means source (λ h. IsExpr source n) g x ts rest → length rest < length ts
  part_shorter g x ts rest full d = shorter source (λ h. IsExpr source n) (λ h. (laws_at source n).shorter) g x ts rest full d

  -- it takes a token
  pub inner_shorter : (h : Hole) (x : Filled h) (ts rest : List Lexeme) → Inner source n h x ts rest → length rest < length ts
  unfolding Inner nullable grammar.exprs grammar.arguments grammar.expression
  inner_shorter Hole.expression x ts rest d = (laws_at source n).shorter x ts rest d
  inner_shorter Hole.expressions x ts rest d = part_shorter grammar.exprs x ts rest refl d
  inner_shorter Hole.arguments x ts rest d = part_shorter grammar.arguments x ts rest refl d
  inner_shorter Hole.written x ts rest d = (type_laws_at source n).shorter x ts rest d

  part_balanced : {A : Type 0} (g : grammar.Of A) → Tame inside g → Balanced (Means source (λ h. IsExpr source n) g)
  part_balanced g tame x ts rest d l k r = balanced source (λ h. IsExpr source n) inside (λ h. expr_balanced source n) g tame x ts rest d l k r

  -- it closes each bracket that it opens
  pub inner_balanced : (h : Hole) → Balanced (Inner source n h)
  unfolding Inner
  inner_balanced Hole.expression x ts rest d l k r = expr_balanced source n x ts rest d l k r
  inner_balanced Hole.expressions x ts rest d l k r = part_balanced grammar.exprs exprs_tame x ts rest d l k r
  inner_balanced Hole.arguments x ts rest d l k r = part_balanced grammar.arguments arguments_tame x ts rest d l k r
  inner_balanced Hole.written x ts rest d l k r = written_balanced source n x ts rest d l k r

  part_deep : {A : Type 0} (g : grammar.Of A) → Tame inside g → (ts : List Lexeme) → read source (λ h. expr source n false) false g ts ≡ Err fault.TooDeep → (k : ℕ) → Reaches (n + k) k ts
  part_deep g tame ts e k =
      lower_limit (n + bonus (guarded inside g) + k) (n + k) k ts (omega arith)
      (deep source (λ h. expr source n false) (λ h. IsExpr source n) (λ h us y vs d. expr_sound source n false us y vs d) inside (λ h. expr_balanced source n) n
      (λ h us d j. lower_limit (n + j) (n + 0 + j) j us (omega arith) (expr_deep source n false us d j)) g tame false ts e k)

  -- where a reader at a place was given too few brackets, so many are open
  pub inner_deep : (h : Hole) (ts : List Lexeme) → inner source n h ts ≡ Err fault.TooDeep → (k : ℕ) → Reaches (n + k) k ts
  unfolding inner
  inner_deep Hole.expression ts e k = expr_deep source n false ts e k
  inner_deep Hole.expressions ts e k = part_deep grammar.exprs exprs_tame ts e k
  inner_deep Hole.arguments ts e k = part_deep grammar.arguments arguments_tame ts e k
  inner_deep Hole.written ts e k = written_deep source n ts e k

-- a reader of more brackets reads the same at each place
pub inner_agrees : (source : List ℕ) (n m : ℕ) → n ≤ m → (h : Hole) (ts : List Lexeme) → Agree (inner source n h ts) (inner source m h ts)
unfolding inner
inner_agrees source n m le Hole.expression ts = expr_agrees source n m le false ts
inner_agrees source n m le Hole.expressions ts = agrees source (λ h. expr source n false) (λ h. expr source m false) (λ h us. expr_agrees source n m le false us) grammar.exprs false ts
inner_agrees source n m le Hole.arguments ts = agrees source (λ h. expr source n false) (λ h. expr source m false) (λ h us. expr_agrees source n m le false us) grammar.arguments false ts
inner_agrees source n m le Hole.written ts = written_agrees source n m le ts
