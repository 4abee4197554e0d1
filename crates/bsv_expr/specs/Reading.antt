-- How a grammar is read from left to right, with one token ahead; it is proved to be what Grammar says. What an
-- expression is rests on two plain words of this file alone, on_some and span_told (cited by Trees and Expressions);
-- on nothing else of it. Softly read, a part that may be left out is left out where it goes wrong.
use Rattle.std.specs.Prelude.{◌≡◌, ℕ, zero, suc, Bool, true, false, ◌&&◌, if◌then◌else◌, List, [], ◌∷◌, length, Option, Some, None, Result, Ok, Err}
use Rattle.bsv_ast.specs.declared.text.Span.{Span}
use Rattle.bsv_lex.specs.declared.terminal.Terminal.{Terminal}
use Rattle.bsv_expr.specs.declared.lexeme.Lexeme.{Lexeme}
use Rattle.bsv_expr.specs.declared.fault.ReadFault.{ReadFault}
use Rattle.bsv_expr.specs.declared.fault.ReadFault.TheVariants as fault
use Rattle.bsv_expr.specs.Lexemes.{is_in, starts}
use Rattle.bsv_expr.specs.Grammar.{Grammar}

infixl 10 ◌>>=◌
abbrev pub ◌>>=◌ : {A B : Type 0} → Result A ReadFault → (A → Result B ReadFault) → Result B ReadFault
(Ok x) >>= f = f x
(Err e) >>= f = Err e

-- what was read, and the tokens after it
abbrev pub Read : Type 0 → Type 0
Read A = Result (A × List Lexeme) ReadFault

-- a call's answer is this one, unless memory ran out
abbrev pub Gives : {X Y : Type 0} → (X → Y) → Result X ReadFault → Result Y ReadFault → Type 0
Gives view (Ok x) read = read ≡ Ok (view x)
Gives view (Err fault.OutOfMemory) read = Unit {0}
Gives view (Err e) read = read ≡ Err e

-- nothing goes on with the next token: so many tokens are left
abbrev pub fault_at : List Lexeme → ReadFault
fault_at ts = fault.Syntax (length ts)

abbrev pub refuse : {A : Type 0} → List Lexeme → Result A ReadFault
refuse ts = Err (fault_at ts)

-- what is found, or something else
abbrev pub on_some : {A B : Type 0} → Option A → B → (A → B) → B
on_some None other found = other
on_some (Some x) other found = found x

-- where a token stands
abbrev pub span_told : List ℕ → Lexeme → Option Span
span_told source w = Some w.span

-- a token that is one of these words and tells something
unfoldable pub take_leaf : {C : Type 0} → List ℕ → List Terminal → (List ℕ → Lexeme → Option C) → List Lexeme → Read C
take_leaf source set tell [] = refuse []
take_leaf source set tell (w ∷ rest) = if is_in set w.terminal then on_some (tell source w) (refuse (w ∷ rest)) (λ c. Ok (c, rest)) else refuse (w ∷ rest)

-- this word
abbrev pub expect : List ℕ → Terminal → List Lexeme → Read Span
expect source t ts = take_leaf source (t ∷ []) span_told ts

-- whether a part that could not be read may be left out
abbrev pub forgives : Bool → ReadFault → Bool
forgives true (fault.Syntax at) = true
forgives soft e = false

-- a part that may be left out: what was read goes on; what softly was not is left out
abbrev pub softened : {A B : Type 0} → Bool → Result A ReadFault → Result B ReadFault → (A → Result B ReadFault) → Result B ReadFault
softened soft (Ok x) other found = found x
softened soft (Err e) other found = if forgives soft e then other else Err e

-- items, at most so many
unfoldable pub turns : {S A : Type 0} → Bool → List Terminal → (S → Bool) → (S → A → S) → (List Lexeme → Read A) → ℕ → S → List Lexeme → Read S
turns soft set goes step item zero s ts = Ok (s, ts)
turns soft set goes step item (suc n) s ts =
    if goes s && starts set ts
    then softened soft (item ts) (Ok (s, ts)) (λ a. turns soft set goes step item n (step s a.0) a.1)
    else Ok (s, ts)

-- what is read by a grammar, where this is read at its holes
module _ {H : Type 0} {T : H → Type 0} (source : List ℕ) (inner : (h : H) → List Lexeme → Read (T h)) where
  unfoldable pub read : {A : Type 0} → Bool → Grammar H T A → List Lexeme → Read A
  read soft (Grammar.nothing c) ts = Ok (c, ts)
  read soft (Grammar.leaf set tell) ts = take_leaf source set tell ts
  read soft (Grammar.hole h) ts = inner h ts
  read soft (Grammar.made f p) ts = read soft p ts >>= λ a. Ok (f a.0, a.1)
  read soft (Grammar.both f p q) ts = read soft p ts >>= λ a. read soft q a.1 >>= λ b. Ok (f a.0 b.0, b.1)
  read soft (Grammar.bind fs ms p k) ts = read soft p ts >>= λ a. read soft (k a.0) a.1
  read soft (Grammar.between f o p c) ts = expect source o ts >>= λ v. read false p v.1 >>= λ a. expect source c a.1 >>= λ w. Ok (f v.0 a.0 w.0, w.1)
  read soft (Grammar.choose set p q) ts = if starts set ts then read soft p ts else read soft q ts
  read soft (Grammar.maybe set p) ts =
      if starts set ts then softened soft (read soft p ts) (Ok (None, ts)) (λ a. Ok (Some a.0, a.1)) else Ok (None, ts)
  read soft (Grammar.fold set goes step p q) ts = read soft p ts >>= λ a. turns soft set goes step (read soft q) (length a.1) a.0 a.1
  read soft (Grammar.named fs ms p) ts = read soft p ts
