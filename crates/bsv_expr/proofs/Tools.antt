-- Steps of reading, taken apart.
use Rattle.std.proofs.Common.{◌≡◌, ℕ, Bool, true, false, if◌then◌else◌, List, [], ◌∷◌, Option, Some, None, Result, Ok, Err, refl, subst, sym}
use Rattle.bsv_lemmas.proofs.Truths.{from_or_false}
use Rattle.bsv_lex.specs.declared.terminal.Terminal.{Terminal}
use Rattle.bsv_expr.specs.declared.lexeme.Lexeme.{Lexeme}
use Rattle.bsv_expr.specs.declared.fault.ReadFault.{ReadFault}
use Rattle.bsv_lex.specs.contracts.terminal.Terminal.{the_type}
use denote.Enum.Bare.{same_true}
use Rattle.bsv_ast.specs.declared.text.Span.{Span}
use Rattle.bsv_expr.specs.Lexemes.{is_in, same_terminal}
use Rattle.bsv_expr.specs.Grammar.{Leaf}
use Rattle.bsv_expr.specs.Reading.{◌>>=◌, Read, on_some, take_leaf, expect, span_told, refuse}

-- a step that did not fail, and what went on after it
pub data Step {A B : Type 0} (r : Result A ReadFault) (f : A → Result B ReadFault) (y : B) : Type 0 where
  step : (x : A) → r ≡ Ok x → f x ≡ Ok y → Step r f y

pub bound : {A B : Type 0} (r : Result A ReadFault) (f : A → Result B ReadFault) (y : B) → (r >>= f) ≡ Ok y → Step r f y
bound (Ok x) f y e = step x refl e
bound (Err d) f y e = absurd cc

pub ok_is : {A : Type 0} (x y : A) → ◌≡◌ {A = Result A ReadFault} (Ok x) (Ok y) → x ≡ y
ok_is x y e = cc

-- what was made is what was read
pub made : {A : Type 0} (P : A → List Lexeme → Type 0) (x : A) (us : List Lexeme) (y : A) (rest : List Lexeme) → ◌≡◌ {A = Read A} (Ok (x, us)) (Ok (y, rest)) → P x us → P y rest
made {A} P x us y rest e p = subst (λ (q : A × List Lexeme). P q.0 q.1) (ok_is (x, us) (y, rest) e) p

told : {C : Type 0} (source : List ℕ) (set : List Terminal) (tell : List ℕ → Lexeme → Option C) (w : Lexeme) (ts : List Lexeme) (x : C) (rest : List Lexeme) (o : Option C) → tell source w ≡ o → is_in set w.terminal ≡ true
    → on_some o (refuse {A = C × List Lexeme} (w ∷ ts)) (λ c. Ok (c, ts)) ≡ Ok (x, rest) → Leaf set (tell source) x (w ∷ ts) rest
told source set tell w ts x rest None is of e = absurd cc
told source set tell w ts x rest (Some c) is of e = made (λ y us. Leaf set (tell source) y (w ∷ ts) us) c ts x rest e (record { token = w; is = refl; of = of; tells = is })

taken : {C : Type 0} (source : List ℕ) (set : List Terminal) (tell : List ℕ → Lexeme → Option C) (w : Lexeme) (ts : List Lexeme) (x : C) (rest : List Lexeme) (b : Bool) → is_in set w.terminal ≡ b
    → (if b then on_some (tell source w) (refuse {A = C × List Lexeme} (w ∷ ts)) (λ c. Ok (c, ts)) else refuse (w ∷ ts)) ≡ Ok (x, rest) → Leaf set (tell source) x (w ∷ ts) rest
taken source set tell w ts x rest true is e = told source set tell w ts x rest (tell source w) refl is e
taken source set tell w ts x rest false is e = absurd cc

-- a leaf that was read
pub leaf : {C : Type 0} (source : List ℕ) (set : List Terminal) (tell : List ℕ → Lexeme → Option C) (ts : List Lexeme) (x : C) (rest : List Lexeme) → take_leaf source set tell ts ≡ Ok (x, rest) → Leaf set (tell source) x ts rest
unfolding take_leaf
leaf source set tell [] x rest e = absurd cc
leaf source set tell (w ∷ ts) x rest e = taken source set tell w ts x rest (is_in set w.terminal) refl e

pub same_is : (a b : Terminal) → same_terminal a b ≡ true → a ≡ b
unfolding same_terminal
same_is a b e = same_true the_type tt a b e

-- a word that is next
pub record Next (t : Terminal) (s : Span) (ts us : List Lexeme) : Type 0 where
  pub token : Lexeme
  pub is : ts ≡ token ∷ us
  pub by : token.terminal ≡ t
  pub at : s ≡ token.span

pub some_is : {A : Type 0} (x y : A) → ◌≡◌ {A = Option A} (Some x) (Some y) → x ≡ y
some_is x y e = cc

pub next : (source : List ℕ) (t : Terminal) (ts : List Lexeme) (s : Span) (us : List Lexeme) → expect source t ts ≡ Ok (s, us) → Next t s ts us
next source t ts s us e =
    let l : Leaf (t ∷ []) (span_told source) s ts us = leaf source (t ∷ []) span_told ts s us e in
    record { token = l.token; is = l.is; by = same_is l.token.terminal t (from_or_false (same_terminal l.token.terminal t) l.of); at = sym (some_is l.token.span s l.tells) }

pub same_spans : {A C : Type 0} (f : Span → A → Span → C) (a b s t : Span) (x : A) → a ≡ s → b ≡ t → f a x b ≡ f s x t
same_spans f a b s t x first second = rw (first, second) refl
