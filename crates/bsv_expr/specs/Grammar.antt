-- What a grammar is made of, and which tokens it says to be a phrase, with what is read from them: a relation for each
-- part (Bluespec reference guide, the notation of its grammar).
use Rattle.std.specs.Prelude.{◌≡◌, ◌⊎◌, ℕ, Bool, true, List, ◌∷◌, Option, Some, None}
use Rattle.bsv_ast.specs.declared.text.Span.{Span}
use Rattle.bsv_lex.specs.declared.terminal.Terminal.{Terminal}
use Rattle.bsv_expr.specs.declared.lexeme.Lexeme.{Lexeme}
use Rattle.bsv_expr.specs.Lexemes.{is_in}

-- what is read, the tokens in front of which it stands, and those after it
abbrev pub Phrase : Type 0 → Type 1
Phrase A = A → List Lexeme → List Lexeme → Type 0

-- A grammar as a value: of what its phrases are made, and what is read from each. It goes on at its holes with grammars
-- that are given from outside, one for each H, of which a T is read. The sets of words tell a reader that looks one
-- token ahead whether a part begins; what a grammar says does not look at them.
pub data Grammar (H : Type 0) (T : H → Type 0) : Type 0 → Type 1 where
  -- no token at all
  nothing : {C : Type 0} → C → Grammar H T C
  -- a token that is one of these words and tells something, in the text of this source
  leaf : {C : Type 0} → List Terminal → (List ℕ → Lexeme → Option C) → Grammar H T C
  -- what is given from outside
  hole : (h : H) → Grammar H T (T h)
  -- what is made of a phrase
  made : {A C : Type 0} → (A → C) → Grammar H T A → Grammar H T C
  -- a phrase, and another one after it
  both : {A B C : Type 0} → (A → B → C) → Grammar H T A → Grammar H T B → Grammar H T C
  -- a phrase, and after it one that depends on what was read: the words with which that one begins, and those that may go on after it
  bind : {A C : Type 0} → List Terminal → List Terminal → Grammar H T A → (A → Grammar H T C) → Grammar H T C
  -- a phrase between an opening word and a closing one
  between : {A C : Type 0} → (Span → A → Span → C) → Terminal → Grammar H T A → Terminal → Grammar H T C
  -- the first of two, which begins with these words, or the second
  choose : {C : Type 0} → List Terminal → Grammar H T C → Grammar H T C → Grammar H T C
  -- a phrase, which begins with these words, or nothing
  maybe : {A : Type 0} → List Terminal → Grammar H T A → Grammar H T (Option A)
  -- a phrase, and after it any number of items, which begin with these words: each is taken into what was read before, as long as that goes on
  fold : {S A : Type 0} → List Terminal → (S → Bool) → (S → A → S) → Grammar H T S → Grammar H T A → Grammar H T S
  -- a phrase of which is known with which words it begins, and which ones may go on after it
  named : {C : Type 0} → List Terminal → List Terminal → Grammar H T C → Grammar H T C

-- items one after the other, from one state to another
pub data Fold {S A : Type 0} (goes : S → Bool) (step : S → A → S) (Item : Phrase A) : S → S → List Lexeme → List Lexeme → Type 0 where
  done : {s : S} {ts : List Lexeme} → Fold goes step Item s s ts ts
  turn : {s y : S} {a : A} {ts us rest : List Lexeme} → goes s ≡ true → Item a ts us → Fold goes step Item (step s a) y us rest → Fold goes step Item s y ts rest

-- a value that is made of a phrase
pub record Mapped {A C : Type 0} (f : A → C) (P : Phrase A) (x : C) (ts rest : List Lexeme) : Type 0 where
  pub inner : A
  pub is : x ≡ f inner
  pub holds : P inner ts rest

-- a value that is made of a phrase and of one after it
pub record Both {A B C : Type 0} (f : A → B → C) (P : Phrase A) (Q : Phrase B) (x : C) (ts rest : List Lexeme) : Type 0 where
  pub left : A
  pub right : B
  pub middle : List Lexeme
  pub is : x ≡ f left right
  pub first : P left ts middle
  pub second : Q right middle rest

-- a phrase, and after it one that depends on it
pub record Bind {A C : Type 0} (P : Phrase A) (Q : A → Phrase C) (x : C) (ts rest : List Lexeme) : Type 0 where
  pub left : A
  pub middle : List Lexeme
  pub first : P left ts middle
  pub second : Q left x middle rest

-- a value that is made of a phrase, of the opening word in front of it and of the closing one after it
pub record Between {A C : Type 0} (f : Span → A → Span → C) (o : Terminal) (P : Phrase A) (c : Terminal) (x : C) (ts rest : List Lexeme) : Type 0 where
  pub inner : A
  pub opening : Lexeme
  pub closing : Lexeme
  pub middle : List Lexeme
  pub is : x ≡ f opening.span inner closing.span
  pub opens : ts ≡ opening ∷ middle
  pub by : opening.terminal ≡ o
  pub holds : P inner middle (closing ∷ rest)
  pub closes : closing.terminal ≡ c

-- a token that is one of these words and tells this
pub record Leaf {C : Type 0} (set : List Terminal) (tell : Lexeme → Option C) (x : C) (ts rest : List Lexeme) : Type 0 where
  pub token : Lexeme
  pub is : ts ≡ token ∷ rest
  pub of : is_in set token.terminal ≡ true
  pub tells : tell token ≡ Some x

-- nothing, or a phrase
pub data Maybe {A : Type 0} (P : Phrase A) : Option A → List Lexeme → List Lexeme → Type 0 where
  none : {ts : List Lexeme} → Maybe P None ts ts
  some : {a : A} {ts rest : List Lexeme} → P a ts rest → Maybe P (Some a) ts rest

-- a phrase, and items after it
pub record Folded {S A : Type 0} (goes : S → Bool) (step : S → A → S) (P : Phrase S) (Q : Phrase A) (x : S) (ts rest : List Lexeme) : Type 0 where
  pub start : S
  pub middle : List Lexeme
  pub first : P start ts middle
  pub turns : Fold goes step Q start x middle rest

-- what a grammar says, where this is said at its holes
module _ {H : Type 0} {T : H → Type 0} (source : List ℕ) (Inner : (h : H) → Phrase (T h)) where
  unfoldable pub Means : {A : Type 0} → Grammar H T A → Phrase A
  Means (Grammar.nothing c) = λ x ts rest. (x ≡ c) × (ts ≡ rest)
  Means (Grammar.leaf set tell) = Leaf set (tell source)
  Means (Grammar.hole h) = Inner h
  Means (Grammar.made f p) = Mapped f (Means p)
  Means (Grammar.both f p q) = Both f (Means p) (Means q)
  Means (Grammar.bind fs ms p k) = Bind (Means p) (λ a. Means (k a))
  Means (Grammar.between f o p c) = Between f o (Means p) c
  Means (Grammar.choose set p q) = λ x ts rest. Means p x ts rest ⊎ Means q x ts rest
  Means (Grammar.maybe set p) = Maybe (Means p)
  Means (Grammar.fold set goes step p q) = Folded goes step (Means p) (Means q)
  Means (Grammar.named fs ms p) = Means p
