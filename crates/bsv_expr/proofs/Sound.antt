-- What a grammar's reader reads, the grammar says.
use Rattle.std.proofs.Common.{◌≡◌, ◌⊎◌, inl, inr, ℕ, zero, suc, Bool, true, false, ◌&&◌, if◌then◌else◌, List, length, Option, Some, None, Result, Ok, Err, refl, subst}
use Rattle.bsv_ast.specs.declared.text.Span.{Span}
use Rattle.bsv_lex.specs.declared.terminal.Terminal.{Terminal}
use Rattle.bsv_expr.specs.declared.lexeme.Lexeme.{Lexeme}
use Rattle.bsv_expr.specs.declared.fault.ReadFault.{ReadFault}
use Rattle.bsv_expr.specs.Lexemes.{starts}
use Rattle.bsv_expr.specs.Grammar.{Phrase, Grammar, Means, Fold, Mapped, Both, Between, Maybe}
use Rattle.bsv_expr.specs.Reading.{Read, softened, forgives, turns, read, expect}
use Rattle.bsv_expr.proofs.Tools.{step, bound, made, leaf, Next, next, same_spans}

-- what a step that may be left out comes to
data Softly {A B : Type 0} (r : Result A ReadFault) (other : Result B ReadFault) (f : A → Result B ReadFault) (y : B) : Type 0 where
  goes : (x : A) → r ≡ Ok x → f x ≡ Ok y → Softly r other f y
  left : other ≡ Ok y → Softly r other f y

forgiven : {A B : Type 0} (r : Result A ReadFault) (e : ReadFault) (other : Result B ReadFault) (f : A → Result B ReadFault) (y : B) (b : Bool) → (if b then other else Err e) ≡ Ok y → Softly r other f y
forgiven r e other f y true is = left is
forgiven r e other f y false is = absurd cc

softly : {A B : Type 0} (soft : Bool) (r : Result A ReadFault) (other : Result B ReadFault) (f : A → Result B ReadFault) (y : B) → softened soft r other f ≡ Ok y → Softly r other f y
softly soft (Ok x) other f y e = goes x refl e
softly soft (Err d) other f y e = forgiven (Err d) d other f y (forgives soft d) e

module _ {S A : Type 0} (soft : Bool) (set : List Terminal) (goes_on : S → Bool) (step_of : S → A → S) (item : List Lexeme → Read A) (Item : Phrase A)
    (item_sound : (ts : List Lexeme) (x : A) (rest : List Lexeme) → item ts ≡ Ok (x, rest) → Item x ts rest) where
  turn_sound : (n : ℕ) (s : S) (ts : List Lexeme) (y : S) (rest : List Lexeme)
      → ((s : S) (ts : List Lexeme) (y : S) (rest : List Lexeme) → turns soft set goes_on step_of item n s ts ≡ Ok (y, rest) → Fold goes_on step_of Item s y ts rest)
      → (b c : Bool) → goes_on s ≡ b → (if b && c then softened soft (item ts) (Ok (s, ts)) (λ a. turns soft set goes_on step_of item n (step_of s a.0) a.1) else Ok (s, ts)) ≡ Ok (y, rest)
      → Fold goes_on step_of Item s y ts rest
  turn_sound n s ts y rest go true true is e =
      elim (softly soft (item ts) (Ok (s, ts)) (λ a. turns soft set goes_on step_of item n (step_of s a.0) a.1) (y, rest) e) [
        | goes a at next ↦ Fold.turn is (item_sound ts a.0 a.1 at) (go (step_of s a.0) a.1 y rest next)
        | left at ↦ made (λ v us. Fold goes_on step_of Item s v ts us) s ts y rest at Fold.done
      ]
  turn_sound n s ts y rest go true false is e = made (λ v us. Fold goes_on step_of Item s v ts us) s ts y rest e Fold.done
  turn_sound n s ts y rest go false c is e = made (λ v us. Fold goes_on step_of Item s v ts us) s ts y rest e Fold.done

  pub turns_sound : (n : ℕ) (s : S) (ts : List Lexeme) (y : S) (rest : List Lexeme) → turns soft set goes_on step_of item n s ts ≡ Ok (y, rest) → Fold goes_on step_of Item s y ts rest
  unfolding turns
  turns_sound zero s ts y rest e = made (λ v us. Fold goes_on step_of Item s v ts us) s ts y rest e Fold.done
  turns_sound (suc n) s ts y rest e = turn_sound n s ts y rest (turns_sound n) (goes_on s) (starts set ts) refl e

module _ {H : Type 0} {T : H → Type 0} (source : List ℕ) (inner : (h : H) → List Lexeme → Read (T h)) (Inner : (h : H) → Phrase (T h))
    (inner_sound : (h : H) (ts : List Lexeme) (x : T h) (rest : List Lexeme) → inner h ts ≡ Ok (x, rest) → Inner h x ts rest) where
  chosen : {A : Type 0} (b : Bool) (r q : Read A) (x : A) (rest : List Lexeme) (P : Type 0) → (if b then r else q) ≡ Ok (x, rest) → (r ≡ Ok (x, rest) → P) → (q ≡ Ok (x, rest) → P) → P
  chosen true r q x rest P e f g = f e
  chosen false r q x rest P e f g = g e

  maybe_sound : {A : Type 0} (set : List Terminal) (p : Grammar H T A) (soft : Bool) → ((ts : List Lexeme) (x : A) (rest : List Lexeme) → read source inner soft p ts ≡ Ok (x, rest) → Means source Inner p x ts rest)
      → (ts : List Lexeme) (x : Option A) (rest : List Lexeme) (b : Bool) → (if b then softened {B = Option A × List Lexeme} soft (read source inner soft p ts) (Ok (None, ts)) (λ a. Ok (Some a.0, a.1)) else Ok (None, ts)) ≡ Ok (x, rest) → Maybe (Means source Inner p) x ts rest
  maybe_sound set p soft below ts x rest true e =
      elim (softly soft (read source inner soft p ts) (Ok (None, ts)) (λ a. Ok (Some a.0, a.1)) (x, rest) e) [
        | goes a at last ↦ made (λ y us. Maybe (Means source Inner p) y ts us) (Some a.0) a.1 x rest last (Maybe.some (below ts a.0 a.1 at))
        | left last ↦ made (λ y us. Maybe (Means source Inner p) y ts us) None ts x rest last Maybe.none
      ]
  maybe_sound set p soft below ts x rest false e = made (λ y us. Maybe (Means source Inner p) y ts us) None ts x rest e Maybe.none

  between_sound : {A C : Type 0} (f : Span → A → Span → C) (o : Terminal) (p : Grammar H T A) (c : Terminal) (ts : List Lexeme) (x : C) (rest : List Lexeme) (v : Span × List Lexeme) (a : A × List Lexeme) (w : Span × List Lexeme)
      → expect source o ts ≡ Ok v → Means source Inner p a.0 v.1 a.1 → expect source c a.1 ≡ Ok w → ◌≡◌ {A = Read C} (Ok (f v.0 a.0 w.0, w.1)) (Ok (x, rest)) → Between f o (Means source Inner p) c x ts rest
  between_sound f o p c ts x rest v a w opens within closes last =
      let l : Next o v.0 ts v.1 = next source o ts v.0 v.1 opens in
      let r : Next c w.0 a.1 w.1 = next source c a.1 w.0 w.1 closes in
      made (λ y us. Between f o (Means source Inner p) c y ts us) (f v.0 a.0 w.0) w.1 x rest last
      (record { inner = a.0; opening = l.token; closing = r.token; middle = v.1; is = same_spans f v.0 w.0 l.token.span r.token.span a.0 l.at r.at; opens = l.is; by = l.by; holds = subst (λ us. Means source Inner p a.0 v.1 us) r.is within; closes = r.by })

  pub sound : {A : Type 0} (g : Grammar H T A) (soft : Bool) (ts : List Lexeme) (x : A) (rest : List Lexeme) → read source inner soft g ts ≡ Ok (x, rest) → Means source Inner g x ts rest
  unfolding read Means
  sound (Grammar.nothing c) soft ts x rest e = made (λ y us. (y ≡ c) × (ts ≡ us)) c ts x rest e (refl, refl)
  sound (Grammar.leaf set tell) soft ts x rest e = leaf source set tell ts x rest e
  sound (Grammar.hole h) soft ts x rest e = inner_sound h ts x rest e
  sound (Grammar.made f p) soft ts x rest e =
      elim (bound _ _ _ e) [
        | step a at next ↦ made (λ y us. Mapped f (Means source Inner p) y ts us) (f a.0) a.1 x rest next (record { inner = a.0; is = refl; holds = sound p soft ts a.0 a.1 at })
      ]
  sound (Grammar.both f p q) soft ts x rest e =
      elim (bound _ _ _ e) [
        | step a at next ↦ elim (bound _ _ _ next) [
          | step b bt last ↦ made (λ y us. Both f (Means source Inner p) (Means source Inner q) y ts us) (f a.0 b.0) b.1 x rest last
              (record { left = a.0; right = b.0; middle = a.1; is = refl; first = sound p soft ts a.0 a.1 at; second = sound q soft a.1 b.0 b.1 bt })
        ]
      ]
  sound (Grammar.bind fs ms p k) soft ts x rest e =
      elim (bound _ _ _ e) [
        | step a at next ↦ record { left = a.0; middle = a.1; first = sound p soft ts a.0 a.1 at; second = sound (k a.0) soft a.1 x rest next }
      ]
  sound (Grammar.between f o p c) soft ts x rest e =
      elim (bound _ _ _ e) [
        | step v at inside ↦ elim (bound _ _ _ inside) [
          | step a within closing ↦ elim (bound _ _ _ closing) [
            | step w behind last ↦ between_sound f o p c ts x rest v a w at (sound p false v.1 a.0 a.1 within) behind last
          ]
        ]
      ]
  sound (Grammar.choose set p q) soft ts x rest e =
      chosen (starts set ts) (read source inner soft p ts) (read source inner soft q ts) x rest (Means source Inner p x ts rest ⊎ Means source Inner q x ts rest) e
      (λ d. inl (sound p soft ts x rest d)) (λ d. inr (sound q soft ts x rest d))
  sound (Grammar.maybe set p) soft ts x rest e = maybe_sound set p soft (sound p soft) ts x rest (starts set ts) e
  sound (Grammar.fold set goes_on step_of p q) soft ts x rest e =
      elim (bound _ _ _ e) [
        | step a at next ↦ record {
          start = a.0;
          middle = a.1;
          first = sound p soft ts a.0 a.1 at;
          turns = turns_sound soft set goes_on step_of (read source inner soft q) (Means source Inner q) (λ us y vs d. sound q soft us y vs d) (length a.1) a.0 a.1 x rest next;
        }
      ]
  sound (Grammar.named fs ms p) soft ts x rest e = sound p soft ts x rest e
