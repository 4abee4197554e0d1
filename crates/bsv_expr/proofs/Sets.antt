-- Sets of words: what is in one, in both or in none.
use Rattle.std.proofs.Common.{◌≡◌, inl, inr, Bool, true, false, not, ◌||◌, List, [], ◌∷◌, ◌++◌, refl, subst, sym}
use Rattle.std.proofs.lemmas.Bool.{or_left as true_or, not-true, or_right as or_true, false_from_ne_true, or_cases}
use Rattle.bsv_lemmas.proofs.Truths.{both_right, both_left}
use Rattle.bsv_lex.specs.declared.terminal.Terminal.{Terminal}
use Rattle.bsv_expr.specs.declared.lexeme.Lexeme.{Lexeme}
use Rattle.bsv_expr.specs.Lexemes.{same_terminal, is_in, starts, is_within, is_apart}
use Rattle.bsv_expr.proofs.Tools.{same_is}

pub or_left : (a b : Bool) → (a || b) ≡ false → a ≡ false
or_left true b e = e
or_left false b e = refl

pub or_right : (a b : Bool) → (a || b) ≡ false → b ≡ false
or_right true b e = absurd cc
or_right false b e = e

pub apart_in : (xs ys : List Terminal) (t : Terminal) → is_apart xs ys ≡ true → is_in ys t ≡ true → is_in xs t ≡ false
apart_in [] ys t e of = refl
apart_in (x ∷ xs) ys t e of = false_from_ne_true (is_in (x ∷ xs) t) (λ found.
    elim (or_cases (same_terminal t x) (is_in xs t) found) [
      | inl is ↦ let other : is_in ys x ≡ false = not-true (is_in ys x) (both_left (not (is_in ys x)) (is_apart xs ys) e) in
          let same : is_in ys x ≡ true = subst (λ u. is_in ys u ≡ true) (same_is t x is) of in absurd cc
      | inr rest ↦ let other : is_in xs t ≡ false = apart_in xs ys t (both_right (not (is_in ys x)) (is_apart xs ys) e) of in absurd cc
    ])

pub within_in : (xs ys : List Terminal) (t : Terminal) → is_within xs ys ≡ true → is_in xs t ≡ true → is_in ys t ≡ true
within_in [] ys t e of = absurd cc
within_in (x ∷ xs) ys t e of =
    elim (or_cases (same_terminal t x) (is_in xs t) of) [
      | inl is ↦ subst (λ u. is_in ys u ≡ true) (sym (same_is t x is)) (both_left (is_in ys x) (is_within xs ys) e)
      | inr rest ↦ within_in xs ys t (both_right (is_in ys x) (is_within xs ys) e) rest
    ]

pub append_left : (xs ys : List Terminal) (t : Terminal) → is_in (xs ++ ys) t ≡ false → is_in xs t ≡ false
append_left [] ys t e = refl
append_left (x ∷ xs) ys t e =
    rw (or_left (same_terminal t x) (is_in (xs ++ ys) t) e, append_left xs ys t (or_right (same_terminal t x) (is_in (xs ++ ys) t) e)) refl

pub append_right : (xs ys : List Terminal) (t : Terminal) → is_in (xs ++ ys) t ≡ false → is_in ys t ≡ false
append_right [] ys t e = e
append_right (x ∷ xs) ys t e = append_right xs ys t (or_right (same_terminal t x) (is_in (xs ++ ys) t) e)

pub in_left : (xs ys : List Terminal) (t : Terminal) → is_in xs t ≡ true → is_in (xs ++ ys) t ≡ true
in_left [] ys t e = absurd cc
in_left (x ∷ xs) ys t e =
    elim (or_cases (same_terminal t x) (is_in xs t) e) [
      | inl is ↦ true_or (same_terminal t x) (is_in (xs ++ ys) t) is
      | inr rest ↦ or_true (same_terminal t x) (is_in (xs ++ ys) t) (in_left xs ys t rest)
    ]

pub in_right : (xs ys : List Terminal) (t : Terminal) → is_in ys t ≡ true → is_in (xs ++ ys) t ≡ true
in_right [] ys t e = e
in_right (x ∷ xs) ys t e = or_true (same_terminal t x) (is_in (xs ++ ys) t) (in_right xs ys t e)

-- the same of the next token
pub apart_stops : (xs ys : List Terminal) (ts : List Lexeme) → is_apart xs ys ≡ true → starts ys ts ≡ true → starts xs ts ≡ false
apart_stops xs ys [] e of = refl
apart_stops xs ys (w ∷ ts) e of = apart_in xs ys w.terminal e of

pub within_starts : (xs ys : List Terminal) (ts : List Lexeme) → is_within xs ys ≡ true → starts xs ts ≡ true → starts ys ts ≡ true
within_starts xs ys [] e of = of
within_starts xs ys (w ∷ ts) e of = within_in xs ys w.terminal e of

pub within_stops : (xs ys : List Terminal) (ts : List Lexeme) → is_within xs ys ≡ true → starts ys ts ≡ false → starts xs ts ≡ false
within_stops xs ys ts e of = false_from_ne_true (starts xs ts) (λ found. let other : starts ys ts ≡ true = within_starts xs ys ts e found in absurd cc)

pub left_stops : (xs ys : List Terminal) (ts : List Lexeme) → starts (xs ++ ys) ts ≡ false → starts xs ts ≡ false
left_stops xs ys [] e = refl
left_stops xs ys (w ∷ ts) e = append_left xs ys w.terminal e

pub right_stops : (xs ys : List Terminal) (ts : List Lexeme) → starts (xs ++ ys) ts ≡ false → starts ys ts ≡ false
right_stops xs ys [] e = refl
right_stops xs ys (w ∷ ts) e = append_right xs ys w.terminal e

pub left_starts : (xs ys : List Terminal) (ts : List Lexeme) → starts xs ts ≡ true → starts (xs ++ ys) ts ≡ true
left_starts xs ys [] e = e
left_starts xs ys (w ∷ ts) e = in_left xs ys w.terminal e

pub right_starts : (xs ys : List Terminal) (ts : List Lexeme) → starts ys ts ≡ true → starts (xs ++ ys) ts ≡ true
right_starts xs ys [] e = e
right_starts xs ys (w ∷ ts) e = in_right xs ys w.terminal e
