-- A phrase depends on the tokens that it takes alone.
use Rattle.std.proofs.Common.{◌≡◌, inl, inr, ℕ, Bool, List, [], ◌∷◌, ◌++◌, refl, ap, subst, sym, ◌∙◌, append_assoc}
use Rattle.bsv_expr.specs.declared.lexeme.Lexeme.{Lexeme}
use Rattle.bsv_expr.specs.Grammar.{Phrase, Grammar, Means, Fold, Maybe}

-- the tokens that a phrase takes, in front of any others
pub record Front {A : Type 0} (P : Phrase A) (x : A) (ts rest : List Lexeme) : Type 0 where
  pub taken : List Lexeme
  pub is : ts ≡ taken ++ rest
  pub holds : (us : List Lexeme) → P x (taken ++ us) us

-- tokens in front of others, taken in two steps
two_steps : (xs ys : List Lexeme) (ts us rest : List Lexeme) → ts ≡ xs ++ us → us ≡ ys ++ rest → ts ≡ (xs ++ ys) ++ rest
two_steps xs ys ts us rest first second = rw (first, second, append_assoc) refl

module _ {S A : Type 0} (goes_on : S → Bool) (step_of : S → A → S) (Item : Phrase A) (item_front : (x : A) (ts rest : List Lexeme) → Item x ts rest → Front Item x ts rest) where
  fold_front : (s y : S) (ts rest : List Lexeme) → Fold goes_on step_of Item s y ts rest → Front (Fold goes_on step_of Item s) y ts rest
  fold_front s y ts rest Fold.done = record { taken = []; is = refl; holds = λ us. Fold.done }
  fold_front s y ts rest (Fold.turn {a = a} {us = us} going d ds) =
      let l : Front Item a ts us = item_front a ts us d in
      let r : Front (Fold goes_on step_of Item (step_of s a)) y us rest = fold_front (step_of s a) y us rest ds in
      record {
        taken = l.taken ++ r.taken;
        is = two_steps l.taken r.taken ts us rest l.is r.is;
        holds = λ vs. subst (λ ws. Fold goes_on step_of Item s y ws vs) (sym (append_assoc l.taken r.taken vs)) (Fold.turn going (l.holds (r.taken ++ vs)) (r.holds vs));
      }

module _ {H : Type 0} {T : H → Type 0} (source : List ℕ) (Inner : (h : H) → Phrase (T h))
    (inner_front : (h : H) (x : T h) (ts rest : List Lexeme) → Inner h x ts rest → Front (Inner h) x ts rest) where
  -- a phrase depends on the tokens that it takes alone
  pub front : {A : Type 0} (g : Grammar H T A) (x : A) (ts rest : List Lexeme) → Means source Inner g x ts rest → Front (Means source Inner g) x ts rest
  unfolding Means
  front (Grammar.nothing c) x ts rest d = record { taken = []; is = d.1; holds = λ us. (d.0, refl) }
  front (Grammar.leaf set tell) x ts rest d = record { taken = d.token ∷ []; is = d.is; holds = λ us. record { token = d.token; is = refl; of = d.of; tells = d.tells } }
  front (Grammar.hole h) x ts rest d = inner_front h x ts rest d
  front (Grammar.made f p) x ts rest d =
      let l : Front (Means source Inner p) d.inner ts rest = front p d.inner ts rest d.holds in
      record { taken = l.taken; is = l.is; holds = λ us. record { inner = d.inner; is = d.is; holds = l.holds us } }
  front (Grammar.both f p q) x ts rest d =
      let l : Front (Means source Inner p) d.left ts d.middle = front p d.left ts d.middle d.first in
      let r : Front (Means source Inner q) d.right d.middle rest = front q d.right d.middle rest d.second in
      record {
        taken = l.taken ++ r.taken;
        is = two_steps l.taken r.taken ts d.middle rest l.is r.is;
        holds = λ us. record {
          left = d.left;
          right = d.right;
          middle = r.taken ++ us;
          is = d.is;
          first = subst (λ ws. Means source Inner p d.left ws (r.taken ++ us)) (sym (append_assoc l.taken r.taken us)) (l.holds (r.taken ++ us));
          second = r.holds us;
        };
      }
  front (Grammar.bind fs ms p k) x ts rest d =
      let l : Front (Means source Inner p) d.left ts d.middle = front p d.left ts d.middle d.first in
      let r : Front (Means source Inner (k d.left)) x d.middle rest = front (k d.left) x d.middle rest d.second in
      record {
        taken = l.taken ++ r.taken;
        is = two_steps l.taken r.taken ts d.middle rest l.is r.is;
        holds = λ us. record {
          left = d.left;
          middle = r.taken ++ us;
          first = subst (λ ws. Means source Inner p d.left ws (r.taken ++ us)) (sym (append_assoc l.taken r.taken us)) (l.holds (r.taken ++ us));
          second = r.holds us;
        };
      }
  front (Grammar.between f o p c) x ts rest d =
      let l : Front (Means source Inner p) d.inner d.middle (d.closing ∷ rest) = front p d.inner d.middle (d.closing ∷ rest) d.holds in
      record {
        taken = d.opening ∷ (l.taken ++ (d.closing ∷ []));
        is = d.opens ∙ ap (λ ws. d.opening ∷ ws) (l.is ∙ sym (append_assoc l.taken (d.closing ∷ []) rest));
        holds = λ us. record {
          inner = d.inner;
          opening = d.opening;
          closing = d.closing;
          middle = (l.taken ++ (d.closing ∷ [])) ++ us;
          is = d.is;
          opens = refl;
          by = d.by;
          holds = subst (λ ws. Means source Inner p d.inner ws (d.closing ∷ us)) (sym (append_assoc l.taken (d.closing ∷ []) us)) (l.holds (d.closing ∷ us));
          closes = d.closes;
        };
      }
  front (Grammar.choose set p q) x ts rest (inl d) =
      let l : Front (Means source Inner p) x ts rest = front p x ts rest d in record { taken = l.taken; is = l.is; holds = λ us. inl (l.holds us) }
  front (Grammar.choose set p q) x ts rest (inr d) =
      let r : Front (Means source Inner q) x ts rest = front q x ts rest d in record { taken = r.taken; is = r.is; holds = λ us. inr (r.holds us) }
  front (Grammar.maybe set p) x ts rest Maybe.none = record { taken = []; is = refl; holds = λ us. Maybe.none }
  front (Grammar.maybe set p) x ts rest (Maybe.some {a = a} d) =
      let l : Front (Means source Inner p) a ts rest = front p a ts rest d in record { taken = l.taken; is = l.is; holds = λ us. Maybe.some (l.holds us) }
  front (Grammar.fold set goes_on step_of p q) x ts rest d =
      let l : Front (Means source Inner p) d.start ts d.middle = front p d.start ts d.middle d.first in
      let r : Front (Fold goes_on step_of (Means source Inner q) d.start) x d.middle rest = fold_front goes_on step_of (Means source Inner q) (front q) d.start x d.middle rest d.turns in
      record {
        taken = l.taken ++ r.taken;
        is = two_steps l.taken r.taken ts d.middle rest l.is r.is;
        holds = λ us. record {
          start = d.start;
          middle = r.taken ++ us;
          first = subst (λ ws. Means source Inner p d.start ws (r.taken ++ us)) (sym (append_assoc l.taken r.taken us)) (l.holds (r.taken ++ us));
          turns = r.holds us;
        };
      }
  front (Grammar.named fs ms p) x ts rest d = front p x ts rest d
