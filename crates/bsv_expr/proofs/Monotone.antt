-- More brackets change nothing: what a grammar says of fewer, it says of more.
use Rattle.std.proofs.Common.{inl, inr, ℕ, zero, suc, ◌≤◌, Bool, List, ◌∷◌, arith}
use Rattle.bsv_expr.specs.declared.lexeme.Lexeme.{Lexeme}
use Rattle.bsv_expr.specs.Grammar.{Phrase, Grammar, Means, Fold, Maybe}
use Rattle.bsv_expr.specs.Expressions.{IsExpr, choice}

-- each phrase of the first is one of the second
abbrev pub Implies : {A : Type 0} → Phrase A → Phrase A → Type 0
Implies {A} P Q = (x : A) (ts rest : List Lexeme) → P x ts rest → Q x ts rest

fold_implies : {S A : Type 0} (goes_on : S → Bool) (step_of : S → A → S) (P Q : Phrase A) → Implies P Q → (s y : S) (ts rest : List Lexeme) → Fold goes_on step_of P s y ts rest → Fold goes_on step_of Q s y ts rest
fold_implies goes_on step_of P Q each s y ts rest Fold.done = Fold.done
fold_implies goes_on step_of P Q each s y ts rest (Fold.turn {a = a} {us = us} is d ds) = Fold.turn is (each a ts us d) (fold_implies goes_on step_of P Q each (step_of s a) y us rest ds)

module _ {H : Type 0} {T : H → Type 0} (source : List ℕ) (Inner Other : (h : H) → Phrase (T h)) (holes : (h : H) → Implies (Inner h) (Other h)) where
  pub implies : {A : Type 0} (g : Grammar H T A) → Implies (Means source Inner g) (Means source Other g)
  unfolding Means
  implies (Grammar.nothing c) x ts rest d = d
  implies (Grammar.leaf set tell) x ts rest d = d
  implies (Grammar.hole h) x ts rest d = holes h x ts rest d
  implies (Grammar.made f p) x ts rest d = record { inner = d.inner; is = d.is; holds = implies p d.inner ts rest d.holds }
  implies (Grammar.both f p q) x ts rest d =
      record { left = d.left; right = d.right; middle = d.middle; is = d.is; first = implies p d.left ts d.middle d.first; second = implies q d.right d.middle rest d.second }
  implies (Grammar.bind fs ms p k) x ts rest d = record { left = d.left; middle = d.middle; first = implies p d.left ts d.middle d.first; second = implies (k d.left) x d.middle rest d.second }
  implies (Grammar.between f o p c) x ts rest d =
      record { inner = d.inner; opening = d.opening; closing = d.closing; middle = d.middle; is = d.is; opens = d.opens; by = d.by; holds = implies p d.inner d.middle (d.closing ∷ rest) d.holds; closes = d.closes }
  implies (Grammar.choose set p q) x ts rest (inl d) = inl (implies p x ts rest d)
  implies (Grammar.choose set p q) x ts rest (inr d) = inr (implies q x ts rest d)
  implies (Grammar.maybe set p) x ts rest Maybe.none = Maybe.none
  implies (Grammar.maybe set p) x ts rest (Maybe.some {a = a} d) = Maybe.some (implies p a ts rest d)
  implies (Grammar.fold set goes_on step_of p q) x ts rest d =
      record { start = d.start; middle = d.middle; first = implies p d.start ts d.middle d.first; turns = fold_implies goes_on step_of (Means source Inner q) (Means source Other q) (implies q) d.start x d.middle rest d.turns }
  implies (Grammar.named fs ms p) x ts rest d = implies p x ts rest d

-- an expression of fewer brackets is one of more
pub expr_more : (source : List ℕ) (n m : ℕ) → n ≤ m → Implies (IsExpr source n) (IsExpr source m)
unfolding IsExpr
expr_more source zero m le x ts rest d = absurd d
expr_more source (suc n) zero le x ts rest d = absurd (omega arith)
expr_more source (suc n) (suc m) le x ts rest d = implies source (λ h. IsExpr source n) (λ h. IsExpr source m) (λ h. expr_more source n m (omega arith)) choice x ts rest d
