-- A phrase takes no token back, and takes one unless it may be empty.
use Rattle.std.proofs.Common.{◌≡◌, inl, inr, ℕ, suc, ◌<◌, ◌≤◌, Bool, true, false, ◌&&◌, List, ◌∷◌, length, refl, ap, arith}
use Rattle.bsv_expr.specs.declared.lexeme.Lexeme.{Lexeme}
use Rattle.bsv_expr.specs.Grammar.{Phrase, Grammar, Means, Fold, Maybe}
use Rattle.bsv_expr.proofs.Ahead.{nullable}
use Rattle.bsv_expr.proofs.Sets.{or_left, or_right}

module _ {S A : Type 0} {goes : S → Bool} {step : S → A → S} {Item : Phrase A} (item_no_longer : (x : A) (ts rest : List Lexeme) → Item x ts rest → length rest ≤ length ts) where
  pub fold_no_longer : (s y : S) (ts rest : List Lexeme) → Fold goes step Item s y ts rest → length rest ≤ length ts
  fold_no_longer s y ts rest Fold.done = omega arith
  fold_no_longer s y ts rest (Fold.turn {a = a} {us = us} is d ds) = omega (arith, item_no_longer a ts us d, fold_no_longer (step s a) y us rest ds)

module _ {H : Type 0} {T : H → Type 0} (source : List ℕ) (Inner : (h : H) → Phrase (T h))
    (inner_shorter : (h : H) (x : T h) (ts rest : List Lexeme) → Inner h x ts rest → length rest < length ts) where
  pub no_longer : {A : Type 0} (g : Grammar H T A) (x : A) (ts rest : List Lexeme) → Means source Inner g x ts rest → length rest ≤ length ts
  unfolding Means
  no_longer (Grammar.nothing c) x ts rest d = let e : length ts ≡ length rest = ap length d.1 in omega arith
  no_longer (Grammar.leaf set tell) x ts rest d = let e : length ts ≡ suc (length rest) = ap length d.is in omega arith
  no_longer (Grammar.hole h) x ts rest d = omega (arith, inner_shorter h x ts rest d)
  no_longer (Grammar.made f p) x ts rest d = no_longer p d.inner ts rest d.holds
  no_longer (Grammar.both f p q) x ts rest d = omega (arith, no_longer p d.left ts d.middle d.first, no_longer q d.right d.middle rest d.second)
  no_longer (Grammar.bind fs ms p k) x ts rest d = omega (arith, no_longer p d.left ts d.middle d.first, no_longer (k d.left) x d.middle rest d.second)
  no_longer (Grammar.between f o p c) x ts rest d =
      let e : length ts ≡ suc (length d.middle) = ap length d.opens in
      let l : suc (length rest) ≤ length d.middle = no_longer p d.inner d.middle (d.closing ∷ rest) d.holds in omega arith
  no_longer (Grammar.choose set p q) x ts rest (inl d) = no_longer p x ts rest d
  no_longer (Grammar.choose set p q) x ts rest (inr d) = no_longer q x ts rest d
  no_longer (Grammar.maybe set p) x ts rest Maybe.none = omega arith
  no_longer (Grammar.maybe set p) x ts rest (Maybe.some {a = a} d) = no_longer p a ts rest d
  no_longer (Grammar.fold set goes step p q) x ts rest d = omega (arith, no_longer p d.start ts d.middle d.first, fold_no_longer (no_longer q) d.start x d.middle rest d.turns)
  no_longer (Grammar.named fs ms p) x ts rest d = no_longer p x ts rest d

  both_shorter : (a b : Bool) (l m n : ℕ) → (a && b) ≡ false → n ≤ m → m ≤ l → (a ≡ false → m < l) → (b ≡ false → n < m) → n < l
  both_shorter true b l m n e second first below beyond = omega (arith, beyond e)
  both_shorter false b l m n e second first below beyond = omega (arith, below refl)

  pub shorter : {A : Type 0} (g : Grammar H T A) (x : A) (ts rest : List Lexeme) → nullable g ≡ false → Means source Inner g x ts rest → length rest < length ts
  unfolding Means nullable
  shorter (Grammar.nothing c) x ts rest e d = absurd cc
  shorter (Grammar.leaf set tell) x ts rest e d = let is : length ts ≡ suc (length rest) = ap length d.is in omega arith
  shorter (Grammar.hole h) x ts rest e d = inner_shorter h x ts rest d
  shorter (Grammar.made f p) x ts rest e d = shorter p d.inner ts rest e d.holds
  shorter (Grammar.both f p q) x ts rest e d =
      both_shorter (nullable p) (nullable q) (length ts) (length d.middle) (length rest) e (no_longer q d.right d.middle rest d.second) (no_longer p d.left ts d.middle d.first)
      (λ is. shorter p d.left ts d.middle is d.first) (λ is. shorter q d.right d.middle rest is d.second)
  shorter (Grammar.bind fs ms p k) x ts rest e d = omega (arith, shorter p d.left ts d.middle e d.first, no_longer (k d.left) x d.middle rest d.second)
  shorter (Grammar.between f o p c) x ts rest e d =
      let is : length ts ≡ suc (length d.middle) = ap length d.opens in
      let l : suc (length rest) ≤ length d.middle = no_longer p d.inner d.middle (d.closing ∷ rest) d.holds in omega arith
  shorter (Grammar.choose set p q) x ts rest e (inl d) = shorter p x ts rest (or_left (nullable p) (nullable q) e) d
  shorter (Grammar.choose set p q) x ts rest e (inr d) = shorter q x ts rest (or_right (nullable p) (nullable q) e) d
  shorter (Grammar.maybe set p) x ts rest e d = absurd cc
  shorter (Grammar.fold set goes step p q) x ts rest e d = omega (arith, shorter p d.start ts d.middle e d.first, fold_no_longer (no_longer q) d.start x d.middle rest d.turns)
  shorter (Grammar.named fs ms p) x ts rest e d = shorter p x ts rest e d
