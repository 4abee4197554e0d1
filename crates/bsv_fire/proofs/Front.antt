-- What comes before an element in a list of numbers.
use Rattle.std.proofs.Common.{◌≡◌, ◌∙◌, inl, inr, ℕ, Bool, false, ◌||◌, List, [], ◌∷◌, ◌++◌, refl, ap, ap₂}
use Rattle.std.specs.List.{list_any}
use Rattle.std.proofs.lemmas.List.Folds.{list_any-append}
use Rattle.bsv_lemmas.proofs.Truths.{or_false}
use Rattle.bsv_graph.specs.Orders.{In}

-- ---- tests

pub none_of : (t : ℕ → Bool) (ws : List ℕ) → ((f : ℕ) → In ws f → t f ≡ false) → list_any t ws ≡ false
none_of t [] h = refl
none_of t (w ∷ ws) h = ap₂ (λ (a b : Bool). a || b) (h w (inl refl)) (none_of t ws (λ f i. h f (inr i)))

-- a test that nothing passes from an element on
pub any_in_front : (t : ℕ → Bool) (us ws : List ℕ) → ((f : ℕ) → In ws f → t f ≡ false) → list_any t (us ++ ws) ≡ list_any t us
any_in_front t us ws h = list_any-append t us ws ∙ ap (λ (b : Bool). list_any t us || b) (none_of t ws h) ∙ or_false (list_any t us)
