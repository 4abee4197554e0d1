-- What comes after the first rule of an order.
use Rattle.std.proofs.Common.{◌≡◌, ℕ, ◌+◌, ◌-◌, ◌<◌, inl, inr, List, [], ◌∷◌, ◌++◌, length, get_or, take, drop, refl, suc, sym, ◌∙◌, ap, subst, arith, add-one, take-append-drop, drop-cons}
use Rattle.std.proofs.lemmas.List.{take_more, take_all, length-drop}
use Rattle.std.specs.Prelude.{IsTrue, IsFalse, All}
use Rattle.std.proofs.lemmas.Bool.{both_ways}
use Rattle.bsv_graph.specs.Orders.{In, IsBefore}
use Rattle.bsv_schedule.specs.relating.Relating.{Relating}
use Rattle.bsv_schedule.specs.urgency_order.Orders.{IsBehindRule, NoneBehindRule, IsLeastBehindRule, IsFirstRule}
use Rattle.bsv_graph.proofs.LeastLemmas.{in_parts}
use Rattle.bsv_graph.proofs.OrderedLemmas.{before_in}
use Rattle.bsv_schedule.specs.urgency_order.Acting.{IsActionIn, IsLeastActionIn, NoActionIn}

-- one more that is not the number
pub not_in_more : (xs : List ℕ) (k d m : ℕ) → k < length xs → ¬ In (take k xs) m → (get_or xs k d ≡ m → ⊥) → ¬ In (take (k + 1) xs) m
not_in_more xs k d m h f g i = elim (in_parts (take k xs) (get_or xs k d ∷ []) m (rw (take_more xs k d h) at i)) [
  | inl j ↦ f j
  | inr (inl j) ↦ g (sym j)
  | inr (inr j) ↦ j
]

pub all_in : (xs : List ℕ) (n m : ℕ) → All (λ a. a < n) xs → In xs m → m < n
all_in [] n m f h = absurd h
all_in (x ∷ xs) n m f (inl e) = rw e (f 0 x (omega arith))
all_in (x ∷ xs) n m f (inr h) = all_in xs n m (λ k d l. f (suc k) d (omega (arith, l))) h

-- what is no rule so far
pub rules_more : (r : Relating) (xs : List ℕ) (k d : ℕ) → k < length xs → ((q : ℕ) → In (take k xs) q → IsFalse (r.rule q))
    → IsFalse (r.rule (get_or xs k d)) → (q : ℕ) → In (take (k + 1) xs) q → IsFalse (r.rule q)
rules_more r xs k d h f g q i = elim (in_parts (take k xs) (get_or xs k d ∷ []) q (rw (take_more xs k d h) at i)) [
  | inl j ↦ f q j
  | inr (inl j) ↦ subst (λ z. IsFalse (r.rule z)) (sym j) g
  | inr (inr j) ↦ absurd j
]

-- the slice from a place on
pub slice_rest : (xs : List ℕ) (k : ℕ) → take (length xs - (k + 1)) (drop (k + 1) xs) ≡ drop (k + 1) xs
slice_rest xs k = take_all (length xs - (k + 1)) (drop (k + 1) xs) (omega (arith, length-drop (k + 1) xs))

pub read_split : (xs : List ℕ) (k d : ℕ) → k < length xs → xs ≡ take k xs ++ (get_or xs k d ∷ drop (k + 1) xs)
read_split xs k d h = rw add-one (sym (take-append-drop k xs) ∙ ap (λ z. take k xs ++ z) (drop-cons xs k d h))

module _ (r : Relating) where
  -- what comes after a rule comes after the first
  after_in : (before behind : List ℕ) (q p m : ℕ) → ((k : ℕ) → In before k → IsFalse (r.rule k)) → IsTrue (r.rule p)
      → IsBefore (before ++ (q ∷ behind)) p m → In behind m
  after_in [] behind q p m f h (inl s) = s.1
  after_in [] behind q p m f h (inr s) = (before_in behind p m s).1
  after_in (x ∷ before) behind q p m f h (inl s) = absurd (both_ways (r.rule x) (f x (inl refl)) (subst (λ z. IsTrue (r.rule z)) s.0 h))
  after_in (x ∷ before) behind q p m f h (inr s) = after_in before behind q p m (λ k i. f k (inr i)) h s

  in_after : (before behind : List ℕ) (q m : ℕ) → In behind m → IsBefore (before ++ (q ∷ behind)) q m
  in_after [] behind q m i = inl (refl, i)
  in_after (x ∷ before) behind q m i = inr (in_after before behind q m i)

  module _ (xs : List ℕ) (k d : ℕ) (l : k < length xs) (rule : IsTrue (r.rule (get_or xs k d)))
      (f : (q : ℕ) → In (take k xs) q → IsFalse (r.rule q)) where
    pub first_rule : IsFirstRule r xs (get_or xs k d)
    first_rule = record {
      before = take k xs;
      behind = drop (k + 1) xs;
      split = read_split xs k d l;
      rule = rule;
      earlier = f;
    }

    pub after_action : (m : ℕ) → IsBehindRule r xs m → IsActionIn r (drop (k + 1) xs) m
    after_action m b = record {
      no_value = b.no_value;
      no_rule = b.no_rule;
      there = after_in (take k xs) (drop (k + 1) xs) (get_or xs k d) b.behind.0 m f b.behind.1
          (subst (λ z. IsBefore z b.behind.0 m) (read_split xs k d l) b.behind.2);
    }

    pub action_after : (m : ℕ) → IsActionIn r (drop (k + 1) xs) m → IsBehindRule r xs m
    action_after m a = record {
      no_value = a.no_value;
      no_rule = a.no_rule;
      behind = (
        get_or xs k d,
        rule,
        subst (λ z. IsBefore z (get_or xs k d) m) (sym (read_split xs k d l)) (in_after (take k xs) (drop (k + 1) xs) (get_or xs k d) m a.there),
      );
    }

    pub least_after : (m : ℕ) → IsLeastActionIn r (drop (k + 1) xs) m → IsLeastBehindRule r xs m
    least_after m a = record { behind = action_after m a.action; lower = λ j h b. a.lower j h (after_action j b) }

    pub none_after : NoActionIn r (drop (k + 1) xs) → NoneBehindRule r xs
    none_after g m b = g m (after_action m b)

  pub none_at_all : (xs : List ℕ) → ((q : ℕ) → In xs q → IsFalse (r.rule q)) → NoneBehindRule r xs
  none_at_all xs f m b = both_ways (r.rule b.behind.0) (f b.behind.0 (before_in xs b.behind.0 m b.behind.2).0) b.behind.1
