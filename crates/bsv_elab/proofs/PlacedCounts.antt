-- How many rules have a position: one has each of those that were given, and none has another.
use Rattle.std.proofs.Common.{◌≡◌, ◌∙◌, ℕ, zero, suc, ◌+◌, ◌<◌, ◌≤◌, ⊎_elim, List, [], ◌∷◌, ◌++◌, Some, refl, ap, arith}
use Rattle.std.specs.Prelude.{◌==◌, slice_get}
use Rattle.std.proofs.lemmas.Bool.{eq-eqb, ne_eqb, cases_lt, cases_eq}
use Rattle.std.proofs.lemmas.Option.{same_Some}
use Rattle.bsv_tree.specs.declared.tree.BuiltRule.{BuiltRule}
use Rattle.bsv_tree.specs.declared.tree.Instance.{Instance}
use Rattle.bsv_tree.specs.declared.tree.Made.{Made}
use Rattle.bsv_tree.specs.declared.tree.Made.TheVariants as made
use Rattle.bsv_tree.specs.tree.Trees.{rule_count}
use Rattle.bsv_tree.specs.tree.Elements.{one_if}

abbrev pub occurs : ℕ → List BuiltRule → ℕ
occurs p [] = 0
occurs p (r ∷ rs) = one_if (r.position == p) + occurs p rs

abbrev pub at_made : ℕ → Made → ℕ
at_made p (made.Primitive q k) = 0
at_made p (made.Module b) = occurs p b.rules

abbrev pub occurs_in : ℕ → List Instance → ℕ
occurs_in p [] = 0
occurs_in p (i ∷ is) = at_made p i.made + occurs_in p is

pub occurs_both : (p : ℕ) (rs qs : List BuiltRule) → occurs p (rs ++ qs) ≡ occurs p rs + occurs p qs
occurs_both p [] qs = omega arith
occurs_both p (r ∷ rs) qs = omega (arith, occurs_both p rs qs)

pub occurs_in_both : (p : ℕ) (is js : List Instance) → occurs_in p (is ++ js) ≡ occurs_in p is + occurs_in p js
occurs_in_both p [] js = omega arith
occurs_in_both p (i ∷ is) js = omega (arith, occurs_in_both p is js)

pub count_both : (is js : List Instance) → rule_count (is ++ js) ≡ rule_count is + rule_count js
count_both [] js = omega arith
count_both (i ∷ is) js = omega (arith, count_both is js)

-- ---- the positions from one on, to below another

pub record Fills (from to : ℕ) (count : ℕ → ℕ) : Type 0 where
  pub below : (p : ℕ) → p < from → count p ≡ 0
  pub above : (p : ℕ) → to ≤ p → count p ≡ 0
  pub within : (p : ℕ) → from ≤ p → p < to → count p ≡ 1

pub fills_none : (n : ℕ) (count : ℕ → ℕ) → ((p : ℕ) → count p ≡ 0) → Fills n n count
fills_none n count none = record { below = λ p h. none p; above = λ p h. none p; within = λ p h g. absurd (omega arith) }

pub fills_one : (n to : ℕ) (count : ℕ → ℕ) → to ≡ n + 1 → ((p : ℕ) → count p ≡ one_if (n == p)) → Fills n to count
fills_one n to count is each = record {
  below = λ p h. each p ∙ ap one_if (ne_eqb n p (λ e. omega arith));
  above = λ p h. each p ∙ ap one_if (ne_eqb n p (λ e. omega arith));
  within = λ p h g. each p ∙ ap one_if (eq-eqb n p (omega arith));
}

pub fills_both : (a b c : ℕ) (f g count : ℕ → ℕ) → a ≤ b → b ≤ c → Fills a b f → Fills b c g → ((p : ℕ) → count p ≡ f p + g p) → Fills a c count
fills_both a b c f g count low high h k each = record {
  below = λ p l. omega (arith, each p, h.below p l, k.below p (omega arith));
  above = λ p l. omega (arith, each p, h.above p (omega arith), k.above p l);
  within = λ p l m. ⊎_elim
      (λ (less : p < b). omega (arith, each p, h.within p l less, k.below p less))
      (λ (more : b ≤ p). omega (arith, each p, h.above p more, k.within p more m))
      (cases_lt p b);
}

pub fills_same : (a b c d : ℕ) (f g : ℕ → ℕ) → a ≡ c → b ≡ d → Fills a b f → ((p : ℕ) → g p ≡ f p) → Fills c d g
fills_same a b c d f g left right h each = record {
  below = λ p l. each p ∙ h.below p (omega arith);
  above = λ p l. each p ∙ h.above p (omega arith);
  within = λ p l m. each p ∙ h.within p (omega arith) (omega arith);
}

-- each is there once at most
pub at_most : (a b : ℕ) (count : ℕ → ℕ) → Fills a b count → (p : ℕ) → count p ≤ 1
at_most a b count h p = ⊎_elim
    (λ (less : p < a). omega (arith, h.below p less))
    (λ (more : a ≤ p). ⊎_elim (λ (less : p < b). omega (arith, h.within p more less))
    (λ (over : b ≤ p). omega (arith, h.above p over)) (cases_lt p b))
    (cases_lt p a)

-- one that is there is of these
pub is_of : (a b : ℕ) (count : ℕ → ℕ) → Fills a b count → (p : ℕ) → 1 ≤ count p → (a ≤ p) × (p < b)
is_of a b count h p some = ⊎_elim
    (λ (less : p < a). absurd (omega (arith, h.below p less)))
    (λ (more : a ≤ p). ⊎_elim (λ (less : p < b). (more, less)) (λ (over : b ≤ p). absurd (omega (arith, h.above p over))) (cases_lt p b))
    (cases_lt p a)

-- ---- where a rule of a position stands

pub rule_counts : (p : ℕ) (rs : List BuiltRule) (k : ℕ) (r : BuiltRule) → slice_get rs k ≡ Some r → r.position ≡ p → 1 ≤ occurs p rs
rule_counts p [] k r e is = absurd cc
rule_counts p (q ∷ rs) zero r e is =
    let one : one_if (q.position == p) ≡ 1 = ap one_if (eq-eqb q.position p (ap (λ (z : BuiltRule). z.position) (same_Some q r e) ∙ is)) in
    omega (arith, one)
rule_counts p (q ∷ rs) (suc k) r e is = omega (arith, rule_counts p rs k r e is)

pub one_rule : (p : ℕ) (rs : List BuiltRule) (k l : ℕ) (r q : BuiltRule) → occurs p rs ≤ 1 → slice_get rs k ≡ Some r → slice_get rs l ≡ Some q
    → r.position ≡ p → q.position ≡ p → k ≡ l
one_rule p [] k l r q most e f is at = absurd cc
one_rule p (x ∷ rs) zero zero r q most e f is at = refl
one_rule p (x ∷ rs) zero (suc l) r q most e f is at =
    let one : one_if (x.position == p) ≡ 1 = ap one_if (eq-eqb x.position p (ap (λ (z : BuiltRule). z.position) (same_Some x r e) ∙ is)) in
    absurd (omega (arith, one, rule_counts p rs l q f at))
one_rule p (x ∷ rs) (suc k) zero r q most e f is at =
    let one : one_if (x.position == p) ≡ 1 = ap one_if (eq-eqb x.position p (ap (λ (z : BuiltRule). z.position) (same_Some x q f) ∙ at)) in
    absurd (omega (arith, one, rule_counts p rs k r e is))
one_rule p (x ∷ rs) (suc k) (suc l) r q most e f is at = ap suc (one_rule p rs k l r q (omega arith) e f is at)

pub made_counts : (p : ℕ) (is : List Instance) (n : ℕ) (i : Instance) → slice_get is n ≡ Some i → at_made p i.made ≤ occurs_in p is
made_counts p [] n i e = absurd cc
made_counts p (j ∷ is) zero i e =
    let same : at_made p j.made ≡ at_made p i.made = ap (λ (z : Instance). at_made p z.made) (same_Some j i e) in omega (arith, same)
made_counts p (j ∷ is) (suc n) i e = omega (arith, made_counts p is n i e)

pub one_made : (p : ℕ) (is : List Instance) (m n : ℕ) (i j : Instance) → occurs_in p is ≤ 1 → slice_get is m ≡ Some i → slice_get is n ≡ Some j
    → 1 ≤ at_made p i.made → 1 ≤ at_made p j.made → m ≡ n
one_made p [] m n i j most e f h g = absurd cc
one_made p (x ∷ is) zero zero i j most e f h g = refl
one_made p (x ∷ is) zero (suc n) i j most e f h g =
    let same : at_made p x.made ≡ at_made p i.made = ap (λ (z : Instance). at_made p z.made) (same_Some x i e) in
    absurd (omega (arith, same, made_counts p is n j f))
one_made p (x ∷ is) (suc m) zero i j most e f h g =
    let same : at_made p x.made ≡ at_made p j.made = ap (λ (z : Instance). at_made p z.made) (same_Some x j f) in
    absurd (omega (arith, same, made_counts p is m i e))
one_made p (x ∷ is) (suc m) (suc n) i j most e f h g = ap suc (one_made p is m n i j (omega arith) e f h g)

-- ---- a rule of a position

pub record RuleAt (p : ℕ) (rs : List BuiltRule) : Type 0 where
  pub place : ℕ
  pub rule : BuiltRule
  pub has : slice_get rs place ≡ Some rule
  pub at : rule.position ≡ p

pub rule_found : (p : ℕ) (rs : List BuiltRule) → 1 ≤ occurs p rs → RuleAt p rs
rule_found p [] some = absurd (omega arith)
rule_found p (r ∷ rs) some = ⊎_elim
    (λ (is : r.position ≡ p). record { place = 0; rule = r; has = refl; at = is })
    (λ (other : r.position ≡ p → ⊥).
    let none : one_if (r.position == p) ≡ 0 = ap one_if (ne_eqb r.position p other) in
    let h = rule_found p rs (omega (arith, none)) in record { place = suc h.place; rule = h.rule; has = h.has; at = h.at })
    (cases_eq r.position p)

pub record MadeAt (p : ℕ) (is : List Instance) : Type 0 where
  pub number : ℕ
  pub instance : Instance
  pub has : slice_get is number ≡ Some instance
  pub counts : 1 ≤ at_made p instance.made

pub made_found : (p : ℕ) (is : List Instance) → 1 ≤ occurs_in p is → MadeAt p is
made_found p [] some = absurd (omega arith)
made_found p (i ∷ is) some = ⊎_elim
    (λ (none : at_made p i.made < 1). let h = made_found p is (omega arith) in record
    { number = suc h.number; instance = h.instance; has = h.has; counts = h.counts })
    (λ (one : 1 ≤ at_made p i.made). record { number = 0; instance = i; has = refl; counts = one })
    (cases_lt (at_made p i.made) 1)
