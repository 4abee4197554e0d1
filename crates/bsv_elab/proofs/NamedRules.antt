-- The rules that are made in one body, while the names of its rules and methods grow.
use Rattle.std.proofs.Common.{◌≡◌, ◌∙◌, ℕ, ◌+◌, true, false, List, [], ◌∷◌, ◌++◌, length, Some, sym, ap, subst}
use Rattle.std.specs.Prelude.{slice_get}
use Rattle.bsv_ast.specs.Names.{is_lower}
use Rattle.bsv_tree.specs.declared.tree.BuiltRule.{BuiltRule}
use Rattle.bsv_elab.proofs.NamedLists.{Found, in_first, in_second, found, only_one, none_there, is_in, Longer, fresh_before, taken_after, names_differ}

pub record NewRules (before after : List (List ℕ)) (rules : List BuiltRule) : Type 0 where
  pub fresh : (k : ℕ) (r : BuiltRule) → slice_get rules k ≡ Some r → is_in r.name before ≡ false
  pub taken : (k : ℕ) (r : BuiltRule) → slice_get rules k ≡ Some r → is_in r.name after ≡ true
  pub lower : (k : ℕ) (r : BuiltRule) → slice_get rules k ≡ Some r → is_lower r.name ≡ true
  pub apart : (i j : ℕ) (r q : BuiltRule) → slice_get rules i ≡ Some r → slice_get rules j ≡ Some q → r.name ≡ q.name → i ≡ j

pub rules_none : (before after : List (List ℕ)) → NewRules before after []
rules_none before after = record {
  fresh = λ k r e. absurd (none_there k r e);
  taken = λ k r e. absurd (none_there k r e);
  lower = λ k r e. absurd (none_there k r e);
  apart = λ i j r q e f same. absurd (none_there i r e);
}

pub rules_one : (before after : List (List ℕ)) (r : BuiltRule) → is_in r.name before ≡ false → is_in r.name after ≡ true
    → is_lower r.name ≡ true → NewRules before after (r ∷ [])
rules_one before after r fresh taken lower = record {
  fresh = λ k q e. subst (λ (z : BuiltRule). is_in z.name before ≡ false) (only_one r k q e).1 fresh;
  taken = λ k q e. subst (λ (z : BuiltRule). is_in z.name after ≡ true) (only_one r k q e).1 taken;
  lower = λ k q e. subst (λ (z : BuiltRule). is_lower z.name ≡ true) (only_one r k q e).1 lower;
  apart = λ i j p q e f same. (only_one r i p e).0 ∙ sym (only_one r j q f).0;
}

module _ (a b c : List (List ℕ)) (xs ys : List BuiltRule) (first : Longer a b) (second : Longer b c)
    (h : NewRules a b xs) (g : NewRules b c ys) where
  fresh_by : (k : ℕ) (r : BuiltRule) → Found xs ys k r → is_in r.name a ≡ false
  fresh_by k r (in_first e) = h.fresh k r e
  fresh_by k r (in_second l is e) = fresh_before r.name a b first (g.fresh l r e)

  taken_by : (k : ℕ) (r : BuiltRule) → Found xs ys k r → is_in r.name c ≡ true
  taken_by k r (in_first e) = taken_after r.name b c second (h.taken k r e)
  taken_by k r (in_second l is e) = g.taken l r e

  lower_by : (k : ℕ) (r : BuiltRule) → Found xs ys k r → is_lower r.name ≡ true
  lower_by k r (in_first e) = h.lower k r e
  lower_by k r (in_second l is e) = g.lower l r e

  apart_by : (i j : ℕ) (r q : BuiltRule) → Found xs ys i r → Found xs ys j q → r.name ≡ q.name → i ≡ j
  apart_by i j r q (in_first e) (in_first f) same = h.apart i j r q e f same
  apart_by i j r q (in_first e) (in_second l at f) same = absurd (names_differ r.name q.name b (h.taken i r e) (g.fresh l q f) same)
  apart_by i j r q (in_second k is e) (in_first f) same = absurd (names_differ q.name r.name b (h.taken j q f) (g.fresh k r e) (sym same))
  apart_by i j r q (in_second k is e) (in_second l at f) same = is ∙ ap (λ z. length xs + z) (g.apart k l r q e f same) ∙ sym at

  pub rules_both : NewRules a c (xs ++ ys)
  rules_both = record {
    fresh = λ k r e. fresh_by k r (found xs ys k r e);
    taken = λ k r e. taken_by k r (found xs ys k r e);
    lower = λ k r e. lower_by k r (found xs ys k r e);
    apart = λ i j r q e f same. apart_by i j r q (found xs ys i r e) (found xs ys j q f) same;
  }
