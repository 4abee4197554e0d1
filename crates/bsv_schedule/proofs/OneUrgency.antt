-- There is one answer of the urgency order.
use Rattle.std.proofs.Common.{◌≡◌, ℕ, inl, inr, List, [], ◌∷◌, ◌++◌, refl, sym, ◌∙◌, ap, subst, Some}
use Rattle.std.specs.Prelude.{IsTrue, IsFalse, Result, Ok, Err, IfOk, IfErr, slice_get}
use Rattle.std.proofs.lemmas.Bool.{cases_order}
use Rattle.std.proofs.lemmas.Option.{same_Some}
use Rattle.bsv_design.specs.declared.attributes.Pair.{Pair}
use Rattle.bsv_graph.specs.Orders.{In}
use Rattle.bsv_schedule.specs.relating.Relating.{Relating, feed_edges}
use Rattle.bsv_schedule.specs.urgency_order.Orders.{IsLeastBehindRule, IsFirstRule, UrgencyOrder, MethodBehindRule, Urges}
use Rattle.bsv_graph.proofs.GraphLemmas.{closes_one}
use Rattle.bsv_graph.proofs.OrderedLemmas.{least_one}
use Rattle.bsv_schedule.specs.declared.urgency_order.fault.UrgencyFault.{UrgencyFault}
use Rattle.bsv_schedule.specs.declared.urgency_order.fault.UrgencyFault.TheVariants as fault
use Rattle.bsv_schedule.specs.urgency_order.Answers.{RefusesUrgency, IsUrgencyAnswer, IsUrgencyUnlessMemory, urging_pairs}

pair_one : (ps : List Pair) (k l : ℕ) (p q : Pair) → k ≡ l → slice_get ps k ≡ Some p → slice_get ps l ≡ Some q → p ≡ q
pair_one ps k l p q e x y = same_Some p q (sym x ∙ (ap (slice_get ps) e ∙ y))

module _ (r : Relating) where
  order_one : (xs ys : List ℕ) → UrgencyOrder r xs → UrgencyOrder r ys → xs ≡ ys
  order_one xs ys p q = least_one _ _ xs ys p q

  method_one : (xs : List ℕ) (m n : ℕ) → IsLeastBehindRule r xs m → IsLeastBehindRule r xs n → m ≡ n
  method_one xs m n p q = elim (cases_order m n) [
    | inl e ↦ e
    | inr (inl l) ↦ absurd (q.lower m l p.behind)
    | inr (inr l) ↦ absurd (p.lower n l q.behind)
  ]

  no_rule : (a b : ℕ) → a ≡ b → IsTrue (r.rule a) → IsFalse (r.rule b) → ⊥
  no_rule a b e h k = let f : r.rule a ≡ r.rule b = ap r.rule e in cc

  first_one : (xs ys us vs : List ℕ) (x y : ℕ) → xs ++ (x ∷ ys) ≡ us ++ (y ∷ vs) → IsTrue (r.rule x) → IsTrue (r.rule y)
      → ((p : ℕ) → In xs p → IsFalse (r.rule p)) → ((p : ℕ) → In us p → IsFalse (r.rule p)) → x ≡ y
  first_one [] ys [] vs x y e h k f g = cc
  first_one [] ys (u ∷ us) vs x y e h k f g = let same : x ≡ u = cc in absurd (no_rule x u same h (g u (inl refl)))
  first_one (z ∷ xs) ys [] vs x y e h k f g = let same : y ≡ z = cc in absurd (no_rule y z same k (f z (inl refl)))
  first_one (z ∷ xs) ys (u ∷ us) vs x y e h k f g =
      let rest : xs ++ (x ∷ ys) ≡ us ++ (y ∷ vs) = cc in
      first_one xs ys us vs x y rest h k (λ p i. f p (inr i)) (λ p i. g p (inr i))

  rule_one : (xs : List ℕ) (x y : ℕ) → IsFirstRule r xs x → IsFirstRule r xs y → x ≡ y
  rule_one xs x y p q = first_one p.before p.behind q.before q.behind x y (sym p.split ∙ q.split) p.rule q.rule p.earlier q.earlier

  accepted_not_after : (xs : List ℕ) (m q : ℕ) → Urges r xs → MethodBehindRule r m q → ⊥
  accepted_not_after xs m q u b = u.methods m (subst (λ ys. IsLeastBehindRule r ys m) (order_one b.order xs b.least u.order) b.method).behind

  after_method : (m n p q : ℕ) → MethodBehindRule r m p → MethodBehindRule r n q → m ≡ n
  after_method m n p q a b = method_one b.order m n (subst (λ ys. IsLeastBehindRule r ys m) (order_one a.order b.order a.least b.least) a.method) b.method

  behind_rule : (m n p q : ℕ) → MethodBehindRule r m p → MethodBehindRule r n q → p ≡ q
  behind_rule m n p q a b = rule_one b.order p q (subst (λ ys. IsFirstRule r ys p) (order_one a.order b.order a.least b.least) a.rule) b.rule

-- the answers exclude each other
pub one : (r : Relating) (ps : List Pair) (x y : Result (List ℕ) UrgencyFault) → IsUrgencyAnswer r ps x → IsUrgencyAnswer r ps y → x ≡ y
one r ps (Ok xs) (Ok ys) p q = ap Ok (order_one r xs ys p.order q.order)
one r ps (Ok xs) (Err (fault.UrgencyCycle s)) p q = let c = q.0.1 in absurd (p.pairs c.before c.behind c.edge c.split c.closes)
one r ps (Ok xs) (Err (fault.MethodBehindRule m a)) p q = absurd (accepted_not_after r xs m a p q.0)
one r ps (Err (fault.UrgencyCycle t)) (Ok ys) p q = let c = p.0.1 in absurd (q.pairs c.before c.behind c.edge c.split c.closes)
one r ps (Err (fault.UrgencyCycle t)) (Err (fault.UrgencyCycle s)) p q =
    ap (λ z. Err (fault.UrgencyCycle z)) (pair_one (urging_pairs ps) p.0.0 q.0.0 t s (closes_one (feed_edges r) r.urging p.0.0 q.0.0 p.0.1 q.0.1) p.0.2 q.0.2)
one r ps (Err (fault.UrgencyCycle t)) (Err (fault.MethodBehindRule n b)) p q = let c = p.0.1 in absurd (q.0.pairs c.before c.behind c.edge c.split c.closes)
one r ps (Err (fault.MethodBehindRule m a)) (Ok ys) p q = absurd (accepted_not_after r ys m a q p.0)
one r ps (Err (fault.MethodBehindRule m a)) (Err (fault.UrgencyCycle s)) p q = let c = q.0.1 in absurd (p.0.pairs c.before c.behind c.edge c.split c.closes)
one r ps (Err (fault.MethodBehindRule m a)) (Err (fault.MethodBehindRule n b)) p q =
    ap (λ z. Err (fault.MethodBehindRule z a)) (after_method r m n a b p.0 q.0) ∙ ap (λ z. Err (fault.MethodBehindRule n z)) (behind_rule r m n a b p.0 q.0)
one r ps (Err fault.OutOfMemory) y p q = absurd (p.1 refl)
one r ps x (Err fault.OutOfMemory) p q = absurd (q.1 refl)

-- what is given is the answer, or memory ran out
pub exact : (r : Relating) (ps : List Pair) (given answer : Result (List ℕ) UrgencyFault) → IfOk given (λ xs. Urges r xs)
    → IfErr given (λ f. RefusesUrgency r ps f) → IsUrgencyAnswer r ps answer → IsUrgencyUnlessMemory given answer
exact r ps (Ok xs) answer p q h = inl (one r ps (Ok xs) answer p h)
exact r ps (Err (fault.UrgencyCycle t)) answer p q h = inl (one r ps (Err (fault.UrgencyCycle t)) answer (q, λ e. cc) h)
exact r ps (Err (fault.MethodBehindRule m a)) answer p q h = inl (one r ps (Err (fault.MethodBehindRule m a)) answer (q, λ e. cc) h)
exact r ps (Err fault.OutOfMemory) answer p q h = inr refl
