-- Elements that are run one after the other: the calls, the results and the parts at the end.
use Rattle.std.proofs.Common.{◌≡◌, ◌∙◌, ℕ, inl, inr, Bool, true, List, [], ◌∷◌, ◌++◌, refl, sym, ap, append_assoc}
use Rattle.bsv_bits.specs.Words.{Bits}
use Rattle.bsv_prim.specs.declared.part.Part.{Part}
use Rattle.bsv_design.specs.scheme.Relations.{goes}
use Rattle.bsv_design.specs.scheme.Schemes.{Scheme, Asking, Called, ready, value}
use Rattle.bsv_design.specs.scheme.Serial.{Serial, done, turn, IsIn, calls_made, run_whole}
use Rattle.bsv_design.specs.scheme.States.{plain, after_calls}
use Rattle.bsv_graph.specs.Orders.{In}
use Rattle.bsv_graph.proofs.LeastLemmas.{in_parts}
use Rattle.bsv_clock.specs.Events.{gives, results_in_turn}
use Rattle.bsv_clock.specs.Looks.{calls_in_turn}
use Rattle.bsv_clock.specs.Steadiness.{AllGo, GoInOrder}
use Rattle.bsv_clock.proofs.CallLists.{after_calls-append}
use Rattle.bsv_clock.proofs.Members.{find_again, found_again}

module _ (S : Scheme) (q : Asking) where
  -- what elements that are run one after the other leave
  pub after_turns : (ps : List Part) (n : ℕ) (ns : List ℕ) → after_calls S.kinds ps (calls_in_turn S q ps (n ∷ ns)) ≡ after_calls S.kinds (run_whole S q n ps) (calls_in_turn S q (run_whole S q n ps) ns)
  unfolding run_whole
  after_turns ps n ns = after_calls-append S.kinds ps (calls_made S q n ps) (calls_in_turn S q (run_whole S q n ps) ns)

  pub turns_append : (ps : List Part) (ms ns : List ℕ) → calls_in_turn S q ps (ms ++ ns) ≡ calls_in_turn S q ps ms ++ calls_in_turn S q (after_calls S.kinds ps (calls_in_turn S q ps ms)) ns
  turns_append ps [] ns = refl
  turns_append ps (m ∷ ms) ns =
      ap (λ (cs : List Called). calls_made S q m ps ++ cs)
      (turns_append (run_whole S q m ps) ms ns
      ∙ ap (λ (end : List Part). calls_in_turn S q (run_whole S q m ps) ms ++ calls_in_turn S q end ns) (sym (after_turns ps m ms)))
      ∙ sym (append_assoc (calls_made S q m ps) (calls_in_turn S q (run_whole S q m ps) ms) (calls_in_turn S q (after_calls S.kinds ps (calls_in_turn S q ps (m ∷ ms))) ns))

  pub results_append : (ps : List Part) (ms ns : List ℕ) → results_in_turn S q ps (ms ++ ns) ≡ results_in_turn S q ps ms ++ results_in_turn S q (after_calls S.kinds ps (calls_in_turn S q ps ms)) ns
  results_append ps [] ns = refl
  results_append ps (m ∷ ms) ns =
      ap (λ (xs : List (ℕ × Bits)). gives m (value S q m (plain ps)) ++ xs)
      (results_append (run_whole S q m ps) ms ns
      ∙ ap (λ (end : List Part). results_in_turn S q (run_whole S q m ps) ms ++ results_in_turn S q end ns) (sym (after_turns ps m ms)))
      ∙ sym (append_assoc (gives m (value S q m (plain ps))) (results_in_turn S q (run_whole S q m ps) ms) (results_in_turn S q (after_calls S.kinds ps (calls_in_turn S q ps (m ∷ ms))) ns))

  pub serial_end : (g : Bool) {ps end : List Part} {ns : List ℕ} → Serial g S q ps ns end → end ≡ after_calls S.kinds ps (calls_in_turn S q ps ns)
  serial_end g done = refl
  serial_end g {ps = ps} (turn {n = n} {ns = ns} r fresh rest) = serial_end g rest ∙ sym (after_turns ps n ns)

  -- one more element
  pub serial_more : (g : Bool) {ps end : List Part} {ns : List ℕ} (n : ℕ) → Serial g S q ps ns end → ready g S q n (plain end) ≡ true → ¬ In ns n → Serial g S q ps (ns ++ n ∷ []) (run_whole S q n end)
  serial_more g n done r out = turn r (λ h. h) done
  serial_more g {ps = ps} n (turn {n = m} {ns = ns} is fresh rest) r out = turn is apart (serial_more g n rest r (λ i. out (inr i)))
    where
      apart : IsIn m (ns ++ n ∷ []) → ⊥
      apart h = elim (in_parts ns (n ∷ []) m (found_again m (ns ++ n ∷ []) h)) [
        | inl k ↦ fresh (find_again m ns k)
        | inr (inl e) ↦ out (inl (sym e))
        | inr (inr k) ↦ k
      ]

-- ---- elements that go before each other

pub order_more : (S : Scheme) (fs : List ℕ) (n : ℕ) → GoInOrder S fs → AllGo S fs n → GoInOrder S (fs ++ n ∷ [])
order_more S [] n h go = ((λ m i. absurd i), tt)
order_more S (f ∷ fs) n h go = (first, order_more S fs n h.1 (λ m i. go m (inr i)))
  where
    first : (m : ℕ) → In (fs ++ n ∷ []) m → goes S f m ≡ true
    first m i = elim (in_parts fs (n ∷ []) m i) [
      | inl k ↦ h.0 m k
      | inr (inl e) ↦ ap (goes S f) e ∙ go f (inl refl)
      | inr (inr k) ↦ absurd k
    ]
