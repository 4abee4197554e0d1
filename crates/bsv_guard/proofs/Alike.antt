-- Schemes that are alike do the same.
use Rattle.std.proofs.Common.{◌≡◌, ◌∙◌, ℕ, Bool, ◌&&◌, List, [], length, sym, ap, ap₂, subst}
use Rattle.std.specs.Prelude.{slice_get}
use Rattle.bsv_prim.specs.declared.part.Part.{Part}
use Rattle.bsv_design.specs.declared.kind.Kind.{Kind}
use Rattle.bsv_design.specs.scheme.Relations.{goes, feeds, for_all, for_some, may_precede, is_seen, no_answers, sites_of, break_the_rule, IsBreach, KeepsTheRule, IsFirstBreach}
use Rattle.bsv_design.specs.scheme.Schemes.{Scheme, Outline, Asking, Look, AreAlike, ports_of, filled, if_asked, answers, given, seen, all_hold, all_open, ready, calls, value, taken_actions}
use Rattle.bsv_design.specs.scheme.Serial.{by_rank, run_whole, Serial, done, turn}
use Rattle.bsv_design.specs.scheme.States.{plain, after_calls}
use Rattle.bsv_design.specs.scheme.Traces.{Site, Trace}
use Rattle.bsv_guard.specs.ElementLaws.{DoTheSame}
use Rattle.bsv_guard.proofs.Given.{given_arguments}
use Rattle.bsv_design.proofs.Elements.{length-filled}

module _ (S T : Scheme) (al : AreAlike S T) where
  same_given : (q : Asking) (n : ℕ) → given S q n ≡ given T q n
  unfolding given
  same_given q n = ap (λ (es : List Outline). filled (ports_of (slice_get es n)) (if_asked (slice_get q.asked n) (slice_get q.args n))) al.elements

  same_seen : (q : Asking) (n : ℕ) (a : Look) → seen S q n a ≡ seen T q n a
  unfolding seen
  same_seen q n a =
      al.traces n (answers S.kinds a) (given S q n) (given_arguments S q n)
      ∙ ap₂ (λ ks ws. T.trace n (answers ks a) ws) al.kinds (same_given q n)

  same_ready : (g : Bool) (q : Asking) (n : ℕ) (a : Look) → ready g S q n a ≡ ready g T q n a
  unfolding ready
  same_ready g q n a = ap₂ (λ (ks : List Kind) (t : Trace). all_hold g t.demands && all_open g ks a t.sites) al.kinds (same_seen q n a)

  same_goes : (m n : ℕ) → goes S m n ≡ goes T m n
  unfolding goes
  same_goes m n =
      ap (λ ks. for_all (λ x. for_all (may_precede ks x) (S.uses n)) (S.uses m)) al.kinds
      ∙ ap₂ (λ us vs. for_all (λ x. for_all (may_precede T.kinds x) us) vs) (al.uses n) (al.uses m)

  same_feeds : (m n : ℕ) → feeds S m n ≡ feeds T m n
  unfolding feeds
  same_feeds m n =
      ap (λ ks. for_some (λ x. for_some (is_seen ks x) (S.uses n)) (S.uses m)) al.kinds
      ∙ ap₂ (λ us vs. for_some (λ x. for_some (is_seen T.kinds x) us) vs) (al.uses n) (al.uses m)

  same_sites : (n : ℕ) → sites_of S n ≡ sites_of T n
  same_sites n =
      ap (λ (t : Trace). t.sites)
      (al.traces n no_answers (filled (ports_of (slice_get S.elements n)) []) (length-filled (ports_of (slice_get S.elements n)) [])
      ∙ ap (λ (es : List Outline). T.trace n no_answers (filled (ports_of (slice_get es n)) [])) al.elements)

  breach_there : (n i j : ℕ) (x y : Site) → IsBreach T n i j x y → IsBreach S n i j x y
  breach_there n i j x y b =
      record {
        first = ap (λ (xs : List Site). slice_get xs i) (same_sites n) ∙ b.first;
        second = ap (λ (xs : List Site). slice_get xs j) (same_sites n) ∙ b.second;
        earlier = b.earlier;
        breaks = ap (λ ks. break_the_rule ks x y) al.kinds ∙ b.breaks;
      }

  rule_there : (n : ℕ) → KeepsTheRule S n → KeepsTheRule T n
  rule_there n h i j x y b = h i j x y (breach_there n i j x y b)

  same_calls : (q : Asking) (n : ℕ) (a : Look) → calls S q n a ≡ calls T q n a
  unfolding calls
  same_calls q n a = ap (λ (t : Trace). taken_actions t.sites) (same_seen q n a)

  same_run : (q : Asking) (n : ℕ) (ps : List Part) → run_whole S q n ps ≡ run_whole T q n ps
  unfolding run_whole
  same_run q n ps = ap₂ (λ ks cs. after_calls ks ps (by_rank ks cs)) al.kinds (same_calls q n (plain ps))

  serial_there : (g : Bool) (q : Asking) {ps end : List Part} {ns : List ℕ} → Serial g S q ps ns end → Serial g T q ps ns end
  serial_there g q done = done
  serial_there g q {ps = ps} {end = end} (turn {n = n} {ns = ns} r fresh rest) =
      turn (sym (same_ready g q n (plain ps)) ∙ r) fresh
      (subst (λ (p : List Part). Serial g T q p ns end) (same_run q n ps) (serial_there g q rest))

-- a scheme is like those that are like it
pub alike_back : (S T : Scheme) → AreAlike S T → AreAlike T S
alike_back S T al = record {
  kinds = sym al.kinds;
  elements = sym al.elements;
  pairs = sym al.pairs;
  asserts = sym al.asserts;
  uses = λ n. sym (al.uses n);
  traces = λ n r ws f. sym (al.traces n r ws (subst (λ (es : List Outline). length ws ≡ length (ports_of (slice_get es n))) (sym al.elements) f));
}

first_there : (S T : Scheme) → AreAlike S T → (n i j : ℕ) (x y : Site) → IsFirstBreach S n i j x y → IsFirstBreach T n i j x y
first_there S T al n i j x y b = record {
  breach = breach_there T S (alike_back S T al) n i j x y b.breach;
  first = λ k l u v c. b.first k l u v (breach_there S T al n k l u v c);
  least = λ m l. rule_there S T al m (b.least m l);
}

pub alike : (S T : Scheme) → AreAlike S T → DoTheSame S T
unfolding value
alike S T al =
    let back = alike_back S T al in
    record {
      given_same = same_given S T al;
      seen_same = same_seen S T al;
      ready_same = same_ready S T al;
      calls_same = same_calls S T al;
      value_same = λ q n a. ap (λ (t : Trace). t.result) (same_seen S T al q n a);
      goes_same = same_goes S T al;
      feeds_same = same_feeds S T al;
      rule_same = λ n. (rule_there S T al n, rule_there T S back n);
      first_breach_same = λ n i j x y. (first_there S T al n i j x y, first_there T S back n i j x y);
      run_same = same_run S T al;
      serial_same = λ g q ps end ns. (serial_there S T al g q {ps = ps} {end = end} {ns = ns}, serial_there T S back g q {ps = ps} {end = end} {ns = ns});
    }
