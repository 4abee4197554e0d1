-- From the calls of the elements of a design to its scheme.
use Rattle.std.proofs.Common.{◌≡◌, ◌∙◌, ℕ, ◌<◌, ◌^◌, ◌≤◌, ◌+◌, true, false, List, [], ◌∷◌, ◌++◌, map, length, take, add-one, Some, None, refl, sym, ap, subst, ◌⊎◌, inl, inr, arith, IsTrue, zero, suc, ltb-true, nat_lt}
use Rattle.std.specs.Prelude.{slice_get, Option}
use Rattle.std.specs.List.{list_all}
use Rattle.std.proofs.Math.Logic.{∥∥₁_elim}
use Rattle.std.proofs.Math.Bool.{Bool-set}
use Rattle.std.proofs.lemmas.Option.{same_Some, slice_get_within, get_or_from_slice_get}
use Rattle.std.proofs.lemmas.List.{map-append, take_all}
use Rattle.std.proofs.Math.Seq.{take-suc}
use Rattle.std.proofs.lemmas.Bool.{cases_order}
use Rattle.bsv_lemmas.proofs.Places.{mapped_at as map_at}
use Rattle.bsv_bits.specs.Words.{Bits}
use Rattle.bsv_design.specs.declared.design.Design.{Design}
use Rattle.bsv_design.specs.declared.element.Call.{Call}
use Rattle.bsv_design.specs.declared.element.Element.{Element}
use Rattle.bsv_design.specs.declared.kind.Kind.{Kind}
use Rattle.bsv_design.specs.declared.schedule.Need.{Need}
use Rattle.bsv_design.specs.design.Bodies.{words}
use Rattle.bsv_design.specs.design.Designs.{DesignData, IsDesign}
use Rattle.bsv_design.specs.design.Guards.{needs_of, needs_from, body_ready}
use Rattle.bsv_design.specs.scheme.Relations.{IsBreach, KeepsTheRule, break_the_rule, sites_of, no_answers}
use Rattle.bsv_design.specs.scheme.Schemes.{Look, Asking, design_scheme, kinds_of, trace_of, ports_of, filled, answers, given, seen, ready}
use Rattle.bsv_design.specs.scheme.Seen.{design_data}
use Rattle.bsv_design.specs.scheme.Traces.{Site, site_at, body_trace}
use Rattle.bsv_design.specs.design.Widths.{call_named}
use Rattle.bsv_design.proofs.Named.{calls_named}
use Rattle.bsv_guard.specs.declared.fault.GuardFault.{GuardFault}
use Rattle.bsv_guard.specs.declared.fault.GuardFault.TheVariants.{InRule, OutOfMemory}
use Rattle.bsv_guard.specs.Lifted.{AreLifted, NamesFirst, IsRefused, IsElementRefused, all_ready}
use Rattle.bsv_guard.specs.Pairs.{IsPair, AreFree, IsFound}
use Rattle.bsv_guard.proofs.Ready.{body_says_all}

-- ---- what holds of each design

calls_few : (d : Design) (n : ℕ) (e : Element) → slice_get d.elements n ≡ Some e → length e.calls < 2 ^ 32
calls_few d n e at =
    let few : nat_lt (length e.calls) (2 ^ 32) ≡ true = ∥∥₁_elim d.right (Bool-set _ _) (λ (right : IsDesign (design_data d)). (right.elements n e at).calls) in
    ltb-true _ _ few

pub named_in : (d : Design) (n : ℕ) (e : Element) (ks : List Kind) (cs : List Call) → slice_get d.elements n ≡ Some e → ks ≡ kinds_of (design_data d) → cs ≡ e.calls
    → IsTrue (list_all (call_named ks) cs)
named_in d n e ks cs at kinds calls =
    subst (λ k. IsTrue (list_all (call_named k) cs)) (sym kinds) (subst (λ c. IsTrue (list_all (call_named (kinds_of (design_data d))) c)) (sym calls) (calls_named d n e at))

pub few_in : (d : Design) (n : ℕ) (e : Element) (cs : List Call) → slice_get d.elements n ≡ Some e → cs ≡ e.calls → length cs < 2 ^ 32
few_in d n e cs at calls = subst (λ c. length c < 2 ^ 32) (sym calls) (calls_few d n e at)

-- ---- what is in a list that another one is mapped to

mapped_at : {A B : Type 0} (f : A → B) (xs : List A) (i : ℕ) (y : B) → slice_get (map f xs) i ≡ Some y → (x : A) × (slice_get xs i ≡ Some x) × (f x ≡ y)
mapped_at f [] i y h = absurd cc
mapped_at f (x ∷ xs) zero y h = (x, refl, same_Some (f x) y h)
mapped_at f (x ∷ xs) (suc i) y h = mapped_at f xs i y h

-- ---- pairs of calls, and pairs of sites

-- the words at the nodes of an element where no call gives anything
some_words : DesignData → ℕ → Element → List Bits
some_words b n e = words e no_answers (filled (ports_of (slice_get (design_scheme b).elements n)) [])

sites_are : (b : DesignData) (n : ℕ) (e : Element) → slice_get b.elements n ≡ Some e
    → sites_of (design_scheme b) n ≡ map (site_at (kinds_of b) (some_words b n e)) e.calls
unfolding design_scheme body_trace some_words
sites_are b n e at = ap (λ o. (trace_of (kinds_of b) o no_answers (filled (ports_of (slice_get (design_scheme b).elements n)) [])).sites) at

no_sites : (b : DesignData) (n : ℕ) → slice_get b.elements n ≡ None → sites_of (design_scheme b) n ≡ []
unfolding design_scheme
no_sites b n at = ap (λ o. (trace_of (kinds_of b) o no_answers (filled (ports_of (slice_get (design_scheme b).elements n)) [])).sites) at

record IsPairOfSites (b : DesignData) (n : ℕ) (e : Element) (i j : ℕ) (x y : Site) : Type 0 where
  one : Call
  other : Call
  pair : IsPair (kinds_of b) e.calls i j one other

pair_of : (b : DesignData) (n : ℕ) (e : Element) (i j : ℕ) (x y : Site) → slice_get b.elements n ≡ Some e → IsBreach (design_scheme b) n i j x y → IsPairOfSites b n e i j x y
unfolding design_scheme
pair_of b n e i j x y at h =
    let f : Call → Site = site_at (kinds_of b) (some_words b n e) in
    let c = mapped_at f e.calls i x (subst (λ xs. slice_get xs i ≡ Some x) (sites_are b n e at) h.first) in
    let d = mapped_at f e.calls j y (subst (λ xs. slice_get xs j ≡ Some y) (sites_are b n e at) h.second) in
    record {
      one = c.0;
      other = d.0;
      pair = record {
        first = c.1;
        second = d.1;
        earlier = h.earlier;
        broken = subst (λ v. break_the_rule (kinds_of b) (f c.0) v ≡ true) (sym d.2) (subst (λ u. break_the_rule (kinds_of b) u y ≡ true) (sym c.2) h.breaks);
      };
    }

breach_of : (b : DesignData) (n : ℕ) (e : Element) (i j : ℕ) (c d : Call) → slice_get b.elements n ≡ Some e → IsPair (kinds_of b) e.calls i j c d
    → IsBreach (design_scheme b) n i j (site_at (kinds_of b) (some_words b n e) c) (site_at (kinds_of b) (some_words b n e) d)
unfolding design_scheme
breach_of b n e i j c d at p =
    let f : Call → Site = site_at (kinds_of b) (some_words b n e) in
    record {
      first = subst (λ xs. slice_get xs i ≡ Some (f c)) (sym (sites_are b n e at)) (map_at f e.calls i c p.first);
      second = subst (λ xs. slice_get xs j ≡ Some (f d)) (sym (sites_are b n e at)) (map_at f e.calls j d p.second);
      earlier = p.earlier;
      breaks = p.broken;
    }

-- ---- the rule

keeps_at : (b : DesignData) (n : ℕ) (o : Option Element) → slice_get b.elements n ≡ o → ((e : Element) → slice_get b.elements n ≡ Some e → AreFree (kinds_of b) e.calls)
    → KeepsTheRule (design_scheme b) n
keeps_at b n None at free = λ i j x y h.
    let none : slice_get [] i ≡ Some x = subst (λ xs. slice_get xs i ≡ Some x) (no_sites b n at) h.first in
    absurd cc
keeps_at b n (Some e) at free = λ i j x y h. let p = pair_of b n e i j x y at h in free e at i j p.one p.other p.pair

pub keeps : (b : DesignData) (n : ℕ) → ((e : Element) → slice_get b.elements n ≡ Some e → AreFree (kinds_of b) e.calls) → KeepsTheRule (design_scheme b) n
keeps b n = keeps_at b n (slice_get b.elements n) refl

first_of : (b : DesignData) (n part x y : ℕ) (e : Element) → slice_get b.elements n ≡ Some e
    → ((m : ℕ) (d : Element) → m < n → slice_get b.elements m ≡ Some d → AreFree (kinds_of b) d.calls)
    → IsFound (kinds_of b) e.calls part x y → NamesFirst b n part x y
first_of b n part x y e at before h = record {
  earlier = h.earlier;
  later = h.later;
  one = site_at (kinds_of b) (some_words b n e) h.one;
  other = site_at (kinds_of b) (some_words b n e) h.other;
  breach = record {
    breach = breach_of b n e h.earlier h.later h.one h.other at h.pair;
    first = λ k l u v s. let p = pair_of b n e k l u v at s in h.first k l p.one p.other p.pair;
    least = λ m less. keeps b m (λ d is. before m d less is);
  };
  part_is = h.part_is;
  first_is = h.first_is;
  second_is = h.second_is;
}

pub refused : (b : DesignData) (ks : List Kind) (n : ℕ) (e : Element) (f : GuardFault) → ks ≡ kinds_of b → slice_get b.elements n ≡ Some e
    → ((m : ℕ) (d : Element) → m < n → slice_get b.elements m ≡ Some d → AreFree ks d.calls)
    → IsElementRefused ks n e.calls f → IsRefused b f
refused b ks n e OutOfMemory are at before h = tt
refused b ks n e (InRule k part x y) are at before h =
    subst (λ m. NamesFirst b m part x y) (sym h.0)
    (first_of b n part x y e at (λ m d less is. subst (λ s. AreFree s d.calls) are (before m d less is)) (subst (λ s. IsFound s e.calls part x y) are h.1))

-- ---- the needs

pub one_element_more : (ks : List Kind) (es : List Element) (n : ℕ) (one : Element) → ((m : ℕ) (e : Element) → m < n → slice_get es m ≡ Some e → AreFree ks e.calls)
    → slice_get es n ≡ Some one → AreFree ks one.calls → (m : ℕ) (e : Element) → m < n + 1 → slice_get es m ≡ Some e → AreFree ks e.calls
one_element_more ks es n one before at here m e h is = of (cases_order m n) where
  of : (m ≡ n) ⊎ ((m < n) ⊎ (n < m)) → AreFree ks e.calls
  of (inl same) =
      let it : one ≡ e = same_Some one e (sym at ∙ (ap (slice_get es) (sym same) ∙ is)) in
      subst (λ d. AreFree ks d.calls) it here
  of (inr (inl less)) = before m e less is
  of (inr (inr more)) = absurd (omega arith)

pub needs_more : (ks : List Kind) (es : List Element) (n : ℕ) (e : Element) (old new : List (List Need)) → old ≡ needs_of ks (take n es) → slice_get es n ≡ Some e
    → new ≡ old ++ needs_from ks 0 e.calls ∷ [] → new ≡ needs_of ks (take (n + 1) es)
needs_more ks es n e old new are at is =
    let more : take (n + 1) es ≡ take n es ++ e ∷ [] =
    ap (λ k. take k es) (add-one n) ∙ (take-suc es n e (slice_get_within es n e at) ∙ ap (λ d. take n es ++ d ∷ []) (get_or_from_slice_get es n e e at)) in
    is ∙ (ap (λ xs. xs ++ needs_from ks 0 e.calls ∷ []) are
    ∙ sym (ap (needs_of ks) more ∙ map-append (λ (d : Element). needs_from ks 0 d.calls) (take n es) (e ∷ [])))

pub needs_whole : (ks : List Kind) (es : List Element) (n : ℕ) (needs : List (List Need)) → needs ≡ needs_of ks (take n es) → length es ≤ n → needs ≡ needs_of ks es
needs_whole ks es n needs are h = are ∙ ap (needs_of ks) (take_all n es h)

ready_is : (b : DesignData) (n : ℕ) (e : Element) (look : Look) (q : Asking) → slice_get b.elements n ≡ Some e
    → ready false (design_scheme b) q n look ≡ all_ready (kinds_of b) look (body_trace (kinds_of b) e (answers (kinds_of b) look) (given (design_scheme b) q n))
unfolding design_scheme ready seen
ready_is b n e look q at =
    ap (λ o. all_ready (kinds_of b) look (trace_of (kinds_of b) o (answers (kinds_of b) look) (given (design_scheme b) q n))) at

pub lifted : (b : DesignData) (needs : List (List Need)) → needs ≡ needs_of (kinds_of b) b.elements → AreLifted b needs
lifted b needs is = record {
  body = λ n e ns look ws at there. by n e ns look ws at there;
  whole = λ n e ns look q at there. ready_is b n e look q at ∙ sym (by n e ns look (given (design_scheme b) q n) at there);
} where
  by : (n : ℕ) (e : Element) (ns : List Need) (look : Look) (ws : List Bits) → slice_get b.elements n ≡ Some e → slice_get needs n ≡ Some ns
      → body_ready false (kinds_of b) e ns look ws ≡ all_ready (kinds_of b) look (body_trace (kinds_of b) e (answers (kinds_of b) look) ws)
  by n e ns look ws at there =
      let same : needs_from (kinds_of b) 0 e.calls ≡ ns =
      same_Some (needs_from (kinds_of b) 0 e.calls) ns
      (sym (map_at (λ (d : Element). needs_from (kinds_of b) 0 d.calls) b.elements n e at) ∙ (ap (λ xs. slice_get xs n) (sym is) ∙ there)) in
      subst (λ xs. body_ready false (kinds_of b) e xs look ws ≡ all_ready (kinds_of b) look (body_trace (kinds_of b) e (answers (kinds_of b) look) ws)) same
      (body_says_all (kinds_of b) e look ws)
