-- An element of a design that is computed: whether it is ready, its calls and its value are those of its scheme.
use Rattle.std.proofs.Common.{◌≡◌, ◌∙◌, ℕ, ◌+◌, Bool, true, false, cond, not, ◌&&◌, ◌||◌, List, [], ◌∷◌, map, Option, Some, None, refl, sym, ap, ap₂}
use Rattle.std.specs.Prelude.{slice_get}
use Rattle.std.specs.List.{AllByRecursion}
use Rattle.bsv_lemmas.proofs.Places.{mapped_at}
use Rattle.bsv_lemmas.proofs.Truths.{both_turned}
use Rattle.bsv_bits.specs.Words.{Bits}
use Rattle.bsv_design.specs.declared.design.Design.{Design}
use Rattle.bsv_design.specs.declared.element.Call.{Call}
use Rattle.bsv_design.specs.declared.element.Element.{Element}
use Rattle.bsv_design.specs.declared.kind.Kind.{Kind}
use Rattle.bsv_design.specs.declared.schedule.Need.{Need}
use Rattle.bsv_design.specs.design.Bodies.{target}
use Rattle.bsv_design.specs.design.Guards.{body_ready, holds_at, is_asked as is_needed, is_guarded, needs_from, needs_hold, needs_of}
use Rattle.bsv_design.specs.scheme.Schemes.{Scheme, Outline, Asking, Called, Look, all_hold, answers, calls, design_scheme, filled, given, if_asked, kinds_of, outline, ports_of, ready, taken_actions, value}
use Rattle.bsv_design.specs.scheme.Schemes as schemes
use Rattle.bsv_design.specs.scheme.Seen.{design_data}
use Rattle.bsv_design.specs.scheme.Traces.{demand_at, kind_at, body_trace}
use Rattle.bsv_guard.specs.ElementLaws.{IsUse}
use Rattle.bsv_guard.proofs.Whole.{lifted}
use Rattle.bsv_serial.specs.Bodies.{guards_hold, holds, words_under}
use Rattle.bsv_serial.specs.Settings.{sites_of, value_of}

-- ---- lists

-- ---- guards

never_under : (ks : List Kind) (k : ℕ) (cs : List Call) → AllByRecursion (λ (n : Need). n.under ≡ None) (needs_from ks k cs)
unfolding needs_from
never_under ks k [] = tt
never_under ks k (c ∷ cs) = cases (is_guarded (kind_at ks (target c)) c.method) (never_under ks (k + 1) cs)
  where
    cases : (b : Bool) → AllByRecursion (λ (n : Need). n.under ≡ None) (needs_from ks (k + 1) cs)
        → AllByRecursion (λ (n : Need). n.under ≡ None) (cond b (record { call = k; under = None } ∷ needs_from ks (k + 1) cs) (needs_from ks (k + 1) cs))
    cases true e = (refl, e)
    cases false e = e

or_not_true : (b : Bool) → (b || not true) ≡ b
or_not_true true = refl
or_not_true false = refl

same_guards : (ks : List Kind) (look : Look) (cs : List Call) (ws : List Bits) (ns : List Need) → AllByRecursion (λ (n : Need). n.under ≡ None) ns
    → needs_hold ks look cs ws ns ≡ guards_hold ks look cs ns
unfolding guards_hold
same_guards ks look cs ws [] h = refl
same_guards ks look cs ws (n ∷ ns) h =
    ap₂ (λ (a b : Bool). a && b)
    (ap (λ (o : Option ℕ). holds_at ks look (slice_get cs n.call) || not (is_needed ws o)) h.0 ∙ or_not_true (holds_at ks look (slice_get cs n.call)))
    (same_guards ks look cs ws ns h.1)

-- ---- one element

module _ (d : Design) (q : Asking) (n : ℕ) (e : Element) (is : slice_get d.elements n ≡ Some e) where
  abbrev ks : List Kind
  ks = kinds_of (design_data d)

  abbrev S : Scheme
  S = design_scheme (design_data d)

  abbrev arguments : List Bits
  arguments = filled e.arguments (if_asked (slice_get q.asked n) (slice_get q.args n))

  pub outline_there : slice_get S.elements n ≡ Some (outline e)
  unfolding design_scheme
  outline_there = mapped_at outline d.elements n e is

  pub given_here : given S q n ≡ arguments
  unfolding given
  given_here = ap (λ (o : Option Outline). filled (ports_of o) (if_asked (slice_get q.asked n) (slice_get q.args n))) outline_there

  pub use_of : (k : ℕ) (c : Call) → slice_get e.calls k ≡ Some c → IsUse S n (target c)
  unfolding design_scheme
  use_of k c at_k = record {
    index = k;
    is = ap (λ (o : Option Element). slice_get (schemes.calls_of o) k) is ∙ mapped_at target e.calls k c at_k;
  }

  -- its run under a look, as it is computed
  run_here : (look : Look) → schemes.seen S q n look ≡ body_trace ks e (answers ks look) arguments
  unfolding schemes.seen design_scheme
  run_here look =
      ap (λ (o : Option Element). schemes.trace_of ks o (answers ks look) (given S q n)) is
      ∙ ap (body_trace ks e (answers ks look)) given_here

  pub calls_here : (look : Look) → taken_actions (sites_of ks (words_under ks look e arguments) (Some e)) ≡ calls S q n look
  unfolding calls body_trace
  calls_here look = sym (ap (λ t. taken_actions t.sites) (run_here look))

  pub value_here : (look : Look) → value_of (words_under ks look e arguments) (Some e) ≡ value S q n look
  unfolding value body_trace
  value_here look = sym (ap (λ t. t.result) (run_here look))

  pub ready_here : (needs : List (List Need)) → needs ≡ needs_of ks d.elements → (look : Look) → holds ks look e (needs_from ks 0 e.calls) arguments ≡ ready false S q n look
  unfolding holds body_ready
  ready_here needs are look =
      both_turned (guards_hold ks look e.calls (needs_from ks 0 e.calls)) (all_hold false (map (demand_at (words_under ks look e arguments)) e.conditions))
      ∙ ap (λ (b : Bool). all_hold false (map (demand_at (words_under ks look e arguments)) e.conditions) && b)
      (sym (same_guards ks look e.calls (words_under ks look e arguments) (needs_from ks 0 e.calls) (never_under ks 0 e.calls)))
      ∙ ap (body_ready false ks e (needs_from ks 0 e.calls) look) (sym given_here)
      ∙ sym ((lifted (design_data d) needs are).whole n e (needs_from ks 0 e.calls) look q is
      (ap (λ (ns : List (List Need)). slice_get ns n) are ∙ mapped_at (λ (x : Element). needs_from ks 0 x.calls) d.elements n e is))
