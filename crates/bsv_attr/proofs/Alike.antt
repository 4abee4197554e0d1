-- What holds of the attributes of a scheme holds of those of one that does the same.
use Rattle.std.proofs.Common.{◌≡◌, ◌∙◌, ℕ, Bool, true, false, ◌&&◌, [], ◌++◌, map, sym, ap, subst}
use Rattle.std.specs.Prelude.{◌↔◌, slice_get}
use Rattle.bsv_design.specs.declared.schedule.Schedule.{Schedule}
use Rattle.bsv_design.specs.declared.attributes.Attribute.{Attribute}
use Rattle.bsv_design.specs.scheme.Relations.{no_answers}
use Rattle.bsv_design.specs.scheme.Schemes.{Scheme, Asking, Look, AreAlike, answers, filled, given, ports_of, ready, seen, all_hold, all_open}
use Rattle.bsv_design.specs.scheme.Traces.{Trace}
use Rattle.bsv_attr.specs.Asserting.{IsExplicit, IsUnstopped, IsAccepted, NamesImplicit, NamesStopper}
use Rattle.bsv_design.specs.scheme.Traces.{has_name}
use Rattle.bsv_attr.specs.Implicit.{are_implicit, has_guard, IsFirstTrue, NoneTrue}
use Rattle.bsv_schedule.specs.relating.Marks.{IsMarked, IsPaired}
use Rattle.bsv_attr.specs.Obeying.{own, Obeys}
use Rattle.bsv_clock.proofs.Belonging.{fit_alike}
use Rattle.bsv_clock.proofs.HappenAlike.{clock_to, ready_same}
use Rattle.bsv_design.proofs.Elements.{length-filled}

-- ---- readiness

seen_alike : (S T : Scheme) → AreAlike S T → (q : Asking) (n : ℕ) (look : Look) → seen S q n look ≡ seen T q n look
unfolding seen given
seen_alike S T h q n look =
    h.traces n (answers S.kinds look) (given S q n) (length-filled _ _)
    ∙ (ap (λ ks. T.trace n (answers ks look) (given S q n)) h.kinds
    ∙ ap (λ es. T.trace n (answers T.kinds look) (given (record S { elements = es }) q n)) h.elements)

ready_alike : (S T : Scheme) → AreAlike S T → (aggressive : Bool) (q : Asking) (n : ℕ) (look : Look) → ready aggressive S q n look ≡ ready aggressive T q n look
unfolding ready
ready_alike S T h aggressive q n look =
    ap (λ (t : Trace). all_hold aggressive t.demands && all_open aggressive S.kinds look t.sites) (seen_alike S T h q n look)
    ∙ ap (λ ks. all_hold aggressive (seen T q n look).demands && all_open aggressive ks look (seen T q n look).sites) h.kinds

-- ---- the whole

pub obeys_alike : (S T : Scheme) (s : Schedule) → AreAlike S T → Obeys T s → Obeys S s
obeys_alike S T s h o = record {
  descending_urgency = λ a b p. o.descending_urgency a b (paired _ a b p);
  execution_order = λ a b p. o.execution_order a b (paired _ a b p);
  preempts = λ a b p. o.preempts a b (paired _ a b p);
  preempted = λ a b p g q st fired after fit clock.
      o.preempted a b (paired _ a b p) g q st fired after (fit_alike S T h q st fit) (clock_to g S T s q st fired after h clock);
  fires = λ r m g q st fired after fit clock is.
      o.fires r (marked true r m) g q st fired after (fit_alike S T h q st fit) (clock_to g S T s q st fired after h clock)
      (sym (ready_same S T h g q st fired r) ∙ is);
  no_implicit = λ r m aggressive q look. ready_alike S T h aggressive q r look
      ∙ (o.no_implicit r (marked false r m) aggressive q look
      ∙ sym (ap (λ (t : Trace). all_hold aggressive (own t.demands)) (seen_alike S T h q r look)));
} where
  paired : (attribute : Attribute) (a b : ℕ) → IsPaired S.pairs attribute a b → IsPaired T.pairs attribute a b
  paired attribute a b p = subst (λ ps. IsPaired ps attribute a b) h.pairs p

  marked : (fires : Bool) (r : ℕ) → IsMarked S.asserts fires r → IsMarked T.asserts fires r
  marked fires r m = subst (λ ms. IsMarked ms fires r) h.asserts m

-- ---- what is refused

-- the marks and the implicit conditions are the same
record AreMarkedAlike (S T : Scheme) : Type 0 where
  asserts : S.asserts ≡ T.asserts
  implicit : (n : ℕ) → are_implicit S n ≡ are_implicit T n

marked_alike : (S T : Scheme) → AreAlike S T → AreMarkedAlike S T
unfolding are_implicit
marked_alike S T h = record { asserts = h.asserts; implicit = same } where
  run : (n : ℕ) → S.trace n no_answers (filled (ports_of (slice_get S.elements n)) []) ≡ T.trace n no_answers (filled (ports_of (slice_get T.elements n)) [])
  run n = h.traces n no_answers _ (length-filled _ _) ∙ ap (λ es. T.trace n no_answers (filled (ports_of (slice_get es n)) [])) h.elements

  same : (n : ℕ) → are_implicit S n ≡ are_implicit T n
  same n = ap (λ (t : Trace). map has_name t.demands ++ map (has_guard S.kinds) t.sites) (run n)
      ∙ ap (λ ks. let t : Trace = T.trace n no_answers (filled (ports_of (slice_get T.elements n)) []) in map has_name t.demands ++ map (has_guard ks) t.sites) h.kinds

turned : (S T : Scheme) → AreMarkedAlike S T → AreMarkedAlike T S
turned S T h = record { asserts = sym h.asserts; implicit = λ n. sym (h.implicit n) }

module _ (S T : Scheme) (h : AreMarkedAlike S T) where
  mark_to : (fires : Bool) (r : ℕ) → IsMarked S.asserts fires r → IsMarked T.asserts fires r
  mark_to fires r m = subst (λ ms. IsMarked ms fires r) h.asserts m

  mark_from : (fires : Bool) (r : ℕ) → IsMarked T.asserts fires r → IsMarked S.asserts fires r
  mark_from fires r m = subst (λ ms. IsMarked ms fires r) (sym h.asserts) m

  explicit_to : (n : ℕ) → IsExplicit S n → IsExplicit T n
  explicit_to n e m = subst NoneTrue (h.implicit n) (e (mark_from false n m))

  unstopped_to : (s : Schedule) (n : ℕ) → IsUnstopped S s n → IsUnstopped T s n
  unstopped_to s n u m = u (mark_from true n m)

  accepted_to : (s : Schedule) → IsAccepted S s → IsAccepted T s
  accepted_to s acc = (λ n. explicit_to n (acc.0 n), λ n. unstopped_to s n (acc.1 n))

  implicit_to : (r place : ℕ) → NamesImplicit S r place → NamesImplicit T r place
  implicit_to r place i = record {
    marked = mark_to false r i.marked;
    implicit = subst (λ ts. IsFirstTrue ts place) (h.implicit r) i.implicit;
    earlier = λ n less. explicit_to n (i.earlier n less);
  }

  stopper_to : (s : Schedule) (r f : ℕ) → NamesStopper S s r f → NamesStopper T s r f
  stopper_to s r f i = (
    λ n. explicit_to n (i.0 n),
    record { marked = mark_to true r i.1.marked; stopper = i.1.stopper; earlier = λ n less. unstopped_to s n (i.1.earlier n less) },
  )

pub accepted_alike : (S T : Scheme) (s : Schedule) → AreAlike S T → IsAccepted S s ↔ IsAccepted T s
accepted_alike S T s h = let m = marked_alike S T h in (accepted_to S T m s, accepted_to T S (turned S T m) s)

pub implicit_alike : (S T : Scheme) (r place : ℕ) → AreAlike S T → NamesImplicit S r place ↔ NamesImplicit T r place
implicit_alike S T r place h = let m = marked_alike S T h in (implicit_to S T m r place, implicit_to T S (turned S T m) r place)

pub stopper_alike : (S T : Scheme) (s : Schedule) (r f : ℕ) → AreAlike S T → NamesStopper S s r f ↔ NamesStopper T s r f
stopper_alike S T s r f h = let m = marked_alike S T h in (stopper_to S T m s r f, stopper_to T S (turned S T m) s r f)
