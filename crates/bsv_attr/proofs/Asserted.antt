-- At most one answer is told.
use Rattle.std.proofs.Common.{◌≡◌, ℕ, ◌<◌, refl, ap, subst, ◌⊎◌, inl, inr}
use Rattle.std.specs.Prelude.{◌↔◌, Result, Ok, Err, IsOk, MatchResult}
use Rattle.std.proofs.lemmas.Bool.{cases_order}
use Rattle.bsv_design.specs.declared.schedule.Schedule.{Schedule}
use Rattle.bsv_design.specs.scheme.Schemes.{Scheme}
use Rattle.bsv_attr.specs.declared.fault.AttrFault.{AttrFault}
use Rattle.bsv_attr.specs.declared.fault.AttrFault.TheVariants.{NoImplicit, FireWhenEnabled}
use Rattle.bsv_attr.specs.Asserting.{AreExplicit, AreUnstopped, IsAccepted, NamesImplicit, NamesStopped, NamesStopper, TellsStopper}
use Rattle.bsv_attr.specs.Implicit.{are_implicit, IsFirstTrue}
use Rattle.bsv_attr.specs.Stopping.{IsFirstListed}
use Rattle.bsv_attr.proofs.Stoppers.{stopper_in, stopper_one}
use Rattle.bsv_attr.proofs.Truths.{first_one}

abbrev pub Answer : Type 0
Answer = Result (Unit {0}) AttrFault

pub implicit_never : (S : Scheme) (r k : ℕ) → AreExplicit S → NamesImplicit S r k → ⊥
implicit_never S r k e h = e r h.marked k h.implicit.at

pub stopped_never : (S : Scheme) (s : Schedule) (r f : ℕ) → AreUnstopped S s → NamesStopped S s r f → ⊥
stopped_never S s r f u h = u r h.marked f (stopper_in s.urgency s.stops r f h.stopper) h.stopper.stops

pub implicit_one : (S : Scheme) (r k q j : ℕ) → NamesImplicit S r k → NamesImplicit S q j → NoImplicit r k ≡ NoImplicit q j
implicit_one S r k q j h g = of (cases_order r q) where
  of : (r ≡ q) ⊎ ((r < q) ⊎ (q < r)) → NoImplicit r k ≡ NoImplicit q j
  of (inl e) =
      let same : k ≡ j = first_one (are_implicit S q) k j (subst (λ n. IsFirstTrue (are_implicit S n) k) e h.implicit) g.implicit in
      cc
  of (inr (inl less)) = absurd (g.earlier r less h.marked k h.implicit.at)
  of (inr (inr more)) = absurd (h.earlier q more g.marked j g.implicit.at)

pub stopped_one : (S : Scheme) (s : Schedule) (r f q g : ℕ) → NamesStopped S s r f → NamesStopped S s q g → FireWhenEnabled r f ≡ FireWhenEnabled q g
stopped_one S s r f q g h k = of (cases_order r q) where
  of : (r ≡ q) ⊎ ((r < q) ⊎ (q < r)) → FireWhenEnabled r f ≡ FireWhenEnabled q g
  of (inl e) =
      let same : f ≡ g = stopper_one s.urgency s.stops q f g (subst (λ n. IsFirstListed s.urgency s.stops n f) e h.stopper) k.stopper in
      cc
  of (inr (inl less)) = absurd (k.earlier r less h.marked f (stopper_in s.urgency s.stops r f h.stopper) h.stopper.stops)
  of (inr (inr more)) = absurd (h.earlier q more k.marked g (stopper_in s.urgency s.stops q g k.stopper) k.stopper.stops)

module _ (S : Scheme) (s : Schedule) where
  pub open_accepted : (u : Answer) → AreExplicit S → MatchResult u (λ _. AreUnstopped S s) (TellsStopper S s) → IsOk u → IsAccepted S s
  open_accepted (Ok x) e h ok = (e, h)
  open_accepted (Err a) e h ok = absurd cc

  pub accepted_open : (u : Answer) → MatchResult u (λ _. AreUnstopped S s) (TellsStopper S s) → IsAccepted S s → IsOk u
  accepted_open (Ok x) h acc = refl
  accepted_open (Err (NoImplicit r k)) h acc = absurd h
  accepted_open (Err (FireWhenEnabled r f)) h acc = absurd (stopped_never S s r f acc.1 h)

  pub open_stopper : (u : Answer) (r f : ℕ) → MatchResult u (λ _. AreUnstopped S s) (TellsStopper S s) → u ≡ Err (FireWhenEnabled r f) → NamesStopped S s r f
  open_stopper (Ok x) r f h is = absurd cc
  open_stopper (Err (NoImplicit q j)) r f h is = absurd h
  open_stopper (Err (FireWhenEnabled q g)) r f h is =
      let rule : q ≡ r = cc in
      let one : g ≡ f = cc in
      subst (λ n. NamesStopped S s n f) rule (subst (NamesStopped S s q) one h)

  pub stopper_open : (u : Answer) (r f : ℕ) → MatchResult u (λ _. AreUnstopped S s) (TellsStopper S s) → NamesStopped S s r f → u ≡ Err (FireWhenEnabled r f)
  stopper_open (Ok x) r f h g = absurd (stopped_never S s r f h g)
  stopper_open (Err (NoImplicit q j)) r f h g = absurd h
  stopper_open (Err (FireWhenEnabled q j)) r f h g = ap Err (stopped_one S s q j r f h g)

-- ---- where no implicit condition is refused, all is as the other attribute tells

pub accepted_where : (S : Scheme) (s : Schedule) (u : Answer) → AreExplicit S → MatchResult u (λ _. AreUnstopped S s) (TellsStopper S s) → IsOk u ↔ IsAccepted S s
accepted_where S s u e h = (open_accepted S s u e h, accepted_open S s u h)

pub stopped_where : (S : Scheme) (s : Schedule) (u : Answer) (r f : ℕ) → AreExplicit S → MatchResult u (λ _. AreUnstopped S s) (TellsStopper S s)
    → (u ≡ Err (FireWhenEnabled r f)) ↔ NamesStopper S s r f
stopped_where S s u r f e h = (λ is. (e, open_stopper S s u r f h is), λ g. stopper_open S s u r f h g.1)
