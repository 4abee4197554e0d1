-- The marks of a scheme have an answer.
use Rattle.std.proofs.Common.{◌≡◌, ℕ, zero, suc, ◌+◌, ◌<◌, ◌⊎◌, inl, inr, Bool, true, false, List, [], ◌∷◌, refl, sym, ap, subst, arith}
use Rattle.std.specs.Prelude.{slice_get, Some, Result, Ok, Err}
use Rattle.std.proofs.lemmas.Bool.{cases_eq}
use Rattle.std.proofs.lemmas.Option.{same_Some}
use Rattle.bsv_design.specs.declared.schedule.Schedule.{Schedule}
use Rattle.bsv_design.specs.declared.attributes.Assert.{Assert}
use Rattle.bsv_design.specs.scheme.Schemes.{Scheme}
use Rattle.bsv_graph.specs.Orders.{In}
use Rattle.bsv_graph.proofs.Deciding.{Decided, first_with}
use Rattle.bsv_attr.specs.declared.fault.AttrFault.{AttrFault}
use Rattle.bsv_attr.specs.declared.fault.AttrFault.TheVariants.{NoImplicit, FireWhenEnabled}
use Rattle.bsv_attr.specs.Asserting.{IsExplicit, IsUnstopped, AreExplicit, AreUnstopped, NamesImplicit, NamesStopped, IsAnswer}
use Rattle.bsv_attr.specs.Implicit.{are_implicit, NoneTrue, IsFirstTrue}
use Rattle.bsv_schedule.specs.relating.Marks.{IsMarkOf, IsMarked}
use Rattle.bsv_attr.specs.Stopping.{ListStops, NoneStops, IsFirstListed}
use Rattle.bsv_attr.proofs.Asserted.{implicit_never, stopped_never, implicit_one, stopped_one}
use Rattle.bsv_attr.proofs.Stoppers.{stopper_in}
use Rattle.bsv_graph.proofs.Fronts.{is_or_not}

-- ---- marks

decide_kind : (a b : Bool) → Decided (a ≡ b)
decide_kind true true = inl refl
decide_kind true false = inr (λ e. cc)
decide_kind false true = inr (λ e. cc)
decide_kind false false = inl refl

decide_mark : (fires : Bool) (n : ℕ) (mark : Assert) → Decided (IsMarkOf fires n mark)
decide_mark fires n mark = elim (cases_eq mark.rule n) [
  | inl e ↦ elim (decide_kind mark.fires fires) [
    | inl k ↦ inl (record { rule = e; kind = k })
    | inr k ↦ inr (λ h. k h.kind)
  ]
  | inr e ↦ inr (λ h. e h.rule)
]

marked_after : (marks : List Assert) (mark : Assert) (fires : Bool) (n : ℕ) → IsMarked marks fires n → IsMarked (mark ∷ marks) fires n
marked_after marks mark fires n h = record { place = suc h.place; mark = h.mark; at = h.at; is = h.is }

-- an element that is marked has the first mark, or one after it
marked_where : (marks : List Assert) (mark : Assert) (fires : Bool) (n : ℕ) → IsMarked (mark ∷ marks) fires n
    → IsMarkOf fires n mark ⊎ IsMarked marks fires n
marked_where marks mark fires n h = by h.place h.at where
  by : (place : ℕ) → slice_get (mark ∷ marks) place ≡ Some h.mark → IsMarkOf fires n mark ⊎ IsMarked marks fires n
  by zero at = inl (subst (IsMarkOf fires n) (sym (same_Some mark h.mark at)) h.is)
  by (suc place) at = inr (record { place = place; mark = h.mark; at = at; is = h.is })

decide_marked : (marks : List Assert) (fires : Bool) (n : ℕ) → Decided (IsMarked marks fires n)
decide_marked [] fires n = inr (λ h. let e = h.at in cc)
decide_marked (mark ∷ marks) fires n = elim (decide_mark fires n mark) [
  | inl h ↦ inl (record { place = 0; mark = mark; at = refl; is = h })
  | inr f ↦ elim (decide_marked marks fires n) [
    | inl h ↦ inl (marked_after marks mark fires n h)
    | inr g ↦ inr (λ h. elim (marked_where marks mark fires n h) [ inl k ↦ f k | inr k ↦ g k ])
  ]
]

-- the positions of marked elements are below a number
marked_below : (marks : List Assert) → (bound : ℕ) × ((fires : Bool) (n : ℕ) → IsMarked marks fires n → n < bound)
marked_below [] = (0, λ fires n h. let e = h.at in absurd cc)
marked_below (mark ∷ marks) =
    let rest = marked_below marks in (
      suc (mark.rule + rest.0),
      λ fires n h. elim (marked_where marks mark fires n h) [
        | inl k ↦ omega (arith, k.rule)
        | inr k ↦ omega (arith, rest.1 fires n k)
      ],
    )

-- ---- implicit conditions

first_true : (truths : List Bool) → NoneTrue truths ⊎ ((k : ℕ) × IsFirstTrue truths k)
first_true [] = inl (λ j e. cc)
first_true (true ∷ truths) = inr (0, record { at = refl; first = λ j less e. omega (arith, less) })
first_true (false ∷ truths) = elim (first_true truths) [ inl none ↦ inl (none_after none) | inr f ↦ inr (suc f.0, first_after f.0 f.1) ] where
  none_after : NoneTrue truths → NoneTrue (false ∷ truths)
  none_after none zero e = cc
  none_after none (suc j) e = none j e

  first_after : (k : ℕ) → IsFirstTrue truths k → IsFirstTrue (false ∷ truths) (suc k)
  first_after k f = record { at = f.at; first = before } where
    before : (j : ℕ) → j < suc k → slice_get (false ∷ truths) j ≡ Some true → ⊥
    before zero less e = cc
    before (suc j) less e = f.first j (omega (arith, less)) e

-- ---- stoppers

decide_stops : (lists : List (List ℕ)) (f r : ℕ) → Decided (ListStops lists f r)
decide_stops [] f r = inr (λ h. let e = h.at in cc)
decide_stops (xs ∷ lists) zero r = elim (is_or_not xs r) [
  | inl i ↦ inl (record { stopped = xs; at = refl; has = i })
  | inr n ↦ inr (λ h. n (subst (λ ys. In ys r) (sym (same_Some xs h.stopped h.at)) h.has))
]
decide_stops (xs ∷ lists) (suc f) r = elim (decide_stops lists f r) [
  | inl h ↦ inl (record { stopped = h.stopped; at = h.at; has = h.has })
  | inr n ↦ inr (λ h. n (record { stopped = h.stopped; at = h.at; has = h.has }))
]

first_stopper : (urgency : List ℕ) (lists : List (List ℕ)) (r : ℕ) → NoneStops urgency lists r ⊎ ((f : ℕ) × IsFirstListed urgency lists r f)
first_stopper [] lists r = inl (λ f i h. i)
first_stopper (u ∷ urgency) lists r = elim (decide_stops lists u r) [
  | inl h ↦ inr (u, record { before = []; behind = urgency; split = refl; stops = h; first = λ g i k. i })
  | inr n ↦ elim (first_stopper urgency lists r) [
    | inl none ↦ inl (λ f i h. elim i [ inl e ↦ n (subst (λ g. ListStops lists g r) e h) | inr j ↦ none f j h ])
    | inr x ↦ inr (
      x.0,
      record {
        before = u ∷ x.1.before;
        behind = x.1.behind;
        split = ap (λ us. u ∷ us) x.1.split;
        stops = x.1.stops;
        first = λ g i k. elim i [ inl e ↦ n (subst (λ f. ListStops lists f r) e k) | inr j ↦ x.1.first g j k ];
      },
    )
  ]
]

-- ---- the answer

module _ (S : Scheme) (s : Schedule) where
  abbrev HasImplicit : ℕ → Type 0
  HasImplicit n = IsMarked S.asserts false n × ((k : ℕ) × IsFirstTrue (are_implicit S n) k)

  decide_implicit : (n : ℕ) → Decided (HasImplicit n)
  decide_implicit n = elim (decide_marked S.asserts false n) [
    | inl m ↦ elim (first_true (are_implicit S n)) [
      | inl none ↦ inr (λ h. none h.1.0 h.1.1.at)
      | inr f ↦ inl (m, f)
    ]
    | inr f ↦ inr (λ h. f h.0)
  ]

  explicit_unless : (n : ℕ) → ¬ HasImplicit n → IsExplicit S n
  explicit_unless n f m = elim (first_true (are_implicit S n)) [ inl none ↦ none | inr k ↦ absurd (f (m, k)) ]

  explicit_or_named : AreExplicit S ⊎ ((r : ℕ) × (place : ℕ) × NamesImplicit S r place)
  explicit_or_named =
      let bound = marked_below S.asserts in
      elim (first_with HasImplicit decide_implicit bound.0) [
        | inl none ↦ inl (λ n m. explicit_unless n (none n (bound.1 false n m)) m)
        | inr x ↦ inr (
          x.0,
          x.1.holds.1.0,
          record { marked = x.1.holds.0; implicit = x.1.holds.1.1; earlier = λ n less. explicit_unless n (x.1.lower n less) },
        )
      ]

  abbrev IsStopped : ℕ → Type 0
  IsStopped n = IsMarked S.asserts true n × ((f : ℕ) × IsFirstListed s.urgency s.stops n f)

  decide_stopped : (n : ℕ) → Decided (IsStopped n)
  decide_stopped n = elim (decide_marked S.asserts true n) [
    | inl m ↦ elim (first_stopper s.urgency s.stops n) [
      | inl none ↦ inr (λ h. stops_not none h.1.0 h.1.1)
      | inr f ↦ inl (m, f)
    ]
    | inr f ↦ inr (λ h. f h.0)
  ] where
    stops_not : NoneStops s.urgency s.stops n → (f : ℕ) → IsFirstListed s.urgency s.stops n f → ⊥
    stops_not none f h = none f (stopper_in s.urgency s.stops n f h) h.stops

  unstopped_unless : (n : ℕ) → ¬ IsStopped n → IsUnstopped S s n
  unstopped_unless n f m = elim (first_stopper s.urgency s.stops n) [ inl none ↦ none | inr k ↦ absurd (f (m, k)) ]

  unstopped_or_named : AreUnstopped S s ⊎ ((r : ℕ) × (f : ℕ) × NamesStopped S s r f)
  unstopped_or_named =
      let bound = marked_below S.asserts in
      elim (first_with IsStopped decide_stopped bound.0) [
        | inl none ↦ inl (λ n m. unstopped_unless n (none n (bound.1 true n m)) m)
        | inr x ↦ inr (
          x.0,
          x.1.holds.1.0,
          record { marked = x.1.holds.0; stopper = x.1.holds.1.1; earlier = λ n less. unstopped_unless n (x.1.lower n less) },
        )
      ]

  pub some : (answer : Result (Unit {0}) AttrFault) × IsAnswer S s answer
  some = elim explicit_or_named [
    | inl e ↦ elim unstopped_or_named [
      | inl u ↦ (Ok tt, (e, u))
      | inr x ↦ (Err (FireWhenEnabled x.0 x.1), (e, x.2))
    ]
    | inr x ↦ (Err (NoImplicit x.0 x.1), x.2)
  ]

  pub one : (x y : Result (Unit {0}) AttrFault) → IsAnswer S s x → IsAnswer S s y → x ≡ y
  one (Ok x) (Ok y) h k = refl
  one (Ok x) (Err (NoImplicit q j)) h k = absurd (implicit_never S q j h.0 k)
  one (Ok x) (Err (FireWhenEnabled q g)) h k = absurd (stopped_never S s q g h.1 k.1)
  one (Err (NoImplicit r i)) (Ok y) h k = absurd (implicit_never S r i k.0 h)
  one (Err (NoImplicit r i)) (Err (NoImplicit q j)) h k = ap Err (implicit_one S r i q j h k)
  one (Err (NoImplicit r i)) (Err (FireWhenEnabled q g)) h k = absurd (implicit_never S r i k.0 h)
  one (Err (FireWhenEnabled r f)) (Ok y) h k = absurd (stopped_never S s r f k.1 h.1)
  one (Err (FireWhenEnabled r f)) (Err (NoImplicit q j)) h k = absurd (implicit_never S q j h.0 k)
  one (Err (FireWhenEnabled r f)) (Err (FireWhenEnabled q g)) h k = ap Err (stopped_one S s r f q g h.1 k.1)
