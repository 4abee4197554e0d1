-- What the methods of an element look at where the more urgent elements are decided: what they look at in the clock.
use Rattle.std.proofs.Common.{◌≡◌, ◌∙◌, ℕ, ◌+◌, ◌<◌, Bool, true, false, cond, List, [], ◌∷◌, ◌++◌, Option, Some, None, refl, sym, ap, subst, length, inl, inr}
use Rattle.std.specs.Prelude.{slice_get, ◌==◌}
use Rattle.std.specs.List.{AllByRecursion}
use Rattle.std.proofs.lemmas.Bool.{eqb-true}
use Rattle.std.proofs.lemmas.Option.{slice_get_within}
use Rattle.bsv_lemmas.proofs.Places.{all_from}
use Rattle.bsv_prim.specs.Calls as prim
use Rattle.bsv_prim.specs.Calls.{IsOrderly}
use Rattle.bsv_prim.specs.Table.{Table, Call}
use Rattle.bsv_prim.specs.declared.part.Part.{Part}
use Rattle.bsv_design.specs.declared.kind.Kind.{Kind}
use Rattle.bsv_design.specs.declared.schedule.Schedule.{Schedule}
use Rattle.bsv_design.specs.design.Bodies.{Target}
use Rattle.bsv_design.specs.parts.Kinds.{kind_table}
use Rattle.bsv_design.specs.scheme.Relations.{is_seen}
use Rattle.bsv_design.specs.scheme.Schemes.{Scheme, Called}
use Rattle.bsv_design.specs.scheme.States.{FitsKinds, emptied, part_at}
use Rattle.bsv_design.specs.scheme.Traces.{acts, kind_at}
use Rattle.bsv_graph.specs.Orders.{In}
use Rattle.bsv_guard.specs.ElementLaws.{IsUse}
use Rattle.bsv_guard.specs.Fitting.{IsFitCall, IsMethodOf}
use Rattle.bsv_guard.specs.Turns.{calls_on}
use Rattle.bsv_guard.proofs.Turns.{sound_turns, all_on, fits_at}
use Rattle.bsv_clock.specs.Clocks.{is_in}
use Rattle.bsv_clock.specs.Feeding.{IsFed}
use Rattle.bsv_clock.specs.Grounds.{IsLawful, IsScheduleOf}
use Rattle.bsv_clock.specs.Looks.{look_after, seen_by}
use Rattle.bsv_clock.specs.Settling.{Doing, DoesWithin, deed, deeds, look_of}
use Rattle.bsv_clock.proofs.CallLists.{all_append, all_map, seen_on}
use Rattle.bsv_clock.proofs.Settle.{same_seen}
use Rattle.bsv_clock.proofs.Steadily.{emptied_fits}
use Rattle.bsv_serial.specs.declared.calls_made.MadeCall.{MadeCall}
use Rattle.bsv_serial.specs.CallsMade.{as_calls}
use Rattle.bsv_serial.specs.Sights.{AreMethods, CanBeApplied, CanLook, CanLookAt, MayLook, after_seen, look_with, part_after}
use Rattle.bsv_serial.proofs.Joining.{made_on}
use Rattle.bsv_serial.proofs.DecidedFront.{so_far, so_far_within, alike_before, below}
use Rattle.bsv_serial.proofs.Tagged.{as_calls_tagged, tagged, tagged_on}
use Rattle.bsv_serial.specs.Making.{made_at}

-- ---- lists

-- orderly calls of methods that act can be applied one after the other
pub orderly_applied : (t : Table) (p : Part) (cs : List Call) → IsOrderly t p cs → AllByRecursion (λ c. t.is_action c.method ≡ true) cs → CanBeApplied t p cs
orderly_applied t p [] h a = tt
orderly_applied t p (c ∷ cs) h a = (h.0, a.0, h.1, orderly_applied t (prim.after_call t p c) cs h.3 a.1)

split_all : {X : Type 0} (P : X → Type 0) (xs ys : List X) → AllByRecursion P (xs ++ ys) → AllByRecursion P xs × AllByRecursion P ys
split_all P [] ys h = (tt, h)
split_all P (x ∷ xs) ys h = let r = split_all P xs ys h.1 in ((h.0, r.0), r.1)

of_deed : (P : Called → Type 0) (D : Doing) (ns : List ℕ) → AllByRecursion P (deeds D ns) → (n : ℕ) → In ns n → AllByRecursion P (deed (D n))
unfolding deeds
of_deed P D [] h n k = absurd k
of_deed P D (m ∷ ns) h n (inl e) = subst (λ (x : ℕ). AllByRecursion P (deed (D x))) (sym e) (split_all P (deed (D m)) (deeds D ns) h).0
of_deed P D (m ∷ ns) h n (inr k) = of_deed P D ns (split_all P (deed (D m)) (deeds D ns) h).1 n k

so_far_deed : (P : Called → Type 0) (D : Doing) (us : List ℕ) (n : ℕ) → AllByRecursion P (deed (D n)) → AllByRecursion P (deed (so_far D us n))
so_far_deed P D us n h = cases (is_in us n)
  where
    cases : (b : Bool) → AllByRecursion P (deed (cond b (D n) None))
    cases true = h
    cases false = tt

kept_filter : (P : Called → Type 0) (ks : List Kind) (t : Target) (cs : List Called) → AllByRecursion P cs → AllByRecursion P (seen_by ks t cs)
unfolding seen_by
kept_filter P ks t [] h = tt
kept_filter P ks t (c ∷ cs) h = cases (is_seen ks c.target t) (kept_filter P ks t cs h.1)
  where
    cases : (b : Bool) → AllByRecursion P (seen_by ks t cs) → AllByRecursion P (cond b (c ∷ seen_by ks t cs) (seen_by ks t cs))
    cases true e = (h.0, e)
    cases false e = e

-- ---- methods of a part

module _ (ks : List Kind) (i : ℕ) (kind : Kind) (is : slice_get ks i ≡ Some kind) where
  abbrev FitHere : Called → Type 0
  FitHere c = IsFitCall (kind_at ks c.target) c.target.method c.arguments

  a_method : (c : Called) → FitHere c → c.target.part ≡ i → c.target.method < (kind_table kind).methods
  a_method c f e =
      let there : kind_at ks c.target ≡ Some kind = ap (slice_get ks) e ∙ is in
      (subst (λ (o : Option Kind). IsFitCall o c.target.method c.arguments) there f).method

  on_methods : (place : ℕ) (cs : List Called) → AllByRecursion FitHere cs → AreMethods kind (tagged_on ks i place cs)
  on_methods place [] h = tt
  on_methods place (c ∷ cs) h = cases (c.target.part == i) refl (on_methods place cs h.1)
    where
      cases : (b : Bool) → (c.target.part == i) ≡ b → AreMethods kind (tagged_on ks i place cs) → AreMethods kind (cond b (made_at ks place c ∷ tagged_on ks i place cs) (tagged_on ks i place cs))
      cases true e r = (a_method c h.0 (eqb-true c.target.part i e), r)
      cases false e r = r

  tagged_methods : (D : Doing) (place : ℕ) (ns : List ℕ) → ((n : ℕ) → In ns n → AllByRecursion FitHere (deed (D n))) → AreMethods kind (tagged ks i D place ns)
  tagged_methods D place [] h = tt
  tagged_methods D place (n ∷ ns) h =
      all_append (λ c. c.method < (kind_table kind).methods) (tagged_on ks i place (deed (D n))) (tagged ks i D (place + 1) ns)
      (on_methods place (deed (D n)) (h n (inl refl))) (tagged_methods D (place + 1) ns (λ m k. h m (inr k)))

-- ---- in a clock

module _ (S : Scheme) (made : Schedule) (lawful : IsLawful S) (scheduled : IsScheduleOf S made) (s : List Part) (parts : FitsKinds S.kinds s) (D : Doing) (within : DoesWithin S D) (fed : IsFed S made s D)
    (us rest : List ℕ) (n : ℕ) (split : made.urgency ≡ us ++ n ∷ rest)
    (lists : List (List MadeCall)) (are : (i : ℕ) → i < length S.kinds → made_on lists i ≡ tagged S.kinds i (so_far D us) 0 made.execution) where
  abbrev start : List Part
  start = emptied S.kinds s

  start_fits : FitsKinds S.kinds start
  start_fits = emptied_fits S.kinds s parts

  abbrev all : List Called
  all = deeds D made.execution

  abbrev some : List Called
  some = deeds (so_far D us) made.execution

  module _ (t : Target) (u : IsUse S n t) (kind : Kind) (is : kind_at S.kinds t ≡ Some kind) where
    part_there : t.part < length S.kinds
    part_there = slice_get_within S.kinds t.part kind is

    sees : seen_by S.kinds t some ≡ seen_by S.kinds t all
    sees =
        same_seen S made scheduled (so_far D us) D n (below S made lawful scheduled D within us rest n split) (so_far_within S made lawful scheduled D within us) within
        (alike_before S made lawful scheduled D within us rest n split) t u

    -- what it sees of the calls made so far is what it sees of all
    seen_calls : prim.seen_by (kind_table kind) t.method (as_calls (made_on lists t.part)) ≡ calls_on t.part (seen_by S.kinds t all)
    seen_calls =
        ap (prim.seen_by (kind_table kind) t.method) (ap as_calls_fn (are t.part part_there) ∙ as_calls_tagged S.kinds t.part (so_far D us) 0 made.execution)
        ∙ sym (seen_on S.kinds t kind is some) ∙ ap (calls_on t.part) sees
      where
        as_calls_fn : List MadeCall → List Call
        as_calls_fn cs = as_calls cs

    pub look_here : look_with S.kinds start lists t ≡ look_of S made s D t
    unfolding look_with after_seen look_of look_after
    look_here =
        ap (λ (o : Option Kind). part_after o t.method (part_at start t.part) (made_on lists t.part)) is
        ∙ ap (prim.after_calls (kind_table kind) (part_at start t.part)) seen_calls
        ∙ sym ((sound_turns S lawful.sound lawful.fitting).each_part start start_fits (seen_by S.kinds t all) t.part kind is)

    acting_on : AllByRecursion (λ c. (kind_table kind).is_action c.method ≡ true) (calls_on t.part (seen_by S.kinds t all))
    acting_on =
        all_on (λ c. (kind_table kind).is_action c.method ≡ true) t.part (seen_by S.kinds t all)
        (all_map (λ c. acts (kind_at S.kinds c.target) c.target.method ≡ true) (λ c. c.target.part ≡ t.part → (kind_table kind).is_action c.target.method ≡ true)
        (λ c a e. sym (ap (λ (o : Option Kind). acts o c.target.method) (ap (slice_get S.kinds) e ∙ is)) ∙ a) (seen_by S.kinds t all)
        (kept_filter (λ c. acts (kind_at S.kinds c.target) c.target.method ≡ true) S.kinds t all (all_from (λ c. acts (kind_at S.kinds c.target) c.target.method ≡ true) all fed.acting)))

    fit_calls : (m : ℕ) → In made.execution m → AllByRecursion (FitHere S.kinds t.part kind is) (deed (so_far D us m))
    fit_calls m k =
        so_far_deed (FitHere S.kinds t.part kind is) D us m
        (of_deed (FitHere S.kinds t.part kind is) D made.execution (all_from (FitHere S.kinds t.part kind is) all fed.fitting) m k)

    can_look : t.method < (kind_table kind).methods → CanLook kind t.method (part_at start t.part) (made_on lists t.part)
    can_look method = record {
      method = method;
      part = fits_at S.kinds start start_fits t.part kind is;
      methods = subst (AreMethods kind) (sym (are t.part part_there)) (tagged_methods S.kinds t.part kind is (so_far D us) 0 made.execution fit_calls);
      calls = subst (CanBeApplied (kind_table kind) (part_at start t.part)) (sym seen_calls)
          (orderly_applied (kind_table kind) (part_at start t.part) (calls_on t.part (seen_by S.kinds t all)) (fed.seen_orderly t kind is) acting_on);
    }

  kind_there : (t : Target) → IsUse S n t → (kind : Kind) × (kind_at S.kinds t ≡ Some kind) × (t.method < (kind_table kind).methods)
  kind_there t u = cases (kind_at S.kinds t) refl (lawful.fitting.methods n t u)
    where
      cases : (o : Option Kind) → kind_at S.kinds t ≡ o → IsMethodOf o t.method → (kind : Kind) × (kind_at S.kinds t ≡ Some kind) × (t.method < (kind_table kind).methods)
      cases None e m = absurd m
      cases (Some kind) e m = (kind, e, m)

  pub same_look_here : (t : Target) → IsUse S n t → look_with S.kinds start lists t ≡ look_of S made s D t
  same_look_here t u = let k = kind_there t u in look_here t u k.0 k.1

  pub can_look_here : length start ≡ length S.kinds → (t : Target) → IsUse S n t → CanLookAt S.kinds start lists t
  can_look_here long t u =
      let k = kind_there t u in
      record {
        there = subst (λ (m : ℕ). t.part < m) (sym long) (part_there t u k.0 k.1);
        may = subst (λ (o : Option Kind). MayLook o t.method (part_at start t.part) (made_on lists t.part)) (sym k.1) (can_look t u k.0 k.1 k.2);
      }
