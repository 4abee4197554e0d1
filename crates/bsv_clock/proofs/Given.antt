-- What the parts are given in a clock that has settled and can be run.
use Rattle.std.proofs.Common.{◌≡◌, ◌∙◌, ℕ, Bool, true, false, cond, not, ◌&&◌, List, [], ◌∷◌, Option, Some, None, refl, sym, ap, subst}
use Rattle.std.specs.Prelude.{slice_get}
use Rattle.std.specs.List.{AllByRecursion}
use Rattle.std.proofs.lemmas.Bool.{and_parts}
use Rattle.bsv_lemmas.proofs.Places.{all_at, all_from}
use Rattle.bsv_prim.specs.Calls as prim
use Rattle.bsv_prim.specs.Calls.{IsOrderly, IsReady}
use Rattle.bsv_prim.specs.Table.{Call}
use Rattle.bsv_prim.specs.declared.part.Part.{Part}
use Rattle.bsv_prim.proofs.Orderly.{fits_after}
use Rattle.bsv_prim.proofs.Parallel.{seen_is_orderly}
use Rattle.bsv_prim.proofs.Seen.{sees_nothing}
use Rattle.bsv_design.specs.declared.kind.Kind.{Kind}
use Rattle.bsv_design.specs.declared.schedule.Schedule.{Schedule}
use Rattle.bsv_design.specs.design.Bodies.{Target}
use Rattle.bsv_design.specs.parts.Kinds.{kind_table, kind_laws}
use Rattle.bsv_design.specs.scheme.Schemes.{Scheme, Asking, Called, is_open, guard_of, ready, calls}
use Rattle.bsv_design.specs.scheme.Serial.{Serial, run_whole, by_rank, done, turn}
use Rattle.bsv_design.specs.scheme.States.{FitsKinds, emptied, part_at, plain}
use Rattle.bsv_design.specs.scheme.Traces.{acts, kind_at}
use Rattle.bsv_guard.specs.ElementLaws.{call_of}
use Rattle.bsv_guard.specs.Fitting.{IsFitCall}
use Rattle.bsv_guard.specs.Turns.{calls_on}
use Rattle.bsv_guard.proofs.Ranks.{all_by_rank}
use Rattle.bsv_clock.specs.Clocks.{may_fire}
use Rattle.bsv_clock.specs.Feeding.{IsFed}
use Rattle.bsv_clock.specs.Grounds.{Fit, IsLawful}
use Rattle.bsv_clock.specs.Looks.{calls_in_turn, look_after}
use Rattle.bsv_clock.specs.Settling.{Doing, IsSettled, decide, deed, deeds, end_of, fired_in, is_stopped, look_of}
use Rattle.bsv_clock.specs.Steadiness.{GoInOrder}
use Rattle.bsv_clock.proofs.CallLists.{all_append, all_map, seen_on}
use Rattle.bsv_clock.proofs.InTurn.{laws, turns, one_fits, run_fits, run_orderly}
use Rattle.bsv_clock.proofs.Steadily.{emptied_fits, fits, looked_at}
use Rattle.bsv_guard.proofs.Turns.{all_on, fits_at}

-- the elements that fire can be run one after the other, each goes before each later one, and they make these calls
pub record CanBeRun (aggressive : Bool) (S : Scheme) (made : Schedule) (q : Asking) (s : List Part) (D : Doing) : Type 0 where
  pub serial : Serial aggressive S q (emptied S.kinds s) (fired_in made D) (end_of S made s D)
  pub go : GoInOrder S (fired_in made D)
  pub calls : calls_in_turn S q (emptied S.kinds s) (fired_in made D) ≡ deeds D made.execution

-- a fact of the calls of each element is one of all calls
pub all_deeds : (P : Called → Type 0) (D : Doing) → ((n : ℕ) → AllByRecursion P (deed (D n))) → (ns : List ℕ) → AllByRecursion P (deeds D ns)
unfolding deeds
all_deeds P D h [] = tt
all_deeds P D h (n ∷ ns) = all_append P (deed (D n)) (deeds D ns) (h n) (all_deeds P D h ns)

module _ (g : Bool) (S : Scheme) (made : Schedule) (q : Asking) (s : List Part) (ok : IsLawful S) (fit : Fit S q s) (D : Doing) (settled : IsSettled g S made q s D) (run : CanBeRun g S made q s D) where
  abbrev start : List Part
  start = emptied S.kinds s

  start_fits : FitsKinds S.kinds start
  start_fits = emptied_fits S.kinds s fit.parts

  abbrev all : List Called
  all = deeds D made.execution

  -- ---- what each element does

  of_element : (P : Called → Type 0) (n : ℕ) → (ready g S q n (look_of S made s D) ≡ true → (k : ℕ) (c : Called) → slice_get (calls S q n (look_of S made s D)) k ≡ Some c → P c)
      → AllByRecursion P (deed (D n))
  unfolding decide
  of_element P n h =
      subst (λ d. AllByRecursion P (deed d)) (sym (settled n))
      (cases (may_fire S q n && ready g S q n (look_of S made s D) && not (is_stopped made D n)) refl)
    where
      does : List Called
      does = by_rank S.kinds (calls S q n (look_of S made s D))

      cases : (b : Bool) → (may_fire S q n && ready g S q n (look_of S made s D) && not (is_stopped made D n)) ≡ b → AllByRecursion P (deed (cond b (Some does) None))
      cases true e =
          let r = (and_parts (may_fire S q n) (ready g S q n (look_of S made s D)) (and_parts (may_fire S q n && ready g S q n (look_of S made s D)) (not (is_stopped made D n)) e).0).1 in
          all_by_rank S.kinds P (calls S q n (look_of S made s D)) (all_from P (calls S q n (look_of S made s D)) (h r))
      cases false e = tt

  acting : AllByRecursion (λ c. acts (kind_at S.kinds c.target) c.target.method ≡ true) all
  acting =
      all_deeds (λ c. acts (kind_at S.kinds c.target) c.target.method ≡ true) D
      (λ n. of_element (λ c. acts (kind_at S.kinds c.target) c.target.method ≡ true) n
      (λ r k c e. ((laws S ok g q fit.requests).within q n (look_of S made s D) k c e).1)) made.execution

  open_calls : AllByRecursion (λ c. is_open S.kinds (look_of S made s D) c.target ≡ true) all
  open_calls =
      all_deeds (λ c. is_open S.kinds (look_of S made s D) c.target ≡ true) D
      (λ n. of_element (λ c. is_open S.kinds (look_of S made s D) c.target ≡ true) n
      (λ r. (laws S ok g q fit.requests).open_calls g q n (look_of S made s D) r)) made.execution

  -- ---- arguments

  abbrev FitCall : Called → Type 0
  FitCall c = IsFitCall (kind_at S.kinds c.target) c.target.method c.arguments

  made_fit : {ps end : List Part} {ns : List ℕ} → FitsKinds S.kinds ps → Serial g S q ps ns end → AllByRecursion FitCall (calls_in_turn S q ps ns)
  made_fit h done = tt
  made_fit {ps = ps} h (turn {n = n} {ns = ns} r fresh rest) =
      all_append FitCall (made_in n ps) (calls_in_turn S q (run_whole S q n ps) ns)
      (all_by_rank S.kinds FitCall (calls S q n (plain ps))
      (all_from FitCall (calls S q n (plain ps)) ((fits S ok g q fit.requests).made_fit q n (plain ps) (fit.requests n) ((turns S ok g q fit.requests).plain_fits ps h))))
      (made_fit (one_fits S ok g q fit.requests n ps h r) rest)
    where
      made_in : ℕ → List Part → List Called
      made_in n ps = by_rank S.kinds (calls S q n (plain ps))

  fitting : AllByRecursion FitCall all
  fitting = subst (AllByRecursion FitCall) run.calls (made_fit start_fits run.serial)

  -- ---- parts

  orderly : (i : ℕ) (kind : Kind) → slice_get S.kinds i ≡ Some kind → IsOrderly (kind_table kind) (part_at start i) (calls_on i all)
  orderly i kind is =
      subst (λ cs. IsOrderly (kind_table kind) (part_at start i) (calls_on i cs)) run.calls
      (run_orderly S ok g q fit.requests i kind is start_fits run.serial run.go)

  module _ (t : Target) (kind : Kind) (is : kind_at S.kinds t ≡ Some kind) where
    abbrev here : List Call
    here = calls_on t.part all

    -- a call that a method sees looks at the part as it is at the clock's start, and is ready there
    seen_ready : (c : Called) → is_open S.kinds (look_of S made s D) c.target ≡ true → c.target.part ≡ t.part → (kind_table kind).sees c.target.method t.method ≡ true
        → IsReady (kind_table kind) (part_at start t.part) (call_of c)
    unfolding look_of
    seen_ready c o p e =
        let there : kind_at S.kinds c.target ≡ Some kind = ap (slice_get S.kinds) p ∙ is in
        let look : look_after S.kinds start all c.target ≡ part_at start t.part =
        looked_at S ok g q fit.requests start start_fits all c.target kind there
        ∙ ap (prim.after_calls (kind_table kind) (part_at start c.target.part)) (sees_nothing (kind_table kind) c.target.method (λ k. (kind_laws kind).table.seen_sees_none k c.target.method t.method e) (calls_on c.target.part all))
        ∙ ap (part_at start) p in
        ap ((kind_table kind).guard c.target.method) (sym look)
        ∙ sym (ap (λ (k : Option Kind). guard_of k c.target.method (look_after S.kinds start all c.target)) there) ∙ o

    seen_in_order : IsOrderly (kind_table kind) (part_at start t.part) (prim.seen_by (kind_table kind) t.method here)
    seen_in_order =
        seen_is_orderly (kind_table kind) (kind_laws kind) t.method (part_at start t.part) here (fits_at S.kinds start start_fits t.part kind is) (orderly t.part kind is)
        (all_on (λ c. (kind_table kind).sees c.method t.method ≡ true → IsReady (kind_table kind) (part_at start t.part) c) t.part all
        (all_map (λ c. is_open S.kinds (look_of S made s D) c.target ≡ true) (λ c. c.target.part ≡ t.part → (kind_table kind).sees c.target.method t.method ≡ true → IsReady (kind_table kind) (part_at start t.part) (call_of c))
        (λ c o p e. seen_ready c o p e) all open_calls))

    part_in_look : (kind_table kind).Fits (look_of S made s D t)
    unfolding look_of
    part_in_look =
        subst (kind_table kind).Fits (sym (looked_at S ok g q fit.requests start start_fits all t kind is))
        (fits_after (kind_table kind) (kind_laws kind) (part_at start t.part) (prim.seen_by (kind_table kind) t.method here) (fits_at S.kinds start start_fits t.part kind is) seen_in_order)

  pub given : IsFed S made s D
  given = record {
    orderly = orderly;
    seen_orderly = λ t kind is. subst (IsOrderly (kind_table kind) (part_at start t.part)) (sym (seen_on S.kinds t kind is all)) (seen_in_order t kind is);
    acting = all_at (λ c. acts (kind_at S.kinds c.target) c.target.method ≡ true) all acting;
    fitting = all_at FitCall all fitting;
    open_in_look = all_at (λ c. is_open S.kinds (look_of S made s D) c.target ≡ true) all open_calls;
    look_fits = λ n m k e. part_in_look (record { part = n; method = m }) k e;
    end_fits = run_fits S ok g q fit.requests start_fits run.serial;
  }
