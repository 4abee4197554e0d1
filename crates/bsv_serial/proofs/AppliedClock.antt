-- The calls of the clock can be applied to the parts, and the parts after them are those after the clock.
use Rattle.std.proofs.Common.{◌≡◌, ◌∙◌, ℕ, zero, suc, ◌<◌, true, List, [], ◌∷◌, Option, Some, refl, sym, ap, ap₂, subst, arith, length}
use Rattle.std.specs.Prelude.{slice_get}
use Rattle.std.specs.List.{AllByRecursion}
use Rattle.std.proofs.lemmas.Option.{slice_get_within}
use Rattle.bsv_lemmas.proofs.Places.{all_from}
use Rattle.bsv_prim.specs.Calls as prim
use Rattle.bsv_prim.specs.Table.{Call}
use Rattle.bsv_prim.specs.declared.part.Part.{Part}
use Rattle.bsv_design.specs.declared.kind.Kind.{Kind}
use Rattle.bsv_design.specs.declared.schedule.Schedule.{Schedule}
use Rattle.bsv_design.specs.parts.Kinds.{kind_table}
use Rattle.bsv_design.specs.scheme.Schemes.{Scheme}
use Rattle.bsv_design.specs.scheme.States.{FitsKinds, emptied, part_at}
use Rattle.bsv_design.specs.scheme.Traces.{acts}
use Rattle.bsv_guard.specs.Turns.{calls_on}
use Rattle.bsv_guard.proofs.Turns.{sound_turns, all_on, fits_at, length-parts}
use Rattle.bsv_clock.specs.Feeding.{IsFed}
use Rattle.bsv_clock.specs.Grounds.{IsLawful}
use Rattle.bsv_clock.specs.Settling.{Doing, deeds, end_of}
use Rattle.bsv_clock.proofs.CallLists.{all_map}
use Rattle.bsv_clock.proofs.Steadily.{emptied_fits}
use Rattle.bsv_serial.specs.declared.calls_made.MadeCall.{MadeCall}
use Rattle.bsv_serial.specs.Applying.{AllCanTake, CanTake, all_after, behind}
use Rattle.bsv_serial.specs.CallsMade.{as_calls}
use Rattle.bsv_serial.specs.Sights.{CanBeApplied}
use Rattle.bsv_serial.proofs.Joining.{made_on}
use Rattle.bsv_serial.proofs.LookingSoFar.{orderly_applied}
use Rattle.bsv_serial.proofs.Tagged.{as_calls_tagged, tagged}

-- ---- lists, item by item

pub take_all : (ks : List Kind) (ps : List Part) (ms : List (List MadeCall)) → length ps ≡ length ks → length ms ≡ length ks
    → ((i : ℕ) (k : Kind) → slice_get ks i ≡ Some k → CanTake k (part_at ps i) (made_on ms i)) → AllCanTake ks ps ms
take_all [] [] [] l m h = tt
take_all [] [] (cs ∷ ms) l m h = absurd (let z : ⊥ = omega arith in z)
take_all [] (p ∷ ps) ms l m h = absurd (let z : ⊥ = omega arith in z)
take_all (k ∷ ks) [] ms l m h = absurd (let z : ⊥ = omega arith in z)
take_all (k ∷ ks) (p ∷ ps) [] l m h = absurd (let z : ⊥ = omega arith in z)
take_all (k ∷ ks) (p ∷ ps) (cs ∷ ms) l m h = (h zero k refl, take_all ks ps ms (omega arith) (omega arith) (λ i kind e. h (suc i) kind e))

pub after_all : (ks : List Kind) (ps es : List Part) (ms : List (List MadeCall)) → length ps ≡ length ks → length es ≡ length ks → length ms ≡ length ks
    → ((i : ℕ) (k : Kind) → slice_get ks i ≡ Some k → behind k (part_at ps i) (made_on ms i) ≡ part_at es i) → all_after ks ps ms ≡ es
after_all [] [] [] ms l e m h = refl
after_all [] [] (x ∷ es) ms l e m h = absurd (let z : ⊥ = omega arith in z)
after_all [] (p ∷ ps) es ms l e m h = absurd (let z : ⊥ = omega arith in z)
after_all (k ∷ ks) [] es ms l e m h = absurd (let z : ⊥ = omega arith in z)
after_all (k ∷ ks) (p ∷ ps) [] ms l e m h = absurd (let z : ⊥ = omega arith in z)
after_all (k ∷ ks) (p ∷ ps) (x ∷ es) [] l e m h = absurd (let z : ⊥ = omega arith in z)
after_all (k ∷ ks) (p ∷ ps) (x ∷ es) (cs ∷ ms) l e m h =
    ap₂ (λ (y : Part) (ys : List Part). y ∷ ys) (h zero k refl) (after_all ks ps es ms (omega arith) (omega arith) (omega arith) (λ i kind f. h (suc i) kind f))

-- ---- in a clock

module _ (S : Scheme) (made : Schedule) (lawful : IsLawful S) (s : List Part) (parts : FitsKinds S.kinds s) (D : Doing) (fed : IsFed S made s D)
    (lists : List (List MadeCall)) (count : length lists ≡ length S.kinds) (are : (i : ℕ) → i < length S.kinds → made_on lists i ≡ tagged S.kinds i D 0 made.execution) where
  abbrev start : List Part
  start = emptied S.kinds s

  start_fits : FitsKinds S.kinds start
  start_fits = emptied_fits S.kinds s parts

  module _ (i : ℕ) (kind : Kind) (is : slice_get S.kinds i ≡ Some kind) where
    all_calls : as_calls (made_on lists i) ≡ calls_on i (deeds D made.execution)
    all_calls = ap as_calls_fn (are i (slice_get_within S.kinds i kind is)) ∙ as_calls_tagged S.kinds i D 0 made.execution
      where
        as_calls_fn : List MadeCall → List Call
        as_calls_fn cs = as_calls cs

    acting : AllByRecursion (λ c. (kind_table kind).is_action c.method ≡ true) (calls_on i (deeds D made.execution))
    acting =
        all_on (λ c. (kind_table kind).is_action c.method ≡ true) i (deeds D made.execution)
        (all_map (λ c. acts (slice_get S.kinds c.target.part) c.target.method ≡ true) (λ c. c.target.part ≡ i → (kind_table kind).is_action c.target.method ≡ true)
        (λ c a e. sym (ap (λ (o : Option Kind). acts o c.target.method) (ap (slice_get S.kinds) e ∙ is)) ∙ a) (deeds D made.execution)
        (all_from (λ c. acts (slice_get S.kinds c.target.part) c.target.method ≡ true) (deeds D made.execution) fed.acting))

    one_takes : CanTake kind (part_at start i) (made_on lists i)
    one_takes = record {
      part = fits_at S.kinds start start_fits i kind is;
      calls = subst (CanBeApplied (kind_table kind) (part_at start i)) (sym all_calls)
          (orderly_applied (kind_table kind) (part_at start i) (calls_on i (deeds D made.execution)) (fed.orderly i kind is) acting);
    }

    one_after : behind kind (part_at start i) (made_on lists i) ≡ part_at (end_of S made s D) i
    unfolding end_of
    one_after =
        ap (prim.after_calls (kind_table kind) (part_at start i)) all_calls
        ∙ sym ((sound_turns S lawful.sound lawful.fitting).each_part start start_fits (deeds D made.execution) i kind is)

  pub clock_takes : AllCanTake S.kinds start lists
  clock_takes = take_all S.kinds start lists (length-parts S.kinds start start_fits) count one_takes

  pub clock_after : all_after S.kinds start lists ≡ end_of S made s D
  clock_after =
      after_all S.kinds start (end_of S made s D) lists (length-parts S.kinds start start_fits) (length-parts S.kinds (end_of S made s D) fed.end_fits) count one_after
