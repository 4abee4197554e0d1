-- What sections are made from: the traces with their places, what a sink holds after a report, and what each worker gives.
use Rattle.std.proofs.Common.{◌≡◌, ◌∙◌, ℕ, suc, ◌+◌, ◌<◌, inl, inr, List, [], ◌∷◌, length, map, Err, Ok, refl, sym, ap, subst, arith}
use Rattle.std.proofs.lemmas.List.{length-map}
use Rattle.std.proofs.lemmas.Option.{same_Some}
use Rattle.std.specs.Prelude.{Result, IfOk, slice_index_or}
use Rattle.bsv_bits.specs.declared.memory.OutOfMemory.{OutOfMemory}
use Rattle.bsv_design.specs.declared.schedule.Schedule.{Schedule}
use Rattle.bsv_clock.specs.Subjects.{Subject}
use Rattle.bsv_io.specs.InMemory.{GrowTarget, grow_writing}
use Rattle.bsv_io.specs.Writing.{Writing, appended}
use Rattle.bsv_run.specs.Running.{IsDone, IsFaulty}
use Rattle.bsv_suite.specs.declared.sections.Job.{Job}
use Rattle.bsv_suite.specs.declared.sections.Section.{Section}
use Rattle.bsv_suite.specs.declared.sections.Trace.{Trace}
use Rattle.bsv_suite.specs.Sections.{AreSections, IsReported, IsSection, section_limit}

-- ---- what a sink holds

abbrev pub nothing_put : GrowTarget
nothing_put = record { bytes = []; faults = 0 }

text_put : (t : GrowTarget) (text : List ℕ) → grow_writing t ≡ appended text (grow_writing nothing_put) → t.bytes ≡ text
text_put t text e = same_Some t.bytes text (ap (λ (w : Writing). w.bytes) e)

module _ (s : Subject) (made : Schedule) (trace : List ℕ) (t : GrowTarget) where
  pub whole_reported : IsDone section_limit s made (grow_writing nothing_put) trace (grow_writing t) → IsReported s made trace t.bytes 0
  whole_reported done = inl (record {
    qs = done.qs;
    rows = done.rows;
    clean = done.clean;
    runs = done.runs;
    text_is = text_put t _ done.put;
    bad_is = refl;
  })

  pub cut_reported : (number : ℕ) → IsFaulty section_limit s made (grow_writing nothing_put) trace (grow_writing t) number → IsReported s made trace t.bytes number
  cut_reported number faulty = inr (record {
    qs = faulty.qs;
    rows = faulty.rows;
    line = faulty.bad;
    runs = faulty.runs;
    text_is = text_put t _ faulty.put;
    bad_is = faulty.number_is;
  })

-- ---- what the workers give

abbrev results_of : List Section → List (Result Section OutOfMemory)
results_of xs = map Ok xs

as_many : (xs : List Section) → length (results_of xs) ≡ length xs
as_many xs = length-map xs Ok

shorter : (jobs : List Job) (results : List (Result Section OutOfMemory)) (x : Section) (xs : List Section) → length jobs + 1 ≡ length results
    → length results ≡ length xs + 1 → length jobs ≡ length (results_of xs)
shorter jobs results x xs long more = omega (arith, long, more, as_many xs)

module _ (s : Subject) (made : Schedule) where
  sections_of : (jobs : List Job) (results : List (Result Section OutOfMemory)) (xs : List Section) → results ≡ map Ok xs → length jobs ≡ length results
      → ((i : ℕ) (j : Job) (r : Result Section OutOfMemory) → i < length jobs → IfOk (slice_index_or results i r) (IsSection s made (slice_index_or jobs i j).trace))
      → AreSections s made (map (λ j. j.trace) jobs) xs
  sections_of [] results [] is long each = tt
  sections_of [] results (x ∷ xs) is long each =
      let more : length results ≡ length (x ∷ xs) = ap length is ∙ as_many (x ∷ xs) in
      absurd (omega (arith, long, more))
  sections_of (j ∷ jobs) results [] is long each =
      let none : length results ≡ 0 = ap length is in
      absurd (omega (arith, long, none))
  sections_of (j ∷ jobs) results (x ∷ xs) is long each = (
    subst (λ rs. IfOk (slice_index_or rs 0 (Ok x)) (IsSection s made j.trace)) is (each 0 j (Ok x) (omega arith)),
    sections_of jobs (map Ok xs) xs refl (shorter jobs results x xs (omega (arith, long)) (omega (arith, ap length is, as_many xs)))
        (λ i k r below. subst (λ rs. IfOk (slice_index_or rs (suc i) r) (IsSection s made (slice_index_or jobs i k).trace)) is (each (suc i) k r (omega (arith, below)))),
  )

  -- all of it, where each worker gives the section of its own job
  pub sections_made : {V E : Type 0} (items : V → List Section) (found : Result V E) (traces : List Trace) (jobs : List Job)
      (results : List (Result Section OutOfMemory)) → traces ≡ map (λ j. j.trace) jobs → length jobs ≡ length results
      → ((i : ℕ) (j : Job) (r : Result Section OutOfMemory) → i < length jobs → IfOk (slice_index_or results i r) (IsSection s made (slice_index_or jobs i j).trace))
      → IfOk found (λ v. results ≡ map Ok (items v)) → IfOk found (λ v. AreSections s made traces (items v))
  sections_made items (Err e) traces jobs results are long each h = h
  sections_made items (Ok v) traces jobs results are long each h =
      subst (λ ts. AreSections s made ts (items v)) (sym are) (sections_of jobs results (items v) h long each)
