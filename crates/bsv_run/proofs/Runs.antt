-- Runs that go on, and their reports.
use Rattle.std.proofs.Common.{◌≡◌, ℕ, suc, ◌+◌, Bool, List, [], ◌∷◌, ◌++◌, length, refl, sym, ap, ◌∙◌, subst, arith, append_assoc, append-nil}
use Rattle.bsv_prim.specs.declared.part.Part.{Part}
use Rattle.bsv_design.specs.declared.schedule.Schedule.{Schedule}
use Rattle.bsv_design.specs.scheme.Schemes.{Scheme, Asking}
use Rattle.bsv_design.specs.scheme.States.{opening}
use Rattle.bsv_io.specs.Writing.{Writing, appended, AppendsPrefix}
use Rattle.bsv_io.proofs.Appended.{AppendsPrefix-more, appended-append, prefix_after}
use Rattle.bsv_trace.specs.Texts.{clock_text, opening_text}
use Rattle.bsv_clock.specs.Runs.{Row, Continues}
use Rattle.bsv_clock.specs.Subjects.{Subject, element_name}
use Rattle.bsv_run.specs.Reports.{report, clocks_text, state_after}

-- ---- runs

module _ (aggressive : Bool) (S : Scheme) (made : Schedule) where
  -- a run, and another one from the state after it
  pub continues_append : (s : List Part) (qs rs : List Asking) (rows more : List Row) → Continues aggressive S made s qs rows
      → Continues aggressive S made (state_after s rows) rs more → Continues aggressive S made s (qs ++ rs) (rows ++ more)
  continues_append s [] rs [] more h g = g
  continues_append s [] rs (row ∷ rows) more h g = absurd h
  continues_append s (q ∷ qs) rs [] more h g = absurd h
  continues_append s (q ∷ qs) rs (row ∷ rows) more h g = (h.0, continues_append row.after qs rs rows more h.1 g)

  -- there is a clock for each request
  pub rows_long : (s : List Part) (qs : List Asking) (rows : List Row) → Continues aggressive S made s qs rows → length rows ≡ length qs
  rows_long s [] [] h = refl
  rows_long s [] (row ∷ rows) h = absurd h
  rows_long s (q ∷ qs) [] h = absurd h
  rows_long s (q ∷ qs) (row ∷ rows) h = ap suc (rows_long row.after qs rows h.1)

pub state_append : (s : List Part) (rows more : List Row) → state_after s (rows ++ more) ≡ state_after (state_after s rows) more
state_append s [] more = refl
state_append s (row ∷ rows) more = state_append row.after rows more

-- ---- reports

module _ (s : Subject) where
  abbrev pub text_of_clock : ℕ → Row → List ℕ
  text_of_clock number row = clock_text (element_name s.scheme) number row.fired s.parts row.after

  clocks_append : (number : ℕ) (rows more : List Row) → clocks_text s number (rows ++ more) ≡ clocks_text s number rows ++ clocks_text s (number + length rows) more
  clocks_append number [] more = ap (λ (n : ℕ). clocks_text s n more) (let same : number ≡ number + 0 = omega arith in same)
  clocks_append number (row ∷ rows) more =
      ap (λ (t : List ℕ). text_of_clock number row ++ t)
      (clocks_append (number + 1) rows more ∙ ap (λ (n : ℕ). clocks_text s (number + 1) rows ++ clocks_text s n more) (let same : (number + 1) + length rows ≡ number + suc (length rows) = omega arith in same))
      ∙ sym (append_assoc (text_of_clock number row) (clocks_text s (number + 1) rows) (clocks_text s (number + suc (length rows)) more))

  abbrev opening_lines : List ℕ
  opening_lines = opening_text s.parts (opening s.scheme.kinds)

  -- the report of a run that goes on
  pub report_append : (rows more : List Row) → report s (rows ++ more) ≡ report s rows ++ clocks_text s (1 + length rows) more
  unfolding report
  report_append rows more =
      ap (λ (t : List ℕ). opening_lines ++ t) (clocks_append 1 rows more) ∙ sym (append_assoc opening_lines (clocks_text s 1 rows) (clocks_text s (1 + length rows) more))

  -- by one clock
  pub report_clock : (rows : List Row) (row : Row) (number : ℕ) → number ≡ length rows + 1 → report s (rows ++ row ∷ []) ≡ report s rows ++ text_of_clock number row
  report_clock rows row number is =
      report_append rows (row ∷ [])
      ∙ ap (λ (t : List ℕ). report s rows ++ t) (append-nil (text_of_clock (1 + length rows) row))
      ∙ ap (λ (n : ℕ). report s rows ++ text_of_clock n row) (let same : 1 + length rows ≡ number = omega (arith, is) in same)

  -- the report of no clock
  pub report_none : report s [] ≡ opening_text s.parts (opening s.scheme.kinds)
  unfolding report
  report_none = append-nil opening_lines

  -- a prefix of a report is one of the report of a run that goes on
  pub started_further : (rows more : List Row) (start w : Writing) → AppendsPrefix (report s rows) start w → AppendsPrefix (report s (rows ++ more)) start w
  started_further rows more start w h =
      subst (λ (t : List ℕ). AppendsPrefix t start w) (sym (report_append rows more)) (AppendsPrefix-more (report s rows) (clocks_text s (1 + length rows) more) start w h)

  -- a clock more is put
  pub put_clock : (rows : List Row) (row : Row) (number : ℕ) (start w next : Writing) → number ≡ length rows + 1 → w ≡ appended (report s rows) start
      → next ≡ appended (text_of_clock number row) w → next ≡ appended (report s (rows ++ row ∷ [])) start
  put_clock rows row number start w next is put this =
      this ∙ ap (appended (text_of_clock number row)) put ∙ sym (appended-append (report s rows) (text_of_clock number row) start)
      ∙ ap (λ (t : List ℕ). appended t start) (sym (report_clock rows row number is))

  -- or a prefix of it
  pub started_clock : (rows : List Row) (row : Row) (number : ℕ) (start w next : Writing) → number ≡ length rows + 1 → w ≡ appended (report s rows) start
      → AppendsPrefix (text_of_clock number row) w next → AppendsPrefix (report s (rows ++ row ∷ [])) start next
  started_clock rows row number start w next is put this =
      subst (λ (t : List ℕ). AppendsPrefix t start next) (sym (report_clock rows row number is)) (prefix_after (report s rows) (text_of_clock number row) start w next put this)
