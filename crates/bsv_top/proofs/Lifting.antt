-- What is run of a design is run of its tree.
use Rattle.std.specs.Prelude.{slice_get}
use Rattle.bsv_io.specs.Reading.{Current}
use Rattle.std.proofs.Common.{◌≡◌, ◌∙◌, ℕ, ◌+◌, Bool, false, Option, None, Some, List, [], ◌∷◌, ◌++◌, refl, sym, ap, ap₂, subst}
use Rattle.bsv_prim.specs.declared.part.Part.{Part}
use Rattle.bsv_design.specs.declared.design.Design.{Design}
use Rattle.bsv_design.specs.declared.design.NamedPart.{NamedPart}
use Rattle.bsv_design.specs.declared.kind.Kind.{Kind}
use Rattle.bsv_design.specs.declared.schedule.Schedule.{Schedule}
use Rattle.bsv_design.specs.scheme.Schemes.{Scheme, Asking, Outline, AreAlike, design_scheme}
use Rattle.bsv_tree.specs.meaning.Schemes.{tree_scheme}
use Rattle.bsv_design.specs.scheme.Seen.{design_data}
use Rattle.bsv_tree.specs.tree.Elements.{parts_among}
use Rattle.bsv_design.specs.scheme.States.{opening}
use Rattle.bsv_tree.specs.tree.Trees.{TreeData}
use Rattle.bsv_io.specs.Writing.{Writing, appended, AppendsPrefix}
use Rattle.bsv_trace.specs.Texts.{clock_text, opening_text}
use Rattle.bsv_clock.specs.Runs.{Row, Continues, Runs}
use Rattle.bsv_clock.proofs.HappenAlike.{happens_to}
use Rattle.bsv_clock.specs.Subjects.{Subject, design_subject, outline_name}
use Rattle.bsv_guard.proofs.Alike.{alike_back}
use Rattle.bsv_flow.specs.Schedulings.{subject}
use Rattle.bsv_run.specs.Reports.{report, clocks_text}
use Rattle.bsv_run.specs.Interrupted.{IsInterrupted, IsReportTo}
use Rattle.bsv_run.specs.Running.{IsStarted, IsDone, IsFaulty}
use Rattle.bsv_run.specs.Traces.{AreAsked, IsClean, HasBadLine}
use Rattle.bsv_top.specs.Traces.{trace_limit}

-- ---- reports

-- the names of outlines
abbrev named : List Outline → ℕ → List ℕ
named os n = outline_name (slice_get os n)

module _ (s t : Subject) (parts : s.parts ≡ t.parts) (elements : s.scheme.elements ≡ t.scheme.elements) where
  clocks_same : (number : ℕ) (rows : List Row) → clocks_text s number rows ≡ clocks_text t number rows
  clocks_same number [] = refl
  clocks_same number (row ∷ rows) =
      ap₂ (λ (a b : List ℕ). a ++ b)
      (ap (λ (os : List Outline). clock_text (named os) number row.fired s.parts row.after) elements
      ∙ ap (λ (ps : List NamedPart). clock_text (named t.scheme.elements) number row.fired ps row.after) parts)
      (clocks_same (number + 1) rows)

  pub report_same : s.scheme.kinds ≡ t.scheme.kinds → (rows : List Row) → report s rows ≡ report t rows
  unfolding report
  report_same kinds rows =
      ap₂ (λ (a b : List ℕ). a ++ b)
      (ap (λ (ps : List NamedPart). opening_text ps (opening s.scheme.kinds)) parts ∙ ap (λ (ks : List Kind). opening_text t.parts (opening ks)) kinds)
      (clocks_same 1 rows)

-- ---- runs

continues_to : (g : Bool) (S T : Scheme) (made : Schedule) → AreAlike S T → (s : List Part) (qs : List Asking) (rows : List Row) → Continues g S made s qs rows → Continues g T made s qs rows
continues_to g S T made al s [] [] h = tt
continues_to g S T made al s [] (row ∷ rows) h = absurd h
continues_to g S T made al s (q ∷ qs) [] h = absurd h
continues_to g S T made al s (q ∷ qs) (row ∷ rows) h = (happens_to g S T made q s row.fired row.after al h.0, continues_to g S T made al row.after qs rows h.1)

pub runs_to : (g : Bool) (S T : Scheme) (made : Schedule) → AreAlike S T → (qs : List Asking) (rows : List Row) → Runs g S made qs rows → Runs g T made qs rows
runs_to g S T made al qs rows h =
    continues_to g S T made al (opening T.kinds) qs rows (subst (λ (ks : List Kind). Continues g S made (opening ks) qs rows) al.kinds h)

-- ---- a design and its tree

module _ (tree : TreeData) (d : Design) (made : Schedule) (al : AreAlike (tree_scheme tree) (design_scheme (design_data d))) (parts : d.parts ≡ parts_among tree.instances)
    (start : Writing) (trace : List ℕ) (w : Writing) where
  abbrev S : Scheme
  S = tree_scheme tree

  abbrev T : Scheme
  T = design_scheme (design_data d)

  report_here : (rows : List Row) → report (design_subject d) rows ≡ report (subject tree) rows
  report_here rows = report_same (design_subject d) (subject tree) parts (sym al.elements) (sym al.kinds) rows

  runs_here : (qs : List Asking) (rows : List Row) → Runs false T made qs rows → Runs false S made qs rows
  runs_here qs rows h = runs_to false T S made (alike_back S T al) qs rows h

  pub done_here : IsDone trace_limit (design_subject d) made start trace w → IsDone trace_limit (subject tree) made start trace w
  done_here h = record {
    qs = h.qs;
    rows = h.rows;
    clean = subst (λ (os : List Outline). IsClean trace_limit os trace h.qs) (sym al.elements) h.clean;
    runs = runs_here h.qs h.rows h.runs;
    put = h.put ∙ ap (λ (t : List ℕ). appended t start) (report_here h.rows);
  }

  pub faulty_here : (number : ℕ) → IsFaulty trace_limit (design_subject d) made start trace w number → IsFaulty trace_limit (subject tree) made start trace w number
  faulty_here number h = record {
    qs = h.qs;
    rows = h.rows;
    bad = subst (λ (os : List Outline). HasBadLine trace_limit os trace h.qs) (sym al.elements) h.bad;
    runs = runs_here h.qs h.rows h.runs;
    number_is = h.number_is;
    put = h.put ∙ ap (λ (t : List ℕ). appended t start) (report_here h.rows);
  }

  report_to : (place : ℕ) → IsReportTo trace_limit (design_subject d) made start trace place w → IsReportTo trace_limit (subject tree) made start trace place w
  report_to place h = record {
    front = h.front;
    rest = h.rest;
    qs = h.qs;
    rows = h.rows;
    lines = h.lines;
    before = h.before;
    unended = h.unended;
    asked = subst (λ (os : List Outline). AreAsked trace_limit os 0 h.front h.qs) (sym al.elements) h.asked;
    runs = runs_here h.qs h.rows h.runs;
    put = h.put ∙ ap (λ (t : List ℕ). appended t start) (report_here h.rows);
  }

  pub interrupted_here : (at : Option Current) → IsInterrupted trace_limit (design_subject d) made start trace at w → IsInterrupted trace_limit (subject tree) made start trace at w
  interrupted_here None h = h
  interrupted_here (Some at) h = report_to at.place h

  pub started_here : IsStarted trace_limit (design_subject d) made start trace w → IsStarted trace_limit (subject tree) made start trace w
  started_here h = record {
    front = h.front;
    rest = h.rest;
    qs = h.qs;
    rows = h.rows;
    lines = h.lines;
    asked = subst (λ (os : List Outline). AreAsked trace_limit os 0 h.front h.qs) (sym al.elements) h.asked;
    runs = runs_here h.qs h.rows h.runs;
    prefix = subst (λ (t : List ℕ). AppendsPrefix t start w) (report_here h.rows) h.prefix;
  }
