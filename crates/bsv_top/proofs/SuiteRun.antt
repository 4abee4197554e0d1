-- A suite of what was compiled, as an answer.
use Rattle.std.proofs.Common.{◌≡◌, ◌∙◌, inl, inr, ℕ, ◌<◌, false, List, [], ◌∷◌, Contains, refl, sym, subst}
use Rattle.bsv_io.specs.Writing.{Writing}
use Rattle.bsv_io.proofs.Appended.{appended-nil}
use Rattle.bsv_design.specs.declared.design.Design.{Design}
use Rattle.bsv_design.specs.declared.schedule.Schedule.{Schedule}
use Rattle.bsv_design.specs.scheme.Schemes.{AreAlike, Outline, Scheme, design_scheme}
use Rattle.bsv_design.specs.scheme.Seen.{design_data}
use Rattle.bsv_guard.proofs.Alike.{alike_back}
use Rattle.bsv_tree.specs.meaning.Schemes.{tree_scheme}
use Rattle.bsv_tree.specs.tree.Elements.{parts_among}
use Rattle.bsv_tree.specs.tree.Trees.{TreeData}
use Rattle.bsv_clock.specs.Subjects.{Subject, design_subject}
use Rattle.bsv_flow.specs.declared.refusal.Refusal.{Refusal}
use Rattle.bsv_flow.specs.declared.scheduling.Compiled.{Compiled}
use Rattle.bsv_flow.specs.Compilings.{IsCompiled, IsPlanned}
use Rattle.bsv_flow.specs.Schedulings.{subject}
use Rattle.bsv_flow.proofs.Planned.{compiled_planned}
use Rattle.bsv_run.specs.Traces.{HasBadLine, IsClean}
use Rattle.bsv_suite.specs.Lists.{HasBadLineAt, NamesTraces}
use Rattle.bsv_suite.specs.Sections.{IsReported, section_limit}
use Rattle.bsv_suite.specs.Suites.{AreTold, IsSuite, IsSuiteCut, IsSuiteStarted, suite_text}
use Rattle.bsv_suite.specs.Texts.{Told}
use Rattle.bsv_top.specs.declared.status.Status.TheVariants as status
use Rattle.bsv_top.specs.declared.stop.Stop.{Stop}
use Rattle.bsv_top.specs.declared.stop.Stop.TheVariants as stop
use Rattle.bsv_top.specs.Answers as a
use Rattle.bsv_top.specs.Answers.{Answer, Asks, bad_traces_line, list_fault_line, suite_words}
use Rattle.bsv_top.specs.LaidOut.{IsLaidOut}
use Rattle.bsv_top.specs.Outcomes as o
use Rattle.bsv_top.specs.Outcomes.{IsAccepted, IsDoneBy, OutputStarted, StopsSuite}
use Rattle.bsv_top.specs.Stops.{IsStopOf}
use Rattle.bsv_top.proofs.Lifting.{report_same, runs_to}
use Rattle.bsv_top.proofs.SuiteAnswers.{bad_answer, suite_started, told_answer}

-- ---- what is told of a design is told of its tree

module _ (tree : TreeData) (d : Design) (made : Schedule) (al : AreAlike (tree_scheme tree) (design_scheme (design_data d))) (parts : d.parts ≡ parts_among tree.instances) where
  abbrev S : Scheme
  S = tree_scheme tree

  abbrev T : Scheme
  T = design_scheme (design_data d)

  reported_here : (trace text : List ℕ) (bad : ℕ) → IsReported (design_subject d) made trace text bad → IsReported (subject tree) made trace text bad
  reported_here trace text bad (inl h) = inl (record {
    qs = h.qs;
    rows = h.rows;
    clean = subst (λ (os : List Outline). IsClean section_limit os trace h.qs) (sym al.elements) h.clean;
    runs = runs_to false T S made (alike_back S T al) h.qs h.rows h.runs;
    text_is = h.text_is ∙ report_same (design_subject d) (subject tree) parts (sym al.elements) (sym al.kinds) h.rows;
    bad_is = h.bad_is;
  })
  reported_here trace text bad (inr h) = inr (record {
    qs = h.qs;
    rows = h.rows;
    line = subst (λ (os : List Outline). HasBadLine section_limit os trace h.qs) (sym al.elements) h.line;
    runs = runs_to false T S made (alike_back S T al) h.qs h.rows h.runs;
    text_is = h.text_is ∙ report_same (design_subject d) (subject tree) parts (sym al.elements) (sym al.kinds) h.rows;
    bad_is = h.bad_is;
  })

  module _ (contents : List ℕ → List ℕ) where
    told_here : (names : List (List ℕ)) (ts : List Told) → AreTold (design_subject d) made contents names ts → AreTold (subject tree) made contents names ts
    told_here [] [] h = tt
    told_here [] (t ∷ ts) h = absurd h
    told_here (name ∷ names) [] h = absurd h
    told_here (name ∷ names) (t ∷ ts) h = (h.0, reported_here (contents name) t.text t.bad h.1, told_here names ts h.2)

    suite_here : (names : List (List ℕ)) (start w : Writing) (bad : ℕ) → IsSuite (design_subject d) made contents names start w bad → IsSuite (subject tree) made contents names start w bad
    suite_here names start w bad h = record { tolds = h.tolds; told = told_here names h.tolds h.told; put = h.put; bad_is = h.bad_is }

    started_here : (names : List (List ℕ)) (start w : Writing) → IsSuiteStarted (design_subject d) made contents names start w → IsSuiteStarted (subject tree) made contents names start w
    started_here names start w h =
        record { front = h.front; rest = h.rest; tolds = h.tolds; names_are = h.names_are; told = told_here h.front h.tolds h.told; prefix = h.prefix }

    cut_here : (names : List (List ℕ)) (name : List ℕ) (start w : Writing) → IsSuiteCut (design_subject d) made contents names name start w → IsSuiteCut (subject tree) made contents names name start w
    cut_here names name start w h = record {
      groups = h.groups;
      front = h.front;
      rest = h.rest;
      tolds = h.tolds;
      names_are = h.names_are;
      whole = h.whole;
      in_group = h.in_group;
      told = told_here h.front h.tolds h.told;
      put = h.put;
    }

-- ---- what was compiled

module _ (file : List ℕ) (contents : List ℕ → List ℕ) (top list : List ℕ) (c : Compiled) (x : IsCompiled file contents top c) where
  abbrev words : List (List ℕ)
  words = suite_words file top list

  abbrev tree : TreeData
  tree = x.compiled.tree

  abbrev s : Subject
  s = design_subject c.design

  planned : IsPlanned file contents top tree c.schedule
  planned = compiled_planned file contents top c x

  laid : IsLaidOut tree
  laid = record { design = c.design; alike = x.compiled.design.alike }

  -- a line of the list is bad
  pub listed_bad : (w : Writing) (number : ℕ) → HasBadLineAt (contents list) number → IsStopOf words contents w w (stop.BadListLine number)
  listed_bad w number bad = (
    [],
    a.Answer.suite tree c.schedule refl planned laid x.compiled.design.verilog.clocked (a.SuiteAnswer.bad_list number bad),
    sym (appended-nil w),
  )

  -- the list cannot be read
  pub listed_unread : (w : Writing) (name : List ℕ) → name ≡ list → IsStopOf words contents w w (stop.Unread name)
  listed_unread w name is = subst (λ (n : List ℕ). IsStopOf words contents w w (stop.Unread n)) (sym is) (o.FaultText.of_list file top tree c.schedule refl planned)

  pub list_stop : (w : Writing) (t : Stop) → ((number : ℕ) → t ≡ stop.BadListLine number → HasBadLineAt (contents list) number) → ((r : Refusal) → t ≡ stop.Refused r → ⊥)
      → ((number : ℕ) → t ≡ stop.BadLine number → ⊥) → ((count : ℕ) → t ≡ stop.BadTraces count → ⊥) → ((name : List ℕ) → t ≡ stop.Unread name → name ≡ list) → IsStopOf words contents w w t
  list_stop w (stop.Refused r) bad own line counted unread = absurd (own r refl)
  list_stop w (stop.Unread name) bad own line counted unread = listed_unread w name (unread name refl)
  list_stop w stop.Unwritable bad own line counted unread = tt
  list_stop w stop.OutOfMemory bad own line counted unread = tt
  list_stop w (stop.BadLine number) bad own line counted unread = absurd (line number refl)
  list_stop w (stop.BadListLine number) bad own line counted unread = listed_bad w number (bad number refl)
  list_stop w (stop.BadTraces count) bad own line counted unread = absurd (counted count refl)

  module _ (names : List (List ℕ)) (named : NamesTraces (contents list) names) where
    pub suite_done : (w next : Writing) → IsSuite s c.schedule contents names w next 0 → IsDoneBy words contents w next
    suite_done w next h =
        let all = suite_here tree c.design c.schedule x.compiled.design.alike x.compiled.design.parts contents names w next 0 h in
        record {
          accepted = λ f t asked. record { file = file; top = top; asks = Asks.suite list refl; tree = tree; made = c.schedule; planned = planned; laid = laid };
          output = suite_text all.tolds;
          answer = told_answer words contents file top list refl tree c.schedule planned laid names all.tolds named all.told (sym all.bad_is);
          put = all.put;
        }

    suite_bad : (w next : Writing) (count : ℕ) → 0 < count → IsSuite s c.schedule contents names w next count → IsStopOf words contents w next (stop.BadTraces count)
    suite_bad w next count some h =
        let all = suite_here tree c.design c.schedule x.compiled.design.alike x.compiled.design.parts contents names w next count h in (
          suite_text all.tolds,
          subst (λ (n : ℕ). Answer words contents status.TraceFault (suite_text all.tolds) (bad_traces_line n)) (sym all.bad_is)
              (bad_answer words contents file top list refl tree c.schedule planned laid names all.tolds named all.told (subst (λ (n : ℕ). 0 < n) all.bad_is some)),
          all.put,
        )

    pub suite_begun : (w next : Writing) → IsSuiteStarted s c.schedule contents names w next → OutputStarted words contents w next
    suite_begun w next h =
        suite_started words contents file top list refl tree c.schedule planned laid names w next named
        (started_here tree c.design c.schedule x.compiled.design.alike x.compiled.design.parts contents names w next h)

    pub suite_cut : (w next : Writing) (name : List ℕ) → IsSuiteCut s c.schedule contents names name w next → StopsSuite file top list name contents w next
    suite_cut w next name h = record {
      tree = tree;
      made = c.schedule;
      planned = planned;
      names = names;
      named = named;
      cut = cut_here tree c.design c.schedule x.compiled.design.alike x.compiled.design.parts contents names name w next h;
    }

    pub suite_stop : (w next : Writing) (t : Stop) → ((count : ℕ) → t ≡ stop.BadTraces count → (0 < count) × IsSuite s c.schedule contents names w next count)
        → ((r : Refusal) → t ≡ stop.Refused r → ⊥) → ((number : ℕ) → t ≡ stop.BadLine number → ⊥) → ((number : ℕ) → t ≡ stop.BadListLine number → ⊥)
        → ((name : List ℕ) → t ≡ stop.Unread name → Contains names name) → IsStopOf words contents w next t
    suite_stop w next (stop.Refused r) bad own line listed unread = absurd (own r refl)
    suite_stop w next (stop.Unread name) bad own line listed unread = o.FaultText.of_listed file top list names tree c.schedule refl planned named (unread name refl)
    suite_stop w next stop.Unwritable bad own line listed unread = tt
    suite_stop w next stop.OutOfMemory bad own line listed unread = tt
    suite_stop w next (stop.BadLine number) bad own line listed unread = absurd (line number refl)
    suite_stop w next (stop.BadListLine number) bad own line listed unread = absurd (listed number refl)
    suite_stop w next (stop.BadTraces count) bad own line listed unread = suite_bad w next count (bad count refl).0 (bad count refl).1
