-- Two answers to one input are one: they have one status, one output but for words that ask for Verilog, and one fault text but
-- for the place of a `Syntax`.
use Rattle.std.proofs.Common.{◌≡◌, ◌∙◌, ◌⊎◌, inl, inr, ℕ, ◌+◌, false, List, [], length, refl, sym, ap, subst}
use Rattle.bsv_design.specs.declared.schedule.Schedule.{Schedule}
use Rattle.bsv_design.specs.scheme.Schemes.{Asking}
use Rattle.bsv_tree.specs.meaning.Schemes.{tree_scheme}
use Rattle.bsv_tree.specs.tree.Trees.{TreeData}
use Rattle.bsv_trace.specs.Lines.{AreMethods}
use Rattle.bsv_clock.specs.Runs.{Row, Runs}
use Rattle.bsv_vtext.specs.Signals.{VModuleData}
use Rattle.bsv_vtext.specs.VText.{vtext}
use Rattle.bsv_flow.specs.declared.loading.Loaded.{Loaded}
use Rattle.bsv_flow.specs.declared.refusal.Refusal.{Refusal}
use Rattle.bsv_flow.specs.Buildings.{IsBuilt, Rejects}
use Rattle.bsv_flow.specs.Clocked.{IsWellClocked}
use Rattle.bsv_flow.specs.Compilings.{IsPlanned}
use Rattle.bsv_flow.specs.Refusals.{refusal_line}
use Rattle.bsv_flow.specs.Schedulings.{IsVerilogOf, subject}
use Rattle.bsv_flow.proofs.Planned.{one_tree_planned, one_made_planned}
use Rattle.bsv_flow.proofs.Trees as trees
use Rattle.bsv_top.specs.declared.form.Product.TheVariants as product
use Rattle.bsv_top.specs.declared.status.Status.{Status}
use Rattle.bsv_top.specs.declared.status.Status.TheVariants as status
use Rattle.bsv_top.specs.Answers as a
use Rattle.bsv_top.specs.Answers.{Answer, Asks, HasNoForm, MadeAnswer, IsNoProgram, SuiteAnswer, schedule_words, sim_words, suite_words, verilog_words, printed, no_memory_line, trace_fault_line, usage_line}
use Rattle.bsv_top.specs.LaidOut.{IsLaidOut}
use Rattle.bsv_top.specs.Made.{IsMade}
use Rattle.bsv_top.specs.OneAnswer.{AsksNoVerilog, IsSameText}
use Rattle.bsv_run.specs.Reports.{report}
use Rattle.bsv_run.specs.Traces.{lines_of}
use Rattle.bsv_top.specs.Traces.{IsClean, HasBadLine, trace_limit}
use Rattle.bsv_run.proofs.Asked.{asked_once, bad_once, not_both}
use Rattle.bsv_top.proofs.Decides.{not_refused, not_other}
use Rattle.bsv_top.proofs.Grounds as grounds
use Rattle.bsv_top.proofs.MadeOnce.{made_once}
use Rattle.bsv_top.proofs.SameReports.{runs_same}
use Rattle.bsv_top.proofs.SuiteOnce.{suite_once}
use Rattle.bsv_top.proofs.Spelled.{forms_apart, made_asks, products_apart, runs_apart, same_asked, same_list, same_sim, same_size, suites_apart}

-- ---- two answers say the same

pub record SameAnswer (words : List (List ℕ)) (s s' : Status) (output more text said : List ℕ) : Type 0 where
  pub status_is : s ≡ s'
  pub output_is : AsksNoVerilog words → output ≡ more
  pub text_is : IsSameText text said

equal_text : (text said : List ℕ) → text ≡ said → IsSameText text said
equal_text text said e = subst (λ (t : List ℕ). IsSameText text t) e IsSameText.equal

-- ---- what an answer tells of a form

module _ (words : List (List ℕ)) (contents : List ℕ → List ℕ) (file top : List ℕ) where
  abbrev Accepted : TreeData → Schedule → Type 0
  Accepted tree made = IsPlanned file contents top tree made

  abbrev Clean : TreeData → List ℕ → List Asking → Type 0
  Clean tree trace qs = IsClean (tree_scheme tree).elements (contents trace) qs

  abbrev Bad : TreeData → List ℕ → List Asking → Type 0
  Bad tree trace qs = HasBadLine (tree_scheme tree).elements (contents trace) qs

  data Tells : Status → List ℕ → List ℕ → Type 0 where
    refused : (r : Refusal) → Rejects file contents top r → Tells status.Refused [] (refusal_line r)
    no_program : (l : Loaded) → IsBuilt file contents top l → IsNoProgram l → Tells status.OutOfMemory [] no_memory_line
    scheduled : (tree : TreeData) (made : Schedule) → words ≡ schedule_words file top → Accepted tree made → Tells status.Done (printed tree made) []
    written : (tree : TreeData) (made : Schedule) (v : VModuleData) → words ≡ verilog_words file top → Accepted tree made → IsVerilogOf tree made v → Tells status.Done (vtext v) []
    done : (trace : List ℕ) (tree : TreeData) (made : Schedule) (qs : List Asking) (rows : List Row) → words ≡ sim_words file top trace → Accepted tree made → IsLaidOut tree
        → IsWellClocked (tree_scheme tree) made → Clean tree trace qs → Runs false (tree_scheme tree) made qs rows → Tells status.Done (report (subject tree) rows) []
    trace_fault : (trace : List ℕ) (tree : TreeData) (made : Schedule) (qs : List Asking) (rows : List Row) → words ≡ sim_words file top trace → Accepted tree made → IsLaidOut tree
        → IsWellClocked (tree_scheme tree) made → Bad tree trace qs → Runs false (tree_scheme tree) made qs rows → Tells status.TraceFault (report (subject tree) rows) (trace_fault_line (length qs + 1))
    suite : {s : Status} {output text : List ℕ} (list : List ℕ) (tree : TreeData) (made : Schedule) → words ≡ suite_words file top list → Accepted tree made → IsLaidOut tree
        → IsWellClocked (tree_scheme tree) made → SuiteAnswer (subject tree) made contents (contents list) s output text → Tells s output text

  apart : {A : Type 0} (r : Refusal) (l : Loaded) → Rejects file contents top r → IsBuilt file contents top l → A
  apart r l h built = absurd (trees.apart file contents top l r built h)

  -- two runs of one tree
  module _ (tree : TreeData) (made : Schedule) (planned : Accepted tree made) (laid : IsLaidOut tree) where
    methods : AreMethods (tree_scheme tree).elements
    methods = grounds.methods_here tree made laid.design laid.alike planned.planned.scheduled

    done_same : (trace : List ℕ) (qs rs : List Asking) (rows others : List Row) → Clean tree trace qs → Clean tree trace rs
        → Runs false (tree_scheme tree) made qs rows → Runs false (tree_scheme tree) made rs others → report (subject tree) rows ≡ report (subject tree) others
    done_same trace qs rs rows others h k one two =
        let same = asked_once trace_limit (tree_scheme tree).elements methods 0 (lines_of (contents trace)) rs qs k h in
        runs_same file top contents tree made planned laid qs rows others (grounds.all_fit tree made laid.design laid.alike planned.planned.scheduled trace_limit 0 (lines_of (contents trace)) qs h) one
        (subst (λ (xs : List Asking). Runs false (tree_scheme tree) made xs others) same two)

    fault_same : (trace : List ℕ) (qs rs : List Asking) (rows others : List Row) → Bad tree trace qs → Bad tree trace rs
        → Runs false (tree_scheme tree) made qs rows → Runs false (tree_scheme tree) made rs others → (report (subject tree) rows ≡ report (subject tree) others) × (qs ≡ rs)
    fault_same trace qs rs rows others h k one two =
        let same = bad_once trace_limit (tree_scheme tree).elements methods 0 (lines_of (contents trace)) rs qs k h in (
          runs_same file top contents tree made planned laid qs rows others (grounds.all_fit_to_bad tree made laid.design laid.alike planned.planned.scheduled trace_limit 0 (lines_of (contents trace)) qs h) one
              (subst (λ (xs : List Asking). Runs false (tree_scheme tree) made xs others) same two),
          sym same,
        )

  -- what is told of one accepted tree, carried over to another, which is the same
  same_trace : (trace other : List ℕ) → words ≡ sim_words file top trace → words ≡ sim_words file top other → other ≡ trace
  same_trace trace other h k = (same_sim file top other file top trace (sym k ∙ h)).2

  module _ (tree u : TreeData) (made other : Schedule) (p : Accepted tree made) (q : Accepted u other) where
    tree_is : u ≡ tree
    tree_is = one_tree_planned file contents top u tree other made q p

    made_is : other ≡ made
    made_is = one_made_planned file contents top u tree other made q p

    abbrev RunsHere : TreeData → Schedule → List Asking → List Row → Type 0
    RunsHere t m rs rows = Runs false (tree_scheme t) m rs rows

    runs_here : (rs : List Asking) (rows : List Row) → RunsHere u other rs rows → RunsHere tree made rs rows
    runs_here rs rows h = subst (λ (m : Schedule). RunsHere tree m rs rows) made_is (subst (λ (t : TreeData). RunsHere t other rs rows) tree_is h)

    clean_here : (trace r : List ℕ) (rs : List Asking) → r ≡ trace → Clean u r rs → Clean tree trace rs
    clean_here trace r rs e h = subst (λ (x : List ℕ). Clean tree x rs) e (subst (λ (t : TreeData). Clean t r rs) tree_is h)

    bad_here : (trace r : List ℕ) (rs : List Asking) → r ≡ trace → Bad u r rs → Bad tree trace rs
    bad_here trace r rs e h = subst (λ (x : List ℕ). Bad tree x rs) e (subst (λ (t : TreeData). Bad t r rs) tree_is h)

    suite_here : (list l : List ℕ) → l ≡ list → (s : Status) (output text : List ℕ) → SuiteAnswer (subject u) other contents (contents l) s output text
        → SuiteAnswer (subject tree) made contents (contents list) s output text
    suite_here list l e s output text h =
        subst (λ (x : List ℕ). SuiteAnswer (subject tree) made contents (contents x) s output text) e
        (subst (λ (m : Schedule). SuiteAnswer (subject tree) m contents (contents l) s output text) made_is
        (subst (λ (t : TreeData). SuiteAnswer (subject t) other contents (contents l) s output text) tree_is h))

    report_there : (rows : List Row) → report (subject tree) rows ≡ report (subject u) rows
    report_there rows = ap (λ (t : TreeData). report (subject t) rows) (sym tree_is)

  same : (s s' : Status) (output more text said : List ℕ) → Tells s output text → Tells s' more said → SameAnswer words s s' output more text said
  same s s' output more text said (refused r h) (refused e g) =
      record { status_is = refl; output_is = λ none. refl; text_is = IsSameText.refused (trees.of_building file contents top r e h g) }
  same s s' output more text said (refused r h) (no_program l built none) = apart r l h built
  same s s' output more text said (refused r h) (scheduled tree made is p) = absurd (not_refused file top contents r h tree made p)
  same s s' output more text said (refused r h) (written tree made v is p has) = absurd (not_refused file top contents r h tree made p)
  same s s' output more text said (refused r h) (done trace tree made qs rows is p laid well clean runs) = absurd (not_refused file top contents r h tree made p)
  same s s' output more text said (refused r h) (trace_fault trace tree made qs rows is p laid well bad runs) = absurd (not_refused file top contents r h tree made p)
  same s s' output more text said (refused r h) (suite list tree made is p laid well all) = absurd (not_refused file top contents r h tree made p)
  same s s' output more text said (no_program l built none) (refused r h) = apart r l h built
  same s s' output more text said (no_program l built none) (no_program k also n) = record { status_is = refl; output_is = λ none. refl; text_is = IsSameText.equal }
  same s s' output more text said (no_program l built none) (scheduled tree made is p) = absurd (not_other file top contents l built none tree made p)
  same s s' output more text said (no_program l built none) (written tree made v is p has) = absurd (not_other file top contents l built none tree made p)
  same s s' output more text said (no_program l built none) (done trace tree made qs rows is p laid well clean runs) = absurd (not_other file top contents l built none tree made p)
  same s s' output more text said (no_program l built none) (trace_fault trace tree made qs rows is p laid well bad runs) = absurd (not_other file top contents l built none tree made p)
  same s s' output more text said (no_program l built none) (suite list tree made is p laid well all) = absurd (not_other file top contents l built none tree made p)
  same s s' output more text said (scheduled tree made is p) (refused r h) = absurd (not_refused file top contents r h tree made p)
  same s s' output more text said (scheduled tree made is p) (no_program l built none) = absurd (not_other file top contents l built none tree made p)
  same s s' output more text said (scheduled tree made is p) (scheduled u other k q) = record {
    status_is = refl;
    output_is = λ none. sym (ap (λ (t : TreeData). printed t other) (tree_is tree u made other p q) ∙ ap (printed tree) (made_is tree u made other p q));
    text_is = IsSameText.equal;
  }
  same s s' output more text said (scheduled tree made is p) (written u other v k q has) = absurd (products_apart file top file top (sym is ∙ k))
  same s s' output more text said (scheduled tree made is p) (done trace u other qs rows k q laid well clean runs) = absurd (forms_apart file top trace file top product.Schedule (sym k ∙ is))
  same s s' output more text said (scheduled tree made is p) (trace_fault trace u other qs rows k q laid well bad runs) = absurd (forms_apart file top trace file top product.Schedule (sym k ∙ is))
  same s s' output more text said (scheduled tree made is p) (suite list u other k q laid well all) = absurd (suites_apart file top list file top product.Schedule (sym k ∙ is))
  same s s' output more text said (written tree made v is p has) (refused r h) = absurd (not_refused file top contents r h tree made p)
  same s s' output more text said (written tree made v is p has) (no_program l built none) = absurd (not_other file top contents l built none tree made p)
  same s s' output more text said (written tree made v is p has) (scheduled u other k q) = absurd (products_apart file top file top (sym k ∙ is))
  same s s' output more text said (written tree made v is p has) (written u other w k q also) = record { status_is = refl; output_is = λ none. absurd (none file top is); text_is = IsSameText.equal }
  same s s' output more text said (written tree made v is p has) (done trace u other qs rows k q laid well clean runs) = absurd (forms_apart file top trace file top product.Verilog (sym k ∙ is))
  same s s' output more text said (written tree made v is p has) (trace_fault trace u other qs rows k q laid well bad runs) = absurd (forms_apart file top trace file top product.Verilog (sym k ∙ is))
  same s s' output more text said (written tree made v is p has) (suite list u other k q laid well all) = absurd (suites_apart file top list file top product.Verilog (sym k ∙ is))
  same s s' output more text said (done trace tree made qs rows is p laid well clean runs) (refused r h) = absurd (not_refused file top contents r h tree made p)
  same s s' output more text said (done trace tree made qs rows is p laid well clean runs) (no_program l built none) = absurd (not_other file top contents l built none tree made p)
  same s s' output more text said (done trace tree made qs rows is p laid well clean runs) (scheduled u other k q) = absurd (forms_apart file top trace file top product.Schedule (sym is ∙ k))
  same s s' output more text said (done trace tree made qs rows is p laid well clean runs) (written u other v k q has) = absurd (forms_apart file top trace file top product.Verilog (sym is ∙ k))
  same s s' output more text said (done trace tree made qs rows is p laid well clean runs) (done r u other rs others k q again too clear run) = record {
    status_is = refl;
    output_is = λ none.
        done_same tree made p laid trace qs rs rows others clean (clean_here tree u made other p q trace r rs (same_trace trace r is k) clear) runs (runs_here tree u made other p q rs others run)
        ∙ report_there tree u made other p q others;
    text_is = IsSameText.equal;
  }
  same s s' output more text said (done trace tree made qs rows is p laid well clean runs) (trace_fault r u other rs others k q again too bad run) =
      absurd (not_both trace_limit (tree_scheme tree).elements 0 (lines_of (contents trace)) qs rs clean (bad_here tree u made other p q trace r rs (same_trace trace r is k) bad))
  same s s' output more text said (done trace tree made qs rows is p laid well clean runs) (suite list u other k q again too all) = absurd (runs_apart file top list file top trace (sym k ∙ is))
  same s s' output more text said (trace_fault trace tree made qs rows is p laid well bad runs) (refused r h) = absurd (not_refused file top contents r h tree made p)
  same s s' output more text said (trace_fault trace tree made qs rows is p laid well bad runs) (no_program l built none) = absurd (not_other file top contents l built none tree made p)
  same s s' output more text said (trace_fault trace tree made qs rows is p laid well bad runs) (scheduled u other k q) = absurd (forms_apart file top trace file top product.Schedule (sym is ∙ k))
  same s s' output more text said (trace_fault trace tree made qs rows is p laid well bad runs) (written u other v k q has) = absurd (forms_apart file top trace file top product.Verilog (sym is ∙ k))
  same s s' output more text said (trace_fault trace tree made qs rows is p laid well bad runs) (done r u other rs others k q again too clear run) =
      absurd (not_both trace_limit (tree_scheme tree).elements 0 (lines_of (contents trace)) rs qs (clean_here tree u made other p q trace r rs (same_trace trace r is k) clear) bad)
  same s s' output more text said (trace_fault trace tree made qs rows is p laid well bad runs) (trace_fault r u other rs others k q again too wrong run) =
      let both = fault_same tree made p laid trace qs rs rows others bad (bad_here tree u made other p q trace r rs (same_trace trace r is k) wrong) runs (runs_here tree u made other p q rs others run) in
      record {
        status_is = refl;
        output_is = λ none. both.0 ∙ report_there tree u made other p q others;
        text_is = equal_text (trace_fault_line (length qs + 1)) (trace_fault_line (length rs + 1)) (ap (λ (xs : List Asking). trace_fault_line (length xs + 1)) both.1);
      }
  same s s' output more text said (trace_fault trace tree made qs rows is p laid well bad runs) (suite list u other k q again too all) = absurd (runs_apart file top list file top trace (sym k ∙ is))
  same s s' output more text said (suite list tree made is p laid well all) (refused r h) = absurd (not_refused file top contents r h tree made p)
  same s s' output more text said (suite list tree made is p laid well all) (no_program l built none) = absurd (not_other file top contents l built none tree made p)
  same s s' output more text said (suite list tree made is p laid well all) (scheduled u other k q) = absurd (suites_apart file top list file top product.Schedule (sym is ∙ k))
  same s s' output more text said (suite list tree made is p laid well all) (written u other v k q has) = absurd (suites_apart file top list file top product.Verilog (sym is ∙ k))
  same s s' output more text said (suite list tree made is p laid well all) (done trace u other rs rows k q again too clear run) = absurd (runs_apart file top list file top trace (sym is ∙ k))
  same s s' output more text said (suite list tree made is p laid well all) (trace_fault trace u other rs rows k q again too bad run) = absurd (runs_apart file top list file top trace (sym is ∙ k))
  same s s' output more text said (suite list tree made is p laid well all) (suite other u made_too k q again too told) =
      let one = suite_once file top contents tree made p laid (contents list) s s' output more text said all
      (suite_here tree u made made_too p q list other (same_list file top other file top list (sym k ∙ is)) s' more said told) in
      record { status_is = one.status_is; output_is = λ none. one.output_is; text_is = equal_text text said one.text_is }

-- ---- whatever the words are

module _ (words : List (List ℕ)) (contents : List ℕ → List ℕ) where
  tells_at : (f t file top : List ℕ) (s : Status) (output text : List ℕ) → (f ≡ file) × (t ≡ top) → Tells words contents f t s output text → Tells words contents file top s output text
  tells_at f t file top s output text same h =
      subst (λ (x : List ℕ). Tells words contents file x s output text) same.1 (subst (λ (x : List ℕ). Tells words contents x t s output text) same.0 h)

  told : (file top : List ℕ) (s : Status) (output text : List ℕ) → Asks words file top → Answer words contents s output text → Tells words contents file top s output text
  told file top s output text asks (a.Answer.usage none) = absurd (none.asks_none file top asks)
  told file top s output text asks (a.Answer.made is h) = absurd (made_asks words _ file top is asks)
  told file top s output text asks (a.Answer.refused {file = f} {top = t} r k h) = tells_at f t file top s output text (same_asked words f t file top k asks) (Tells.refused r h)
  told file top s output text asks (a.Answer.no_program {file = f} {top = t} l k built none) =
      tells_at f t file top s output text (same_asked words f t file top k asks) (Tells.no_program l built none)
  told file top s output text asks (a.Answer.scheduled {file = f} {top = t} tree made is p) =
      tells_at f t file top s output text (same_asked words f t file top (Asks.schedule is) asks) (Tells.scheduled tree made is p)
  told file top s output text asks (a.Answer.written {file = f} {top = t} tree made v is p has) =
      tells_at f t file top s output text (same_asked words f t file top (Asks.verilog is) asks) (Tells.written tree made v is p has)
  told file top s output text asks (a.Answer.done {file = f} {top = t} {trace = r} tree made qs rows is p laid well clean runs) =
      tells_at f t file top s output text (same_asked words f t file top (Asks.sim r is) asks) (Tells.done r tree made qs rows is p laid well clean runs)
  told file top s output text asks (a.Answer.trace_fault {file = f} {top = t} {trace = r} tree made qs rows is p laid well bad runs) =
      tells_at f t file top s output text (same_asked words f t file top (Asks.sim r is) asks) (Tells.trace_fault r tree made qs rows is p laid well bad runs)
  told file top s output text asks (a.Answer.suite {file = f} {top = t} {list = l} tree made is p laid well all) =
      tells_at f t file top s output text (same_asked words f t file top (Asks.suite l is) asks) (Tells.suite l tree made is p laid well all)

  -- an answer to words without a form is how the program is called
  record IsUsage (s : Status) (output text : List ℕ) : Type 0 where
    status_is : status.Usage ≡ s
    output_is : [] ≡ output
    text_is : usage_line ≡ text

  same_usage : (s : Status) (output text : List ℕ) → HasNoForm words → Answer words contents s output text → IsUsage s output text
  same_usage s output text none (a.Answer.usage h) = record { status_is = refl; output_is = refl; text_is = refl }
  same_usage s output text none (a.Answer.made is h) = absurd (none.makes_none _ is)
  same_usage s output text none (a.Answer.refused r k h) = absurd (none.asks_none _ _ k)
  same_usage s output text none (a.Answer.no_program l k built other) = absurd (none.asks_none _ _ k)
  same_usage s output text none (a.Answer.scheduled tree made is p) = absurd (none.asks_none _ _ (Asks.schedule is))
  same_usage s output text none (a.Answer.written tree made v is p has) = absurd (none.asks_none _ _ (Asks.verilog is))
  same_usage s output text none (a.Answer.done tree made qs rows is p laid well clean runs) = absurd (none.asks_none _ _ (Asks.sim _ is))
  same_usage s output text none (a.Answer.trace_fault tree made qs rows is p laid well bad runs) = absurd (none.asks_none _ _ (Asks.sim _ is))
  same_usage s output text none (a.Answer.suite tree made is p laid well all) = absurd (none.asks_none _ _ (Asks.suite _ is))

  same_form : (s s' : Status) (output more text said : List ℕ) (file top : List ℕ) → Asks words file top → Answer words contents s output text → Answer words contents s' more said
      → SameAnswer words s s' output more text said
  same_form s s' output more text said file top asks answer other =
      same words contents file top s s' output more text said (told file top s output text asks answer) (told file top s' more said asks other)

  -- words of a made design have an answer of that
  told_made : (n : ℕ) (s : Status) (output text : List ℕ) → IsMade words n → Answer words contents s output text → MadeAnswer n s output text
  told_made n s output text is (a.Answer.usage none) = absurd (none.makes_none n is)
  told_made n s output text is (a.Answer.made {n = m} k h) = subst (λ (x : ℕ). MadeAnswer x s output text) (same_size words m n k is) h
  told_made n s output text is (a.Answer.refused r k h) = absurd (made_asks words n _ _ is k)
  told_made n s output text is (a.Answer.no_program l k built other) = absurd (made_asks words n _ _ is k)
  told_made n s output text is (a.Answer.scheduled tree made k p) = absurd (made_asks words n _ _ is (Asks.schedule k))
  told_made n s output text is (a.Answer.written tree made v k p has) = absurd (made_asks words n _ _ is (Asks.verilog k))
  told_made n s output text is (a.Answer.done tree made qs rows k p laid well clean runs) = absurd (made_asks words n _ _ is (Asks.sim _ k))
  told_made n s output text is (a.Answer.trace_fault tree made qs rows k p laid well bad runs) = absurd (made_asks words n _ _ is (Asks.sim _ k))
  told_made n s output text is (a.Answer.suite tree made k p laid well all) = absurd (made_asks words n _ _ is (Asks.suite _ k))

  same_made : (s s' : Status) (output more text said : List ℕ) (n : ℕ) → IsMade words n → Answer words contents s output text → Answer words contents s' more said
      → SameAnswer words s s' output more text said
  same_made s s' output more text said n is answer other =
      let one = made_once n s s' output more text said (told_made n s output text is answer) (told_made n s' more said is other) in
      record { status_is = one.status_is; output_is = λ none. one.output_is; text_is = one.text_is }

  -- the words of an answer have a form or none
  asked : (s : Status) (output text : List ℕ) → Answer words contents s output text → ((file : List ℕ) × (top : List ℕ) × Asks words file top) ⊎ (HasNoForm words ⊎ ((n : ℕ) × IsMade words n))
  asked s output text (a.Answer.usage none) = inr (inl none)
  asked s output text (a.Answer.made {n = n} is h) = inr (inr (n, is))
  asked s output text (a.Answer.refused {file = f} {top = t} r k h) = inl (f, t, k)
  asked s output text (a.Answer.no_program {file = f} {top = t} l k built none) = inl (f, t, k)
  asked s output text (a.Answer.scheduled {file = f} {top = t} tree made is p) = inl (f, t, Asks.schedule is)
  asked s output text (a.Answer.written {file = f} {top = t} tree made v is p has) = inl (f, t, Asks.verilog is)
  asked s output text (a.Answer.done {file = f} {top = t} {trace = r} tree made qs rows is p laid well clean runs) = inl (f, t, Asks.sim r is)
  asked s output text (a.Answer.trace_fault {file = f} {top = t} {trace = r} tree made qs rows is p laid well bad runs) = inl (f, t, Asks.sim r is)
  asked s output text (a.Answer.suite {file = f} {top = t} {list = l} tree made is p laid well all) = inl (f, t, Asks.suite l is)

  pub one_answer : (s s' : Status) (output more text said : List ℕ) → Answer words contents s output text → Answer words contents s' more said → SameAnswer words s s' output more text said
  one_answer s s' output more text said answer other =
      elim (asked s output text answer) [
        | inl form ↦ same_form s s' output more text said form.0 form.1 form.2 answer other
        | inr (inr made) ↦ same_made s s' output more text said made.0 made.1 answer other
        | inr (inl none) ↦ (
            let one = same_usage s output text none answer in
            let two = same_usage s' more said none other in
            record {
              status_is = sym one.status_is ∙ two.status_is;
              output_is = λ asks. sym one.output_is ∙ two.output_is;
              text_is = equal_text text said (sym one.text_is ∙ two.text_is);
            })
      ]
