-- The made design is run for 100 clocks without requests.
use Rattle.std.specs.Prelude.{replicate, Option}
use Rattle.std.proofs.Common.{◌≡◌, ◌∙◌, ℕ, zero, suc, ◌+◌, ◌≤◌, false, List, [], ◌∷◌, ◌++◌, length, Result, Err, codes, refl, sym, ap, subst, arith}
use Rattle.std.proofs.lemmas.List.{length-map, replicate_more}
use Rattle.bsv_bits.specs.Words.{Bits}
use Rattle.bsv_io.specs.Writing.{Writing, appended, AppendsPrefix}
use Rattle.bsv_prim.specs.declared.part.Part.{Part}
use Rattle.bsv_design.specs.declared.design.Design.{Design}
use Rattle.bsv_design.specs.declared.design.NamedPart.{NamedPart}
use Rattle.bsv_design.specs.declared.kind.Kind.{Kind}
use Rattle.bsv_design.specs.declared.schedule.Schedule.{Schedule}
use Rattle.bsv_design.specs.scheme.Schemes.{Scheme, Asking, Outline, design_scheme, kinds_of, outline}
use Rattle.bsv_design.specs.scheme.Seen.{design_data}
use Rattle.bsv_design.specs.scheme.States.{nothing_asked, opening}
use Rattle.bsv_tree.specs.meaning.Schemes.{tree_scheme}
use Rattle.bsv_tree.specs.tree.Trees.{TreeData}
use Rattle.bsv_guard.specs.Fitting.{RequestFits}
use Rattle.bsv_trace.specs.Lines.{AsksFor, methods_among, nothing_of}
use Rattle.bsv_trace.proofs.Methods.{methods_outlined, nothing_outlined}
use Rattle.bsv_clock.specs.Events.{Happens}
use Rattle.bsv_clock.specs.Runs.{AllFit, Row, Runs}
use Rattle.bsv_clock.proofs.OneRun.{opening_fits}
use Rattle.bsv_flow.specs.declared.scheduling.Compiled.{Compiled}
use Rattle.bsv_flow.specs.declared.refusal.CompileFault.{CompileFault}
use Rattle.bsv_flow.specs.declared.refusal.CompileFault.TheVariants as fault
use Rattle.bsv_flow.specs.declared.refusal.Refusal.{Refusal}
use Rattle.bsv_flow.specs.Buildings.{Rejects}
use Rattle.bsv_flow.specs.Compilings.{IsCompiled, IsPlanned}
use Rattle.bsv_flow.specs.Schedulings.{subject}
use Rattle.bsv_flow.proofs.Planned.{compiled_planned}
use Rattle.bsv_guard.proofs.Alike.{alike_back}
use Rattle.bsv_top.specs.declared.stop.Stop.{Stop}
use Rattle.bsv_top.specs.declared.stop.Stop.TheVariants as stop
use Rattle.bsv_top.specs.declared.status.Status.TheVariants as status
use Rattle.bsv_top.specs.Answers as a
use Rattle.bsv_top.specs.Answers.{MadeAnswer}
use Rattle.bsv_top.specs.LaidOut.{IsLaidOut}
use Rattle.bsv_top.specs.Made.{IsMade, fired_count, held_at, made_contents, made_file, made_top, made_words, nothing_for, summary, summary_of, summary_with}
use Rattle.bsv_top.specs.MadeRuns.{HasFired, IsMadeStop, IsSummary}
use Rattle.bsv_top.specs.Outcomes.{IsDoneBy, OutputStarted, started}
use Rattle.bsv_top.specs.Stops.{IsStopOf, stop_of}
use Rattle.bsv_run.specs.Reports.{state_after}
use Rattle.bsv_run.specs.Running.{ShowsParts}
use Rattle.bsv_top.specs.Running.{IsStart, scheduled_of}
use Rattle.bsv_run.specs.declared.run.Run.{Run}
use Rattle.bsv_top.specs.declared.scheduled.ScheduledDesign.{ScheduledDesign}
use Rattle.bsv_sim.specs.Simulation.{IsClockOf, registers_of}
use Rattle.bsv_clock.specs.Shows.{Shows}
use Rattle.bsv_clock.specs.Subjects.{Subject, design_subject}
use Rattle.bsv_trace.specs.Shown.{ShowParts}
use Rattle.bsv_top.proofs.Grounds as grounds
use Rattle.bsv_run.proofs.Happening.{some_run}
use Rattle.bsv_run.proofs.Named.{kinds_are, outlines_are}
use Rattle.bsv_top.proofs.Lifting.{runs_to}
use Rattle.bsv_run.proofs.Runs.{continues_append, state_append}
use Rattle.bsv_top.proofs.Spelled.{made_asks}

-- a line without bytes asks for nothing
pub empty_asks : (os : List Outline) → AsksFor os [] (nothing_of (methods_among os))
empty_asks os = record { pieces = []; calls = []; each = tt; apart = tt; written = refl; short = omega arith; asking = refl }

all_same : (S : Scheme) (q : Asking) → ((n : ℕ) → RequestFits S q n) → (clocks : ℕ) → AllFit S (replicate clocks q)
all_same S q fit zero = tt
all_same S q fit (suc clocks) = (fit, all_same S q fit clocks)

module _ (tree : TreeData) (made : Schedule) (n : ℕ) (planned : IsPlanned made_file (made_contents n) made_top tree made) (laid : IsLaidOut tree) where
  abbrev S : Scheme
  S = tree_scheme tree

  pub nothing_fits : (clocks : ℕ) → AllFit S (nothing_for clocks S)
  unfolding nothing_for
  nothing_fits clocks =
      all_same S (nothing_of (methods_among S.elements))
      (grounds.asked_fits tree made laid.design laid.alike planned.planned.scheduled [] (nothing_of (methods_among S.elements)) (empty_asks S.elements)) clocks

pub made_answer : (n : ℕ) (tree : TreeData) (made : Schedule) → IsPlanned made_file (made_contents n) made_top tree made → IsLaidOut tree → (output : List ℕ) × MadeAnswer n status.Done output []
made_answer n tree made planned laid =
    let scheduled = planned.planned.scheduled in
    let lawful = grounds.lawful_here tree made laid.design laid.alike scheduled in
    let right = grounds.scheduled_here tree made laid.design laid.alike scheduled in
    let few = grounds.few_here tree made laid.design laid.alike scheduled in
    let kinds = (tree_scheme tree).kinds in
    let run = some_run false (tree_scheme tree) made lawful right few (opening kinds) (nothing_for 100 (tree_scheme tree)) (opening_fits kinds) (nothing_fits tree made n planned laid 100) in
    (summary n (subject tree) run.rows, a.MadeAnswer.done tree made run.rows planned laid run.continues)

-- ---- clock by clock

nothing_here : (d : Design) → nothing_asked d.elements ≡ nothing_of (methods_among (design_scheme (design_data d)).elements)
nothing_here d =
    sym (nothing_outlined d.elements) ∙ ap nothing_of (sym (methods_outlined d.elements))
    ∙ ap (λ (os : List Outline). nothing_of (methods_among os)) (outlines_are d)

count_more : (rows : List Row) (row : Row) → fired_count (rows ++ row ∷ []) ≡ fired_count rows + length row.fired.list.items
count_more [] row = omega arith
count_more (first ∷ rows) row = let further = count_more rows row in omega (arith, further)

-- before the first clock
pub none_fired : (c : ScheduledDesign) (r : Run) → IsStart c r → HasFired c 0 0 r
unfolding nothing_for
none_fired c r start = record { rows = []; runs = tt; state = subst (ShowsParts c.design r) (ap opening (kinds_are c.design)) start.state; count_is = refl }

-- a clock more
pub fired_more : (c : ScheduledDesign) (clocks count more : ℕ) (old new : Run) (q : Asking) → (h : HasFired c clocks count old) → q ≡ nothing_asked c.design.elements
    → IsClockOf c.design c.schedule q (state_after (opening (design_scheme (design_data c.design)).kinds) h.rows) new.fired (registers_of new.sim)
    → more ≡ count + length new.fired.list.items → HasFired c (clocks + 1) more new
unfolding nothing_for
fired_more c clocks count more old new q h asked clock is =
    let after = clock.after in
    let fired = new.fired in
    let T = design_scheme (design_data c.design) in
    let none = nothing_of (methods_among T.elements) in
    let row : Row = record { fired = fired; after = after } in
    let this : Happens false T c.schedule none (state_after (opening T.kinds) h.rows) fired after =
    subst (λ (x : Asking). Happens false T c.schedule x (state_after (opening T.kinds) h.rows) fired after) (asked ∙ nothing_here c.design) clock.happens in
    record {
      rows = h.rows ++ row ∷ [];
      runs = subst (λ (qs : List Asking). Runs false T c.schedule qs (h.rows ++ row ∷ [])) (replicate_more clocks none)
          (continues_append false T c.schedule (opening T.kinds) (replicate clocks none) (none ∷ []) h.rows (row ∷ []) h.runs (this, tt));
      state = subst (ShowsParts c.design new) (sym (state_append (opening T.kinds) h.rows (row ∷ []))) (record { fits = clock.fits; shows = clock.shows });
      count_is = is ∙ ap (λ (n : ℕ). n + length fired.list.items) h.count_is ∙ sym (count_more h.rows row);
    }

-- ---- the summary

pub texts_same : (a b c d e a' b' c' d' e' : List ℕ) → a ≡ a' → b ≡ b' → c ≡ c' → d ≡ d' → e ≡ e' → summary_with a b c d e ≡ summary_with a' b' c' d' e'
texts_same a b c d e a' b' c' d' e' first second third fourth fifth = cc

counts_same : (n k m j i o : ℕ) (w v : Option Bits) → k ≡ j → m ≡ i → n ≡ o → w ≡ v → (size : ℕ) → summary_of size k m n w ≡ summary_of size j i o v
counts_same n k m j i o w v first second third fourth size = cc

pub summed : (c : ScheduledDesign) (size count : ℕ) (r : Run) (ws : List Bits) (text : List ℕ) → HasFired c 100 count r → ws ≡ registers_of r.sim
    → ((ps : List Part) → ShowParts c.design.parts ws ps → text ≡ summary_of size (length c.design.elements) (length c.design.parts) count (held_at (codes "s") c.design.parts ps)) → IsSummary c size text
summed c size count r ws text h same is =
    let T = design_scheme (design_data c.design) in
    let ps = state_after (opening T.kinds) h.rows in
    let shown : ShowParts c.design.parts ws ps = record { fits = h.state.fits; shows = subst (Shows (kinds_of (design_data c.design)) ps) (sym same) h.state.shows } in
    record {
      rows = h.rows;
      runs = h.runs;
      is = is ps shown
          ∙ counts_same count (length c.design.elements) (length c.design.parts) (length T.elements) (length T.kinds) (fired_count h.rows)
          (held_at (codes "s") c.design.parts ps) (held_at (codes "s") c.design.parts ps)
          (sym (length-map c.design.elements outline) ∙ ap (λ (os : List Outline). length os) (outlines_are c.design))
          (sym (length-map c.design.parts (λ (p : NamedPart). p.kind)) ∙ ap (λ (ks : List Kind). length ks) (kinds_are c.design))
          h.count_is refl size;
    }

summary_there : (n : ℕ) (s t : Subject) → s.parts ≡ t.parts → s.scheme.elements ≡ t.scheme.elements → s.scheme.kinds ≡ t.scheme.kinds → (rows : List Row) → summary n s rows ≡ summary n t rows
summary_there n s t parts elements kinds rows =
    ap (λ (os : List Outline). summary_of n (length os) (length s.scheme.kinds) (fired_count rows) (held_at (codes "s") s.parts (state_after (opening s.scheme.kinds) rows))) elements
    ∙ ap (λ (ks : List Kind). summary_of n (length t.scheme.elements) (length ks) (fired_count rows) (held_at (codes "s") s.parts (state_after (opening ks) rows))) kinds
    ∙ ap (λ (ps : List NamedPart). summary_of n (length t.scheme.elements) (length t.scheme.kinds) (fired_count rows) (held_at (codes "s") ps (state_after (opening t.scheme.kinds) rows))) parts

nothing_same : (clocks : ℕ) (S T : Scheme) → S.elements ≡ T.elements → nothing_for clocks S ≡ nothing_for clocks T
unfolding nothing_for
nothing_same clocks S T elements = ap (λ (os : List Outline). replicate clocks (nothing_of (methods_among os))) elements

-- what is compiled of the made text and run is an answer
pub made_done : (size : ℕ) (c : Compiled) (x : IsCompiled made_file (made_contents size) made_top c) (text : List ℕ) → IsSummary (scheduled_of c) size text → MadeAnswer size status.Done text []
made_done size c x text h =
    let S = tree_scheme x.compiled.tree in
    let T = design_scheme (design_data c.design) in
    let al = x.compiled.design.alike in
    let runs : Runs false S c.schedule (nothing_for 100 S) h.rows =
    subst (λ (qs : List Asking). Runs false S c.schedule qs h.rows) (nothing_same 100 T S (sym al.elements)) (runs_to false T S c.schedule (alike_back S T al) (nothing_for 100 T) h.rows h.runs) in
    subst (λ (t : List ℕ). MadeAnswer size status.Done t [])
    (sym (h.is ∙ summary_there size (design_subject c.design) (subject x.compiled.tree) x.compiled.design.parts (sym al.elements) (sym al.kinds) h.rows))
    (a.MadeAnswer.done x.compiled.tree c.schedule h.rows (compiled_planned made_file (made_contents size) made_top c x) (record { design = c.design; alike = al }) runs)

-- ---- what is not done

-- why nothing was compiled
pub made_stops : {A : Type 0} (size : ℕ) (f : CompileFault) (s : Stop) → s ≡ stop_of f
    → ((r : Refusal) → ◌≡◌ {A = Result A CompileFault} (Err f) (Err (fault.Refused r)) → Rejects made_file (made_contents size) made_top r)
    → ((name : List ℕ) → ◌≡◌ {A = Result A CompileFault} (Err f) (Err (fault.ReadFault name)) → ⊥) → IsMadeStop size s
made_stops {A = A} size f s is rejects reads = subst (IsMadeStop size) (sym is) (by f rejects reads)
  where
    by : (e : CompileFault) → ((r : Refusal) → ◌≡◌ {A = Result A CompileFault} (Err e) (Err (fault.Refused r)) → Rejects made_file (made_contents size) made_top r)
        → ((name : List ℕ) → ◌≡◌ {A = Result A CompileFault} (Err e) (Err (fault.ReadFault name)) → ⊥) → IsMadeStop size (stop_of e)
    by (fault.Refused r) rejects reads = a.MadeAnswer.refused r (rejects r refl)
    by (fault.ReadFault name) rejects reads = reads name refl
    by fault.OutOfMemory rejects reads = tt

module _ (size : ℕ) (least : 1 ≤ size) (most : size ≤ 400) (contents : List ℕ → List ℕ) (out out' : Writing) where
  sized : IsMade (made_words size) size
  sized = record { words_are = refl; least = least; most = most }

  pub stop_made : (s : Stop) → IsMadeStop size s → IsStopOf (made_words size) contents out out s
  stop_made (stop.Refused r) h = a.Answer.made sized h
  stop_made (stop.Unread name) h = absurd h
  stop_made stop.Unwritable h = tt
  stop_made stop.OutOfMemory h = tt
  stop_made (stop.BadLine number) h = absurd h
  stop_made (stop.BadListLine number) h = absurd h
  stop_made (stop.BadTraces count) h = absurd h

  pub make_done : (text : List ℕ) → MadeAnswer size status.Done text [] → out' ≡ appended text out → IsDoneBy (made_words size) contents out out'
  make_done text h put = record {
    accepted = λ file top asks. absurd (made_asks (made_words size) size file top sized asks);
    output = text;
    answer = a.Answer.made sized h;
    put = put;
  }

  pub make_started : (text : List ℕ) → MadeAnswer size status.Done text [] → AppendsPrefix text out out' → OutputStarted (made_words size) contents out out'
  make_started text h prefix = started [] (a.Answer.made sized h) prefix
