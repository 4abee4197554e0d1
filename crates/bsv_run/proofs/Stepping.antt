-- A trace that is run line by line.
use Rattle.std.proofs.Common.{◌≡◌, inl, inr, ℕ, suc, ◌+◌, ◌<◌, ◌≤◌, false, Result, Ok, Err, OnOk, OnErr, List, [], ◌∷◌, ◌++◌, length, refl, sym, ap, ◌∙◌, subst, arith, append_assoc, append-nil, length-append, zero-add}
use Rattle.bsv_prim.specs.declared.part.Part.{Part}
use Rattle.bsv_clock.specs.Shows.{Shows}
use Rattle.bsv_clock.specs.Subjects.{design_subject}
use Rattle.bsv_design.specs.declared.design.Design.{Design}
use Rattle.bsv_design.specs.declared.schedule.Schedule.{Schedule}
use Rattle.bsv_design.specs.scheme.Schemes.{Asking, Outline, kinds_of}
use Rattle.bsv_design.specs.scheme.Seen.{asking, design_data}
use Rattle.bsv_design.specs.scheme.States.{opening}
use Rattle.bsv_io.specs.Writing.{Writing, appended, AppendsPrefix}
use Rattle.bsv_io.proofs.Appended.{whole_put}
use Rattle.bsv_trace.specs.Lines.{AsksFor}
use Rattle.bsv_trace.specs.Texts.{opening_text}
use Rattle.bsv_clock.specs.Events.{Happens}
use Rattle.bsv_clock.specs.Runs.{Row, Runs}
use Rattle.bsv_sim.specs.declared.sim.Sim.{Sim}
use Rattle.bsv_sim.specs.Simulation.{registers_of}
use Rattle.bsv_run.specs.declared.halt.Halt.{Halt}
use Rattle.bsv_run.specs.declared.halt.Halt.TheVariants as halt
use Rattle.bsv_run.specs.declared.lines.Lines.{Lines}
use Rattle.bsv_run.specs.declared.run.Run.{Run}
use Rattle.bsv_run.specs.Reading.{HasNoFeed, IsEnded, IsOver}
use Rattle.bsv_run.specs.Reports.{report, state_after}
use Rattle.bsv_run.specs.Running.{BeginsClock, EndsLine, HasRun, IsStartedOf, IsDoneOf, IsFaultyOf, PutsClock, RunsLine, ShowsParts, StandsAt, lines_of_clock}
use Rattle.bsv_run.specs.Traces.{IsBad, AreAsked, AreAskedToBad, HasBadLine, bytes_in, line_text, lines_of}
use Rattle.bsv_run.proofs.Asked.{asked_append, asked_long, bad_append, bad_after, bytes_after, over_bad, total, total_append}
use Rattle.bsv_run.proofs.Listed.{BeginsLine, begins_line, ends_line, ended_line, last_line, unended_append}
use Rattle.bsv_run.proofs.Runs.{started_clock, continues_append, put_clock, report_none, rows_long, state_append}

-- what holds anyhow holds of a fault
pub fails : {A E : Type 0} (r : Result A E) (P : Type 0) → P → OnErr r P
fails (Ok x) P h = tt
fails (Err e) P h = h

pub at_fault : {A E : Type 0} (r : Result A E) (e : E) (P : Type 0) → r ≡ Err e → OnErr r P → P
at_fault (Ok x) e P is h = absurd (let no_value : ⊥ = cc in no_value)
at_fault (Err f) e P is h = h

-- what was begun of a line is within its line
held_within : (held left : List ℕ) (n : ℕ) → HasNoFeed held → length held ≤ bytes_in (n + 1) (lines_of (held ++ left))
held_within [] left n h = omega arith
held_within (b ∷ held) left n h =
    let first = begins_line (b ∷ held) left h (omega arith) in
    let at_first : bytes_in (n + 1) (lines_of ((b ∷ held) ++ left)) ≡ length first.line + bytes_in n first.rest =
    ap (bytes_in (n + 1)) first.lines ∙ ap (λ (k : ℕ). bytes_in k (first.line ∷ first.rest)) (let same : n + 1 ≡ suc n = omega arith in same) in
    omega (arith, at_first, first.long)

-- what comes of a line: its clock was put or begun, or nothing was put
pub data Stepped (d : Design) (made : Schedule) (old new : Run) (s : List Part) (w next : Writing) : Type 0 where
  one_clock : BeginsClock d made old new s w next → Stepped d made old new s w next
  no_clock : next ≡ w → Stepped d made old new s w next

-- a clock that was put was begun
begins : (d : Design) (made : Schedule) (old new : Run) (s : List Part) (w next : Writing) → PutsClock d made old new s w next → BeginsClock d made old new s w next
begins d made old new s w next this = record { after = this.after; ran = this.ran; prefix = whole_put (lines_of_clock d old new this.after) w next this.put }

pub stepped : (d : Design) (made : Schedule) (old new : Run) (s : List Part) (w next : Writing) (r : Result (Unit {0}) Halt) → ShowsParts d old s → OnOk r (EndsLine d made old new w next)
    → (r ≡ Err halt.Unwritable → (ps : List Part) → ShowsParts d old ps → BeginsClock d made old new ps w next) → OnErr r ((r ≡ Err halt.Unwritable → ⊥) → next ≡ w) → Stepped d made old new s w next
stepped d made old new s w next (Ok x) shown ok started quiet = one_clock (begins d made old new s w next (ok.ran s shown))
stepped d made old new s w next (Err halt.BadLine) shown ok started quiet = no_clock (quiet (λ e. let no_value : ⊥ = cc in no_value))
stepped d made old new s w next (Err halt.Unreadable) shown ok started quiet = no_clock (quiet (λ e. let no_value : ⊥ = cc in no_value))
stepped d made old new s w next (Err halt.Unwritable) shown ok started quiet = one_clock (started refl s shown)

module _ (limit : ℕ) (d : Design) (made : Schedule) where
  abbrev os : List Outline
  os = (design_subject d).scheme.elements

  -- ---- what was gathered

  module _ (start : Writing) (read : List ℕ) (r : Run) (w : Writing) (run : HasRun limit d made start read r w) where
    abbrev held : List ℕ
    held = r.lines.held.items

    -- the lines of the whole trace, where these bytes come next
    lines_next : (bytes left : List ℕ) → lines_of ((read ++ bytes) ++ left) ≡ run.stands.front ++ lines_of ((held ++ bytes) ++ left)
    lines_next bytes left =
        ap lines_of (append_assoc read bytes left) ∙ run.stands.lines (bytes ++ left)
        ∙ ap (λ (t : List ℕ). run.stands.front ++ lines_of t) (sym (append_assoc held bytes left))

    stands_at : 0 + total run.stands.front ≡ r.lines.at
    stands_at = zero-add (total run.stands.front) ∙ run.stands.at

    number_is : r.lines.done + 1 ≡ length run.rows + 1
    number_is =
        let rows = rows_long false (design_subject d).scheme made (opening (design_subject d).scheme.kinds) run.qs run.rows run.runs in
        let asked = asked_long limit os 0 run.stands.front run.qs run.stands.asked in
        omega (arith, rows, asked, run.stands.done)

    -- ---- a prefix of a report

    -- what was put so far
    pub started_after : (trace left : List ℕ) → trace ≡ read ++ left → IsStartedOf limit d made start trace w
    started_after trace left whole = record {
      front = run.stands.front;
      rest = lines_of (held ++ left);
      qs = run.qs;
      rows = run.rows;
      lines = ap lines_of whole ∙ run.stands.lines left;
      asked = run.stands.asked;
      runs = run.runs;
      prefix = whole_put (report (design_subject d) run.rows) start w run.put;
    }

    pub started_here : (bytes left : List ℕ) → IsStartedOf limit d made start ((read ++ bytes) ++ left) w
    started_here bytes left = started_after ((read ++ bytes) ++ left) (bytes ++ left) (append_assoc read bytes left)

    pub started_whole : IsStartedOf limit d made start read w
    started_whole = started_after read [] (sym (append-nil read))

    -- ---- a bad line

    bad_there : (trace : List ℕ) (first : List ℕ) (rest : List (List ℕ)) → lines_of trace ≡ run.stands.front ++ first ∷ rest → IsBad limit os (r.lines.at + length first) first
        → HasBadLine limit os trace run.qs
    bad_there trace first rest lines bad =
        subst (λ (ls : List (List ℕ)). AreAskedToBad limit os 0 ls run.qs) (sym lines)
        (subst (λ (qs : List Asking). AreAskedToBad limit os 0 (run.stands.front ++ first ∷ rest) qs) (append-nil run.qs)
        (bad_append limit os 0 r.lines.at run.stands.front (first ∷ rest) run.qs [] (sym stands_at) run.stands.asked bad))

    faulty_there : (trace : List ℕ) (number : ℕ) → HasBadLine limit os trace run.qs → number ≡ r.lines.done + 1 → IsFaultyOf limit d made start trace w number
    faulty_there trace number bad is = record {
      qs = run.qs;
      rows = run.rows;
      bad = bad;
      runs = run.runs;
      number_is = let asked = asked_long limit os 0 run.stands.front run.qs run.stands.asked in omega (arith, is, asked, run.stands.done);
      put = run.put;
    }

    -- what was begun of the line is too long
    over_from : (bytes left : List ℕ) (number : ℕ) → IsOver r.lines.limit r.lines.at (held ++ bytes) → BeginsLine (held ++ bytes) ((held ++ bytes) ++ left) → number ≡ r.lines.done + 1
        → IsFaultyOf limit d made start ((read ++ bytes) ++ left) w number
    over_from bytes left number over first is =
        faulty_there ((read ++ bytes) ++ left) number
        (bad_there ((read ++ bytes) ++ left) first.line first.rest (lines_next bytes left ∙ ap (λ (ls : List (List ℕ)). run.stands.front ++ ls) first.lines)
        (over_bad limit os r.lines.at (held ++ bytes) first.line (subst (λ (n : ℕ). IsOver n r.lines.at (held ++ bytes)) run.limit_is over) first.long)) is

    pub over_ended : (bytes left : List ℕ) (number : ℕ) → IsEnded bytes → IsOver r.lines.limit r.lines.at (held ++ bytes) → number ≡ r.lines.done + 1 → IsFaultyOf limit d made start ((read ++ bytes) ++ left) w number
    over_ended bytes left number ended over is = over_from bytes left number over (ends_line held bytes left run.unended ended) is

    over_some : (bytes : List ℕ) → IsOver r.lines.limit r.lines.at (held ++ bytes) → 0 < length (held ++ bytes)
    over_some bytes (inl long) = omega (arith, long)
    over_some bytes (inr far) = omega (arith, far, r.lines.within)

    pub over_started : (bytes left : List ℕ) (number : ℕ) → HasNoFeed bytes → IsOver r.lines.limit r.lines.at (held ++ bytes) → number ≡ r.lines.done + 1
        → IsFaultyOf limit d made start ((read ++ bytes) ++ left) w number
    over_started bytes left number unended over is =
        over_from bytes left number over (begins_line (held ++ bytes) left (unended_append held bytes run.unended unended) (over_some bytes over)) is

    -- a line that was gathered whole asks for nothing
    bad_line : (line : List ℕ) → ((q : Asking) → AsksFor os (line_text line) q → ⊥) → IsBad limit os (r.lines.at + length line) line
    bad_line line none q asked = none q asked.asks

    pub bad_ended : (bytes left line : List ℕ) (next : Writing) (number : ℕ) → IsEnded bytes → line ≡ held ++ bytes → ((q : Asking) → AsksFor os (line_text line) q → ⊥) → next ≡ w
        → number ≡ r.lines.done + 1 → IsFaultyOf limit d made start ((read ++ bytes) ++ left) next number
    bad_ended bytes left line next number ended gathered none same is =
        subst (λ (v : Writing). IsFaultyOf limit d made start ((read ++ bytes) ++ left) v number) (sym same)
        (faulty_there ((read ++ bytes) ++ left) number
        (bad_there ((read ++ bytes) ++ left) line (lines_of left)
        (lines_next bytes left ∙ ap (λ (ls : List (List ℕ)). run.stands.front ++ ls) (ended_line held bytes left run.unended ended ∙ ap (λ (t : List ℕ). t ∷ lines_of left) (sym gathered)))
        (bad_line line none)) is)

    lines_last : 0 < length held → lines_of read ≡ run.stands.front ++ held ∷ []
    lines_last some =
        ap lines_of (sym (append-nil read)) ∙ run.stands.lines []
        ∙ ap (λ (t : List ℕ). run.stands.front ++ lines_of t) (append-nil held)
        ∙ ap (λ (ls : List (List ℕ)). run.stands.front ++ ls) (last_line held run.unended some)

    pub bad_last : (next : Writing) (number : ℕ) → 0 < length held → ((q : Asking) → AsksFor os (line_text held) q → ⊥) → next ≡ w → number ≡ r.lines.done + 1 → IsFaultyOf limit d made start read next number
    bad_last next number some none same is =
        subst (λ (v : Writing). IsFaultyOf limit d made start read v number) (sym same)
        (faulty_there read number (bad_there read held [] (lines_last some) (bad_line held none)) is)

    -- ---- a line more: the gathered line was run, and left a state

    -- the state that is shown
    abbrev pub state : List Part
    state = state_after (opening (design_subject d).scheme.kinds) run.rows

    pub shown_of : (old : Run) → old.sim ≡ r.sim → ShowsParts d old state
    shown_of old sim =
        let same = ap (λ (x : Sim). registers_of x) (sym sim) in
        record { fits = run.state.fits; shows = subst (Shows (kinds_of (design_data d)) state) same run.state.shows }

    module _ (old new : Run) (after : List Part) (at : old.lines.at ≡ r.lines.at) (done : old.lines.done ≡ r.lines.done) (most : old.lines.limit ≡ r.lines.limit) (ran : RunsLine d made old new state after) where
      abbrev line : List ℕ
      line = old.lines.held.items

      abbrev row : Row
      row = record { fired = new.fired; after = after }

      one_row : Runs false (design_subject d).scheme made (run.qs ++ asking new.requests ∷ []) (run.rows ++ row ∷ [])
      one_row =
          continues_append false (design_subject d).scheme made (opening (design_subject d).scheme.kinds) run.qs (asking new.requests ∷ []) run.rows (row ∷ []) run.runs
          (ran.happens, tt)

      one_asked : AreAsked limit os 0 (run.stands.front ++ line ∷ []) (run.qs ++ asking new.requests ∷ [])
      one_asked =
          asked_append limit os 0 r.lines.at run.stands.front (line ∷ []) run.qs (asking new.requests ∷ []) (sym stands_at) run.stands.asked
          (record { within = omega (arith, old.lines.within, at, most, run.limit_is); asks = ran.asks }, tt)

      clock_number : old.lines.done + 1 ≡ length run.rows + 1
      clock_number = ap (λ (n : ℕ). n + 1) done ∙ number_is

      -- its clock was put
      pub put_more : (next : Writing) → next ≡ appended (lines_of_clock d old new after) w → next ≡ appended (report (design_subject d) (run.rows ++ row ∷ [])) start
      put_more next put = put_clock (design_subject d) run.rows row (old.lines.done + 1) start w next clock_number run.put put

      -- or a prefix of it
      started_more : (trace : List ℕ) (rest : List (List ℕ)) (next : Writing) → lines_of trace ≡ run.stands.front ++ line ∷ rest → AppendsPrefix (lines_of_clock d old new after) w next
          → IsStartedOf limit d made start trace next
      started_more trace rest next lines prefix = record {
        front = run.stands.front ++ line ∷ [];
        rest = rest;
        qs = run.qs ++ asking new.requests ∷ [];
        rows = run.rows ++ row ∷ [];
        lines = lines ∙ sym (append_assoc run.stands.front (line ∷ []) rest);
        asked = one_asked;
        runs = one_row;
        prefix = started_clock (design_subject d) run.rows row (old.lines.done + 1) start w next clock_number run.put prefix;
      }

      -- ---- of bytes that end the line

      module _ (bytes : List ℕ) (ended : IsEnded bytes) (gathered : line ≡ held ++ bytes) where
        lines_more : (left : List ℕ) → lines_of ((read ++ bytes) ++ left) ≡ run.stands.front ++ line ∷ lines_of left
        lines_more left =
            lines_next bytes left
            ∙ ap (λ (ls : List (List ℕ)). run.stands.front ++ ls) (ended_line held bytes left run.unended ended ∙ ap (λ (t : List ℕ). t ∷ lines_of left) (sym gathered))

        started_ended : (left : List ℕ) (next : Writing) → AppendsPrefix (lines_of_clock d old new after) w next → IsStartedOf limit d made start ((read ++ bytes) ++ left) next
        started_ended left next prefix = started_more ((read ++ bytes) ++ left) (lines_of left) next (lines_more left) prefix

        stands_more : new.lines.done ≡ old.lines.done + 1 → new.lines.at ≡ old.lines.at + length line → new.lines.held.items ≡ []
            → StandsAt limit os (read ++ bytes) new.lines (run.qs ++ asking new.requests ∷ [])
        stands_more is there none = record {
          front = run.stands.front ++ line ∷ [];
          lines = λ left.
              lines_more left ∙ sym (append_assoc run.stands.front (line ∷ []) (lines_of left))
              ∙ ap (λ (t : List ℕ). (run.stands.front ++ line ∷ []) ++ lines_of (t ++ left)) (sym none);
          asked = one_asked;
          done = omega (arith, length-append run.stands.front (line ∷ []), run.stands.done, is, done);
          at = total_append run.stands.front (line ∷ []) ∙ (omega (arith, run.stands.at, there, at));
          long = omega (arith, length-append read bytes, length-append held bytes, ap (λ (t : List ℕ). length t) gathered, ap (λ (t : List ℕ). length t) none, run.stands.long, there, at);
        }

        pub ran_ended : (next : Writing) → EndsLine d made old new w next → next ≡ appended (lines_of_clock d old new after) w → HasRun limit d made start (read ++ bytes) new next
        ran_ended next this put = record {
          qs = run.qs ++ asking new.requests ∷ [];
          rows = run.rows ++ row ∷ [];
          limit_is = this.limit ∙ most ∙ run.limit_is;
          stands = stands_more this.done this.at this.none;
          unended = subst HasNoFeed (sym this.none) tt;
          runs = one_row;
          state = subst (ShowsParts d new) (sym (state_append (opening (design_subject d).scheme.kinds) run.rows (row ∷ []))) ran.shown;
          put = put_more next put;
        }

      -- ---- of the end of the trace

      module _ (gathered : line ≡ held) (some : 0 < length held) where
        lines_whole : lines_of read ≡ run.stands.front ++ line ∷ []
        lines_whole = lines_last some ∙ ap (λ (t : List ℕ). run.stands.front ++ t ∷ []) (sym gathered)

        started_last : (next : Writing) → AppendsPrefix (lines_of_clock d old new after) w next → IsStartedOf limit d made start read next
        started_last next prefix = started_more read [] next lines_whole prefix

        pub done_last : (next : Writing) → next ≡ appended (lines_of_clock d old new after) w → IsDoneOf limit d made start read next
        done_last next put = record {
          qs = run.qs ++ asking new.requests ∷ [];
          rows = run.rows ++ row ∷ [];
          clean = subst (λ (ls : List (List ℕ)). AreAsked limit os 0 ls (run.qs ++ asking new.requests ∷ [])) (sym lines_whole) one_asked;
          runs = one_row;
          put = put_more next put;
        }

    -- ---- whatever came of a line

    module _ (old new : Run) (at : old.lines.at ≡ r.lines.at) (done : old.lines.done ≡ r.lines.done) (most : old.lines.limit ≡ r.lines.limit) where
      pub stepped_ended : (bytes left : List ℕ) (next : Writing) → IsEnded bytes → old.lines.held.items ≡ held ++ bytes → Stepped d made old new state w next → IsStartedOf limit d made start ((read ++ bytes) ++ left) next
      stepped_ended bytes left next ended gathered (one_clock this) = started_ended old new this.after at done most this.ran bytes ended gathered left next this.prefix
      stepped_ended bytes left next ended gathered (no_clock same) = subst (λ (v : Writing). IsStartedOf limit d made start ((read ++ bytes) ++ left) v) (sym same) (started_here bytes left)

      pub stepped_last : (next : Writing) → old.lines.held.items ≡ held → 0 < length held → Stepped d made old new state w next → IsStartedOf limit d made start read next
      stepped_last next gathered some (one_clock this) = started_last old new this.after at done most this.ran gathered some next this.prefix
      stepped_last next gathered some (no_clock same) = subst (λ (v : Writing). IsStartedOf limit d made start read v) (sym same) started_whole

    -- nothing was begun of a line at the end of the trace
    pub done_here : held ≡ [] → IsDoneOf limit d made start read w
    done_here none =
        let lines : lines_of read ≡ run.stands.front =
        ap lines_of (sym (append-nil read)) ∙ run.stands.lines [] ∙ ap (λ (t : List ℕ). run.stands.front ++ lines_of (t ++ [])) none ∙ append-nil run.stands.front in
        record {
          qs = run.qs;
          rows = run.rows;
          clean = subst (λ (ls : List (List ℕ)). AreAsked limit os 0 ls run.qs) (sym lines) run.stands.asked;
          runs = run.runs;
          put = run.put;
        }

    -- bytes were gathered that end no line
    pub gathered_more : (bytes : List ℕ) (lines : Lines) → HasNoFeed bytes → lines.held.items ≡ held ++ bytes → lines.done ≡ r.lines.done → lines.at ≡ r.lines.at → lines.limit ≡ r.lines.limit
        → HasRun limit d made start (read ++ bytes) (record r { lines = lines }) w
    gathered_more bytes lines unended gathered done at most = record {
      qs = run.qs;
      rows = run.rows;
      limit_is = most ∙ run.limit_is;
      stands = record {
        front = run.stands.front;
        lines = λ left. lines_next bytes left ∙ ap (λ (t : List ℕ). run.stands.front ++ lines_of (t ++ left)) (sym gathered);
        asked = run.stands.asked;
        done = run.stands.done ∙ sym done;
        at = run.stands.at ∙ sym at;
        long = omega (arith, length-append read bytes, length-append held bytes, ap (λ (t : List ℕ). length t) gathered, run.stands.long, at);
      };
      unended = subst HasNoFeed (sym gathered) (unended_append held bytes run.unended unended);
      runs = run.runs;
      state = record { fits = run.state.fits; shows = run.state.shows };
      put = run.put;
    }

    -- ---- how far was read

    -- no byte that was read comes after the first bad line
    pub read_within : (trace left : List ℕ) (qs : List Asking) → trace ≡ read ++ left → HasBadLine limit os trace qs → length read ≤ bytes_in (length qs + 1) (lines_of trace)
    read_within trace left qs whole bad =
        let lines : lines_of trace ≡ run.stands.front ++ lines_of (held ++ left) = ap lines_of whole ∙ run.stands.lines left in
        let behind = bad_after limit os 0 r.lines.at run.stands.front (lines_of (held ++ left)) run.qs qs (sym stands_at) run.stands.asked
        (subst (λ (ls : List (List ℕ)). AreAskedToBad limit os 0 ls qs) lines bad) in
        let long = behind.long in
        let count : length qs + 1 ≡ length run.stands.front + (length behind.more + 1) = omega (arith, long) in
        let all : bytes_in (length qs + 1) (lines_of trace) ≡ total run.stands.front + bytes_in (length behind.more + 1) (lines_of (held ++ left)) =
        ap (λ (n : ℕ). bytes_in n (lines_of trace)) count ∙ ap (bytes_in (length run.stands.front + (length behind.more + 1))) lines
        ∙ bytes_after run.stands.front (lines_of (held ++ left)) (length behind.more + 1) in
        omega (arith, all, run.stands.at, run.stands.long, held_within held left (length behind.more) run.unended)

-- a piece, of which so much is gone, and whose next line comes before the rest
pub cut : (read gone line behind piece rest left : List ℕ) → piece ≡ gone ++ rest → rest ≡ line ++ behind → ((read ++ gone) ++ line) ++ (behind ++ left) ≡ (read ++ piece) ++ left
cut read gone line behind piece rest left whole next =
    sym (append_assoc ((read ++ gone) ++ line) behind left)
    ∙ ap (λ (t : List ℕ). t ++ left)
    (append_assoc (read ++ gone) line behind ∙ append_assoc read gone (line ++ behind)
    ∙ ap (λ (t : List ℕ). read ++ (gone ++ t)) (sym next) ∙ ap (λ (t : List ℕ). read ++ t) (sym whole))

pub cut_rest : (read gone piece rest : List ℕ) → piece ≡ gone ++ rest → (read ++ gone) ++ rest ≡ read ++ piece
cut_rest read gone piece rest whole = append_assoc read gone rest ∙ ap (λ (t : List ℕ). read ++ t) (sym whole)

-- the start of a trace
pub nothing_run : (limit : ℕ) (d : Design) (made : Schedule) (start : Writing) (r : Run) (w : Writing) → r.lines.limit ≡ limit → r.lines.done ≡ 0 → r.lines.at ≡ 0 → r.lines.held.items ≡ []
    → ShowsParts d r (opening (design_subject d).scheme.kinds) → w ≡ appended (opening_text (design_subject d).parts (opening (design_subject d).scheme.kinds)) start → HasRun limit d made start [] r w
nothing_run limit d made start r w limit_is done at none state put = record {
  qs = [];
  rows = [];
  limit_is = limit_is;
  stands = record {
    front = [];
    lines = λ left. ap (λ (t : List ℕ). lines_of (t ++ left)) (sym none);
    asked = tt;
    done = sym done;
    at = sym at;
    long = omega (arith, at, ap (λ (t : List ℕ). length t) none);
  };
  unended = subst HasNoFeed (sym none) tt;
  runs = tt;
  state = state;
  put = put ∙ ap (λ (t : List ℕ). appended t start) (sym (report_none (design_subject d)));
}
