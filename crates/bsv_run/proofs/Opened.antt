-- A report whose opening state is put.
use Rattle.std.proofs.Common.{◌≡◌, ℕ, List, [], refl, sym, ap, subst}
use Rattle.bsv_prim.specs.declared.part.Part.{Part}
use Rattle.bsv_bits.specs.Words.{Bits}
use Rattle.bsv_clock.specs.Shows.{Shows}
use Rattle.bsv_clock.specs.Subjects.{design_subject}
use Rattle.bsv_design.specs.declared.design.Design.{Design}
use Rattle.bsv_design.specs.declared.schedule.Schedule.{Schedule}
use Rattle.bsv_design.specs.scheme.Schemes.{kinds_of}
use Rattle.bsv_design.specs.scheme.Seen.{design_data}
use Rattle.bsv_design.specs.scheme.States.{opening}
use Rattle.bsv_io.specs.Writing.{Writing, appended, AppendsPrefix}
use Rattle.bsv_io.proofs.Appended.{nothing_put}
use Rattle.bsv_trace.specs.Shown.{ShowParts}
use Rattle.bsv_trace.specs.Texts.{opening_text}
use Rattle.bsv_sim.specs.Simulation.{registers_of}
use Rattle.bsv_run.specs.declared.run.Run.{Run}
use Rattle.bsv_run.specs.Reports.{report}
use Rattle.bsv_run.specs.Running.{HasRun, IsStartedOf, IsStart, ShowsParts}
use Rattle.bsv_run.specs.Traces.{lines_of}
use Rattle.bsv_run.proofs.Named.{kinds_are}
use Rattle.bsv_run.proofs.Runs.{report_none}
use Rattle.bsv_run.proofs.Stepping.{nothing_run}

module _ (limit : ℕ) (d : Design) (made : Schedule) (start w : Writing) where
  -- the state before the first clock
  abbrev pub first_parts : List Part
  first_parts = opening (design_subject d).scheme.kinds

  module _ (trace : List ℕ) where
    no_clock : AppendsPrefix (report (design_subject d) []) start w → IsStartedOf limit d made start trace w
    no_clock prefix = record { front = []; rest = lines_of trace; qs = []; rows = []; lines = refl; asked = tt; runs = tt; prefix = prefix }

    -- nothing is put
    pub nothing_started : w ≡ start → IsStartedOf limit d made start trace w
    nothing_started same = no_clock (subst (λ (v : Writing). AppendsPrefix (report (design_subject d) []) start v) (sym same) (nothing_put (report (design_subject d) []) start))

    -- a prefix of the opening state is put
    pub opening_started : AppendsPrefix (opening_text d.parts first_parts) start w → IsStartedOf limit d made start trace w
    opening_started prefix = no_clock (subst (λ (t : List ℕ). AppendsPrefix t start w) (sym (report_none (design_subject d))) prefix)

  module _ (r : Run) (first : IsStart limit d made r) where
    pub opened_at : ShowsParts d r first_parts
    opened_at = subst (ShowsParts d r) (ap opening (kinds_are d)) first.state

    -- as the writer of the opening asks
    pub shown_here : (ws : List Bits) → ws ≡ registers_of r.sim → ShowParts d.parts ws first_parts
    shown_here ws same =
        record { fits = opened_at.fits; shows = subst (Shows (kinds_of (design_data d)) first_parts) (sym same) opened_at.shows }

    -- the opening state is put
    pub opened : w ≡ appended (opening_text d.parts first_parts) start → HasRun limit d made start [] r w
    opened put = nothing_run limit d made start r w first.limit_is first.done first.at first.none opened_at put
