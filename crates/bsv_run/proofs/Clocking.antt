-- The simulator within a run: its start, and its clocks.
use Rattle.std.proofs.Common.{◌≡◌, ◌∙◌, ℕ, ◌+◌, false, List, [], length, map, sym, ap, subst}
use Rattle.bsv_bits.specs.Words.{Bits}
use Rattle.bsv_io.specs.Writing.{Writing, appended, AppendsPrefix}
use Rattle.bsv_prim.specs.declared.part.Part.{Part}
use Rattle.bsv_design.specs.declared.design.Design.{Design}
use Rattle.bsv_design.specs.declared.kind.Kind.{Kind}
use Rattle.bsv_design.specs.declared.schedule.Schedule.{Schedule}
use Rattle.bsv_design.specs.scheme.Rooms.{HasRoom}
use Rattle.bsv_design.specs.scheme.Schemes.{Asking, design_scheme, kinds_of}
use Rattle.bsv_design.specs.scheme.Seen.{asking, design_data}
use Rattle.bsv_design.specs.scheme.States.{AskingFits, FitsKinds, nothing_asked, opening}
use Rattle.bsv_net.specs.declared.net.Net.{Net}
use Rattle.bsv_net.specs.ShowsByNet.{NetCarries}
use Rattle.bsv_clock.specs.Shows.{Shows, cell, cells_of}
use Rattle.bsv_clock.specs.Subjects.{design_subject}
use Rattle.bsv_clock.proofs.OneRun.{opening_fits}
use Rattle.bsv_sim.specs.Simulation.{CanClock, IsClockOf, IsShown, IsSimulated, net_of, registers_of}
use Rattle.bsv_trace.specs.Lines.{AsksFor}
use Rattle.bsv_trace.specs.Shown.{ShowParts}
use Rattle.bsv_trace.specs.Texts.{clock_text, name_at}
use Rattle.bsv_run.specs.declared.run.Run.{Run}
use Rattle.bsv_run.specs.Running.{BeginsClock, FitsRun, IsStart, PutsClock, RunsLine, ShowsParts, lines_of_clock}
use Rattle.bsv_run.specs.Traces.{line_text}
use Rattle.bsv_run.proofs.Named.{clock_same}

-- ---- the start

registers_there : (d : Design) (made : Schedule) (n : Net) → NetCarries false (design_scheme (design_data d)) made n
    → map cell n.registers ≡ cells_of (kinds_of (design_data d))
unfolding design_scheme
registers_there d made n carries = carries.words.registers

pub begins : (limit : ℕ) (d : Design) (made : Schedule) (n : Net) (r : Run) → IsSimulated d made n → net_of r.sim ≡ n
    → ((ks : List Kind) → map cell n.registers ≡ cells_of ks → Shows ks (opening ks) (registers_of r.sim))
    → AskingFits d.elements (asking r.requests) → asking r.requests ≡ nothing_asked d.elements → HasRoom (length d.elements) r.fired
    → r.lines.limit ≡ limit → r.lines.done ≡ 0 → r.lines.at ≡ 0 → r.lines.held.items ≡ [] → IsStart limit d made r
begins limit d made n r simulated net shows asks nothing room limit_is done at none =
    let ks = kinds_of (design_data d) in
    let shown : ShowsParts d r (opening ks) = record {
      fits = opening_fits ks;
      shows = shows ks (registers_there d made n simulated.carries);
    } in
    record {
      fits = record {
        simulated = subst (IsSimulated d made) (sym net) simulated;
        parts = opening ks;
        shown = shown;
        requests = asks;
        room = room;
      };
      limit_is = limit_is;
      done = done;
      at = at;
      none = none;
      nothing = nothing;
      state = shown;
    }

-- ---- a clock

module _ (d : Design) (made : Schedule) (old : Run) (fits : FitsRun d made old) where
  shown_for : (q : Asking) → AskingFits d.elements q → (s : List Part) → ShowsParts d old s → IsShown d q s (registers_of old.sim)
  shown_for q asks s shown = record { requests = asks; parts = shown.fits; shows = shown.shows }

  pub can_clock : (q : Asking) → AskingFits d.elements q → CanClock old.sim made q old.fired
  can_clock q asks = record {
    design = d;
    state = fits.parts;
    simulated = fits.simulated;
    shown = shown_for q asks fits.parts fits.shown;
    room = fits.room;
  }

  module _ (new : Run) (asks : AskingFits d.elements (asking new.requests))
      (clock : (e : Design) (s : List Part) → IsSimulated e made (net_of old.sim) → IsShown e (asking new.requests) s (registers_of old.sim)
      → IsClockOf e made (asking new.requests) s new.fired (registers_of new.sim)) where
    pub clock_from : (s : List Part) → ShowsParts d old s → IsClockOf d made (asking new.requests) s new.fired (registers_of new.sim)
    clock_from s shown = clock d s fits.simulated (shown_for (asking new.requests) asks s shown)

    pub shown_after : (s : List Part) (shown : ShowsParts d old s) → ShowsParts d new (clock_from s shown).after
    shown_after s shown = record { fits = (clock_from s shown).fits; shows = (clock_from s shown).shows }

    pub fits_after : net_of new.sim ≡ net_of old.sim → HasRoom (length d.elements) new.fired → FitsRun d made new
    fits_after net room = record {
      simulated = subst (IsSimulated d made) (sym net) fits.simulated;
      parts = (clock_from fits.parts fits.shown).after;
      shown = shown_after fits.parts fits.shown;
      requests = asks;
      room = room;
    }

    -- what the writer of a clock asks for
    pub written : (ws : List Bits) → ws ≡ registers_of new.sim → (s : List Part) (shown : ShowsParts d old s) → ShowParts d.parts ws (clock_from s shown).after
    written ws same s shown =
        let after = (clock_from s shown).after in
        record {
          fits = (clock_from s shown).fits;
          shows = subst (Shows (kinds_of (design_data d)) after) (sym same) (clock_from s shown).shows;
        }

    module _ (asked : AsksFor (design_subject d).scheme.elements (line_text old.lines.held.items) (asking new.requests)) (s : List Part) (shown : ShowsParts d old s) where
      abbrev after : List Part
      after = (clock_from s shown).after

      ran : RunsLine d made old new s after
      ran = record { asks = asked; happens = (clock_from s shown).happens; shown = shown_after s shown }

      same_lines : (number : ℕ) → number ≡ old.lines.done + 1 → clock_text (name_at d.elements) number new.fired d.parts after ≡ lines_of_clock d old new after
      same_lines number is =
          ap (λ (n : ℕ). clock_text (name_at d.elements) n new.fired d.parts after) is
          ∙ clock_same d (old.lines.done + 1) new.fired after

      pub begins_clock : (number : ℕ) (w next : Writing) → number ≡ old.lines.done + 1
          → AppendsPrefix (clock_text (name_at d.elements) number new.fired d.parts after) w next → BeginsClock d made old new s w next
      begins_clock number w next is put = record {
        after = after;
        ran = ran;
        prefix = subst (λ (t : List ℕ). AppendsPrefix t w next) (same_lines number is) put;
      }

      pub puts_clock : (number : ℕ) (w next : Writing) → number ≡ old.lines.done + 1
          → next ≡ appended (clock_text (name_at d.elements) number new.fired d.parts after) w → PutsClock d made old new s w next
      puts_clock number w next is put = record {
        after = after;
        ran = ran;
        put = put ∙ ap (λ (t : List ℕ). appended t w) (same_lines number is);
      }
