-- The calls that an element makes: those of methods that act, in the arms that are taken, each on its part.
use Rattle.std.specs.Prelude.{ℕ, cond, ◌&&◌, List, [], ◌∷◌, slice_get, slice_set}
use Rattle.bsv_design.specs.declared.kind.Kind.{Kind}
use Rattle.bsv_design.specs.scheme.Schemes.{Called}
use Rattle.bsv_design.specs.scheme.Serial.{rank}
use Rattle.bsv_design.specs.scheme.Traces.{Site}
use Rattle.bsv_serial.specs.declared.calls_made.MadeCall.{MadeCall}
use Rattle.bsv_serial.specs.CallsMade.{added}
use Rattle.bsv_serial.specs.Sights.{or_none}

-- the call, as the element makes it that has this place in the execution order
abbrev pub made_at : List Kind → ℕ → Called → MadeCall
made_at ks place c = record { place = place; rank = rank ks c; method = c.target.method; args = c.arguments }

-- one call more on its part
unfoldable pub with_call : List Kind → ℕ → List (List MadeCall) → Called → List (List MadeCall)
with_call ks place calls_made c =
    slice_set calls_made c.target.part (added (made_at ks place c) (or_none (slice_get calls_made c.target.part)))

abbrev pub called_at : Site → Called
called_at s = record { target = s.target; arguments = s.arguments }

abbrev pub with_site : List Kind → ℕ → List (List MadeCall) → Site → List (List MadeCall)
with_site ks place calls_made s = cond (s.action && s.taken) (with_call ks place calls_made (called_at s)) calls_made

unfoldable pub with_sites : List Kind → ℕ → List (List MadeCall) → List Site → List (List MadeCall)
with_sites ks place calls_made [] = calls_made
with_sites ks place calls_made (s ∷ ss) = with_sites ks place (with_site ks place calls_made s) ss
