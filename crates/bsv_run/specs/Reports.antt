-- The text of a report: the opening state, and then each clock with what happened in it and the state after it.
use Rattle.std.specs.Prelude.{ℕ, ◌+◌, List, [], ◌∷◌, ◌++◌}
use Rattle.bsv_prim.specs.declared.part.Part.{Part}
use Rattle.bsv_design.specs.scheme.States.{opening}
use Rattle.bsv_trace.specs.Texts.{opening_text, clock_text}
use Rattle.bsv_clock.specs.Runs.{Row}
use Rattle.bsv_clock.specs.Subjects.{Subject, element_name}

-- the clocks of a run, numbered on from a number
abbrev pub clocks_text : Subject → ℕ → List Row → List ℕ
clocks_text s number [] = []
clocks_text s number (row ∷ rows) =
    clock_text (element_name s.scheme) number row.fired s.parts row.after ++ clocks_text s (number + 1) rows

-- the state after the clocks of a run, from a state before them
abbrev pub state_after : List Part → List Row → List Part
state_after s [] = s
state_after s (row ∷ rows) = state_after row.after rows

-- the report of a run
unfoldable pub report : Subject → List Row → List ℕ
report s rows = opening_text s.parts (opening s.scheme.kinds) ++ clocks_text s 1 rows
