-- How far a run has read, by the bytes that were given of the file that is current after it.
use Rattle.std.specs.Prelude.{◌≡◌, ◌≤◌, ℕ, ◌+◌, List, length, Some}
use Rattle.bsv_design.specs.declared.schedule.Schedule.{Schedule}
use Rattle.bsv_design.specs.scheme.Schemes.{Asking}
use Rattle.bsv_tree.specs.meaning.Schemes.{tree_scheme}
use Rattle.bsv_tree.specs.tree.Trees.{TreeData}
use Rattle.bsv_io.specs.Reading.{Reading, bytes_given, current_name}
use Rattle.bsv_flow.specs.Compilings.{IsPlanned}
use Rattle.bsv_flow.specs.Sources.{read_limit}
use Rattle.bsv_run.specs.Traces.{bytes_in, lines_of}
use Rattle.bsv_top.specs.Traces.{HasBadLine}

-- a trace is read in pieces of at most so many bytes
abbrev pub piece_limit : ℕ
piece_limit = 4096

-- the trace of this name is current, and was read at most to its end, and at most one piece after its first bad line
pub record IsTraceWithin (file top trace : List ℕ) (contents : List ℕ → List ℕ) (r : Reading) : Type 0 where
  pub current : current_name r ≡ Some trace
  pub end : bytes_given r ≤ length (contents trace)
  pub bad : (tree : TreeData) (made : Schedule) (qs : List Asking) → IsPlanned file contents top tree made
      → HasBadLine (tree_scheme tree).elements (contents trace) qs
      → bytes_given r ≤ bytes_in (length qs + 1) (lines_of (contents trace)) + piece_limit

-- the file that is current was so before, and is where it stood; or no more of it was given than a source is
-- read up to; or it is the trace
pub data ReadsWithin (file top trace : List ℕ) (contents : List ℕ → List ℕ) (old new : Reading) : Type 0 where
  unread : new.current ≡ old.current → ReadsWithin file top trace contents old new
  source : bytes_given new ≤ read_limit → ReadsWithin file top trace contents old new
  run : IsTraceWithin file top trace contents new → ReadsWithin file top trace contents old new
