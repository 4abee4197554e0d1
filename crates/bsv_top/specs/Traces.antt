-- What a trace asks for, of as many bytes as a trace may have.
use Rattle.std.specs.Prelude.{ℕ, List}
use Rattle.bsv_design.specs.scheme.Schemes.{Asking, Outline}
use Rattle.bsv_run.specs.Traces as traces

-- how many bytes a trace may have
abbrev pub trace_limit : ℕ
trace_limit = 67108864

-- all lines of the trace ask for these requests
abbrev pub IsClean : List Outline → List ℕ → List Asking → Type 0
IsClean outlines trace qs = traces.IsClean trace_limit outlines trace qs

-- the first bad line of the trace comes after lines that ask for these requests
abbrev pub HasBadLine : List Outline → List ℕ → List Asking → Type 0
HasBadLine outlines trace qs = traces.HasBadLine trace_limit outlines trace qs
