-- The text of a section: a line with the name of the trace, its report, and a line with the number of its first bad line, where
-- there is one.
use Rattle.std.specs.Prelude.{ℕ, ◌==◌, List, [], ◌++◌, codes, decimal, if◌then◌else◌}
use Rattle.bsv_trace.specs.Texts.{line_feed}
use Rattle.bsv_suite.specs.declared.sections.Section.{Section}

-- what is told of a trace: its name, its report, and the number of its first bad line, or 0 where there is none
pub record Told : Type 0 where
  pub name : List ℕ
  pub text : List ℕ
  pub bad : ℕ

-- what a section tells
abbrev pub told_of : Section → Told
told_of x = record { name = x.name; text = x.text.items; bad = x.bad }

abbrev pub bad_line_text : ℕ → List ℕ
bad_line_text number = codes "trace line " ++ decimal number ++ line_feed

abbrev pub end_text : ℕ → List ℕ
end_text bad = if bad == 0 then [] else bad_line_text bad

unfoldable pub section_text : Told → List ℕ
section_text t = codes "trace " ++ (t.name ++ (line_feed ++ (t.text ++ end_text t.bad)))
