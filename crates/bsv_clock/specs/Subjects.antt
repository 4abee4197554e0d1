-- What is scheduled and run, with its names: a scheme, and the paths of its parts.
use Rattle.std.specs.Prelude.{ℕ, List, [], slice_get, Option, Some, None}
use Rattle.bsv_design.specs.declared.design.Design.{Design}
use Rattle.bsv_design.specs.declared.design.NamedPart.{NamedPart}
use Rattle.bsv_design.specs.scheme.Schemes.{Scheme, Outline, design_scheme}
use Rattle.bsv_design.specs.scheme.Seen.{design_data}

-- a scheme, whose parts have these paths
pub record Subject : Type 0 where
  pub scheme : Scheme
  pub parts : List NamedPart

-- that of a design
abbrev pub design_subject : Design → Subject
design_subject d = record { scheme = design_scheme (design_data d); parts = d.parts }

abbrev pub outline_name : Option Outline → List ℕ
outline_name None = []
outline_name (Some o) = o.name

-- the name of an element, by its position
abbrev pub element_name : Scheme → ℕ → List ℕ
element_name S n = outline_name (slice_get S.elements n)
