-- What is promised of the flat bodies of a tree: each does what its element does, whatever methods give.
use Rattle.std.specs.Prelude.{◌≡◌, ℕ, ◌+◌, IsTrue, List, [], ◌∷◌, map, length, slice_get, Option, Some, option_map}
use Rattle.std.specs.List.{list_all}
use Rattle.bsv_bits.specs.Words.{Bits}
use Rattle.bsv_types.specs.Names.{countable}
use Rattle.bsv_design.specs.declared.element.Element.{Element}
use Rattle.bsv_design.specs.declared.element.Role.TheVariants as role
use Rattle.bsv_design.specs.declared.kind.Kind.{Kind}
use Rattle.bsv_tree.specs.declared.source.Source.{Source}
use Rattle.bsv_design.specs.design.Bodies.{Answers}
use Rattle.bsv_design.specs.design.Designs.{HasWidths}
use Rattle.bsv_tree.specs.carrying.Sources.{element_at}
use Rattle.bsv_tree.specs.tree.Elements.{parts_among}
use Rattle.bsv_design.specs.scheme.Traces.{body_trace}
use Rattle.bsv_tree.specs.carrying.Sources.{step_trace}
use Rattle.bsv_tree.specs.tree.Trees.{TreeData}
use Rattle.bsv_design.specs.design.Widths.{acts_not}

abbrev pub kinds : TreeData → List Kind
kinds h = map (λ p. p.kind) (parts_among h.instances)

-- the flat body of the element of a position
pub record IsFlat (h : TreeData) (n : ℕ) (e : Element) : Type 0 where
  pub source : Source
  pub at : element_at h n ≡ Some source
  pub name : e.name ≡ source.name
  pub role : e.role ≡ source.role
  pub arguments : e.arguments ≡ source.ports
  -- in text order the same calls in the same arms, the same conditions, and the same result
  pub trace : (r : Answers) (ws : List Bits) → length ws ≡ length source.ports
      → body_trace (kinds h) e r ws ≡ step_trace h.typed.modules h.instances source.steps source.gives r ws

-- of the elements from this position on
abbrev pub AreFlat : TreeData → ℕ → List Element → Type 0
AreFlat h n [] = Unit {0}
AreFlat h n (e ∷ es) = IsFlat h n e × AreFlat h (n + 1) es

-- the name of the top's module
abbrev pub top_name : TreeData → Option (List ℕ)
top_name h = option_map (λ m. m.name) (slice_get h.typed.modules h.top)

-- each node has the words that it needs, and there are not too many; and what gives a value alone does not act
pub record KeepsWidths (h : TreeData) (e : Element) : Type 0 where
  pub fits : HasWidths (kinds h) e
  pub nodes : IsTrue (countable e.nodes)
  pub calls : IsTrue (countable e.calls)
  pub value : e.role ≡ role.Value → IsTrue (list_all (acts_not (kinds h)) e.calls)

-- the flat body of an element of a tree, which keeps them
pub record IsFlatElement (h : TreeData) (n : ℕ) (e : Element) : Type 0 where
  pub flat : IsFlat h n e
  pub keeps : KeepsWidths h e

-- of the elements from this position on
abbrev pub AreFlatElements : TreeData → ℕ → List Element → Type 0
AreFlatElements h n [] = Unit {0}
AreFlatElements h n (e ∷ es) = IsFlatElement h n e × AreFlatElements h (n + 1) es
