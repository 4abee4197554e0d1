-- Elements that stand for a tree, and that are elements of a design each, are a design with its primitives.
use Rattle.std.specs.Prelude.{◌≡◌, ℕ, IsTrue, List, map, slice_get, Some}
use Rattle.bsv_types.specs.declared.modules.Module.{Module}
use Rattle.bsv_types.specs.Names.{countable}
use Rattle.bsv_design.specs.declared.element.Element.{Element}
use Rattle.bsv_design.specs.design.Designs.{DesignData, IsElement, IsDesign}
use Rattle.bsv_tree.specs.tree.Elements.{parts_among}
use Rattle.bsv_tree.specs.tree.Trees.{TreeData}
use Rattle.bsv_inline.proofs.Outlined.{KeepsNames}

-- the design of these elements
abbrev pub laid_out : TreeData → Module → List Element → DesignData
laid_out h m es = record { name = m.name; elements = es; parts = parts_among h.instances; pairs = h.pairs; asserts = h.asserts }

pub is_design : (h : TreeData) (m : Module) (es : List Element) → KeepsNames h es → slice_get h.typed.modules h.top ≡ Some m
    → IsTrue (countable es) → IsTrue (countable (parts_among h.instances))
    → ((n : ℕ) (e : Element) → slice_get es n ≡ Some e → IsElement (map (λ p. p.kind) (parts_among h.instances)) e)
    → IsDesign (laid_out h m es)
is_design h m es kept at few_elements few_parts elements = record {
  name = kept.name m at;
  few_elements = few_elements;
  few_parts = few_parts;
  elements = elements;
  named = kept.named;
  apart = kept.apart;
  paths = kept.paths;
  parts_apart = kept.parts_apart;
  methods_first = kept.methods_first;
  pairs = kept.pairs;
  asserts = kept.asserts;
}
