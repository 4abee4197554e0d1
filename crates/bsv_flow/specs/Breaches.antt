-- How two calls of one element that may not be in it are told: the element, the part and the methods, by their names.
use Rattle.std.specs.Prelude.{◌≡◌, ℕ, List, [], slice_get, Option, Some, None}
use Rattle.bsv_design.specs.declared.design.NamedPart.{NamedPart}
use Rattle.bsv_design.specs.design.Designs.{DesignData}
use Rattle.bsv_design.specs.parts.MethodNames.{method_names}
use Rattle.bsv_design.specs.scheme.Relations.{IsFirstBreach}
use Rattle.bsv_design.specs.scheme.Schemes.{design_scheme}
use Rattle.bsv_clock.specs.Subjects.{element_name}
use Rattle.bsv_tree.specs.meaning.Schemes.{tree_scheme}
use Rattle.bsv_tree.specs.tree.Elements.{parts_among}
use Rattle.bsv_design.specs.scheme.Traces.{Site}
use Rattle.bsv_tree.specs.tree.Trees.{TreeData}
use Rattle.bsv_flow.specs.declared.refusal.Refusal.{Refusal}
use Rattle.bsv_flow.specs.declared.refusal.Refusal.TheVariants as refusal

-- what has no name is told by none
abbrev pub or_no_name : Option (List ℕ) → List ℕ
or_no_name None = []
or_no_name (Some name) = name

abbrev pub path_of : Option NamedPart → List ℕ
path_of None = []
path_of (Some p) = p.path

-- the path of a part
abbrev pub part_path : List NamedPart → ℕ → List ℕ
part_path ps n = path_of (slice_get ps n)

abbrev pub method_of : Option NamedPart → ℕ → List ℕ
method_of None m = []
method_of (Some p) m = or_no_name (slice_get (method_names p.kind) m)

-- the name of a method of a part
abbrev pub method_name : List NamedPart → ℕ → ℕ → List ℕ
method_name ps part m = method_of (slice_get ps part) m

-- the refusal tells the first two calls of a tree that may not be in one element
pub record TellsBreach (h : TreeData) (r : Refusal) : Type 0 where
  pub element : ℕ
  pub earlier : ℕ
  pub later : ℕ
  pub one : Site
  pub other : Site
  pub breach : IsFirstBreach (tree_scheme h) element earlier later one other
  pub told : r ≡ refusal.InRule (element_name (tree_scheme h) element) (part_path (parts_among h.instances) one.target.part)
      (method_name (parts_among h.instances) one.target.part one.target.method)
      (method_name (parts_among h.instances) one.target.part other.target.method)

-- the refusal of two calls of a design, of this part by these methods
abbrev pub told_in : DesignData → ℕ → ℕ → ℕ → ℕ → Refusal
told_in b n part first second =
    refusal.InRule (element_name (design_scheme b) n) (part_path b.parts part) (method_name b.parts part first) (method_name b.parts part second)
