-- What is at hand where a tree is laid out.
use Rattle.std.specs.Prelude.{ℕ, List, slice_get, Option, Some, None, Result, Ok, Err, if◌then◌else◌}
use Rattle.bsv_fail.specs.declared.fail.Fail.{Fail}
use Rattle.bsv_types.specs.declared.modules.Method.{Method}
use Rattle.bsv_types.specs.declared.modules.Rule.{Rule}
use Rattle.bsv_types.specs.Shapes.{Shapes}
use Rattle.bsv_design.specs.declared.element.Role.{Role}
use Rattle.bsv_tree.specs.declared.steps.Atom.{Atom}
use Rattle.bsv_design.specs.design.Roles.{gives_value}
use Rattle.bsv_tree.specs.carrying.Values.{atom_of}
use Rattle.bsv_tree.specs.declared.source.Source.{Source}
use Rattle.bsv_tree.specs.declared.statics.Binding.{Binding}
use Rattle.bsv_tree.specs.declared.tree.Built.{Built}
use Rattle.bsv_tree.specs.declared.tree.Made.{Made}
use Rattle.bsv_tree.specs.declared.tree.Made.TheVariants as made
use Rattle.bsv_tree.specs.declared.values.Fault.{Fault}
use Rattle.bsv_tree.specs.declared.values.Value.{Value}
use Rattle.bsv_tree.specs.declared.values.Work.{Work}
use Rattle.bsv_tree.specs.tree.Contexts.{made_of}
use Rattle.bsv_tree.specs.tree.Contexts as contexts
use Rattle.bsv_tree.specs.tree.Seen.{tree_data}
use Rattle.bsv_tree.specs.tree.Elements as sources
use Rattle.bsv_tree.specs.carrying.Sources as the_carried
use Rattle.bsv_tree.specs.tree.Trees as trees
use Rattle.bsv_tree.specs.tree.Trees.{TreeData}
use Rattle.bsv_inline.specs.declared.rules.Placed.{Placed}
use Rattle.bsv_inline.specs.declared.sources.Sources.{Sources}

abbrev pub tree : Sources → TreeData
tree s = tree_data s.tree.now

abbrev pub shapes : Sources → Shapes
shapes s = trees.shapes (tree s).typed

abbrev pub site : Sources → ℕ → List Binding → contexts.Context
site s place bindings = trees.site_of (tree s).typed (tree s).instances place bindings

abbrev pub standing : Placed → sources.PlacedRule
standing p = record { path = p.path.now; built = p.built.now; rule = p.rule.now }

-- what was carried out, where memory was not wanting
abbrev pub method_done : Sources → Method → Result (Value × Work) (Fail Fault) → Option Source
method_done s m (Err f) = None
method_done s m (Ok x) = the_carried.method_done (shapes s) m (Ok x)

abbrev pub method_source : Sources → Built → ℕ → Option Source
method_source s b number = the_carried.method_source (tree s) b (slice_get b.methods number) (slice_get (sources.top_methods (tree s)) number)

abbrev pub rule_text : Sources → Placed → Option Rule
rule_text s p = sources.rule_in (slice_get (tree s).typed.modules p.built.now.«module») p.rule.now.rule

abbrev pub built_of : Option Made → Option Built
built_of (Some (made.Module b)) = Some b
built_of _ = None

abbrev pub top : Sources → Option Built
top s = built_of (made_of (slice_get (tree s).instances 0))

abbrev pub top_source : Sources → ℕ → Option Source
top_source s n = the_carried.top_source (tree s) n (made_of (slice_get (tree s).instances 0))

abbrev pub given_by : Role → Value → Option Atom
given_by r x = if gives_value r then Some (atom_of x) else None
