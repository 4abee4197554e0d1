-- The elements of a tree as they are carried out, each alone, and the scheme of what is left of them.
use Rattle.std.specs.Prelude.{ℕ, nat_lt, List, [], map, length, slice_get, Option, Some, None, option_map, Result, Ok, Err, if◌then◌else◌}
use Rattle.bsv_bits.specs.Words.{Bits}
use Rattle.bsv_types.specs.declared.modules.Method.{Method}
use Rattle.bsv_types.specs.declared.modules.Module.{Module}
use Rattle.bsv_types.specs.Shapes.{Shapes}
use Rattle.bsv_design.specs.declared.element.Role.TheVariants as role
use Rattle.bsv_design.specs.design.Bodies.{Answers}
use Rattle.bsv_design.specs.design.Roles.{gives_value}
use Rattle.bsv_design.specs.scheme.Traces.{Trace}
use Rattle.bsv_tree.specs.declared.source.Source.{Source}
use Rattle.bsv_tree.specs.declared.steps.Atom.{Atom}
use Rattle.bsv_tree.specs.declared.steps.Step.{Step}
use Rattle.bsv_tree.specs.declared.tree.Built.{Built}
use Rattle.bsv_tree.specs.declared.tree.Instance.{Instance}
use Rattle.bsv_tree.specs.declared.tree.Made.{Made}
use Rattle.bsv_tree.specs.declared.values.Fault.{Fault}
use Rattle.bsv_tree.specs.declared.values.Work.{Work}
use Rattle.bsv_tree.specs.tree.Contexts.{made_of}
use Rattle.bsv_tree.specs.tree.Elements.{Text, PlacedRule, role_of, port_of, method_text, top_methods, top_text, rule_text, rule_at, element_count, target_of}
use Rattle.bsv_tree.specs.tree.Trees.{TreeData}
use Rattle.bsv_tree.specs.meaning.Schemes.{site_of, demand_of}
use Rattle.bsv_tree.specs.carrying.Values.{atom_of}
use Rattle.bsv_tree.specs.carrying.Working.{Valued, no_steps}
use Rattle.bsv_tree.specs.carrying.Carrying as carrying
use Rattle.bsv_tree.specs.carrying.Running.{Happening, word_of, happening}

abbrev pub method_done : Shapes → Method → Valued → Option Source
method_done s m (Err f) = None
method_done s m (Ok x) = Some (record {
  name = m.name;
  role = role_of m.result;
  ports = map (port_of s) m.params;
  steps = x.1.steps;
  gives = if gives_value (role_of m.result) then Some (atom_of x.0) else None;
})

abbrev pub rule_done : List ℕ → Result Work Fault → Option Source
rule_done name (Err f) = None
rule_done name (Ok w) = Some (record { name = name; role = role.Rule; ports = []; steps = w.steps; gives = None })

-- the element of a text
abbrev pub carried : Option Text → Option Source
carried None = None
carried (Some (Text.method site m)) = method_done site.shapes m (carrying.top_method site m 0)
carried (Some (Text.rule name site r)) =
    rule_done name (carrying.rule site r.condition r.body (no_steps (record { weight = 0; slots = 0 })))

abbrev pub method_source : TreeData → Built → Option ℕ → Option Method → Option Source
method_source h b levels m = carried (method_text h b levels m)

abbrev pub top_source : TreeData → ℕ → Option Made → Option Source
top_source h n m = carried (top_text h n m)

abbrev pub rule_source : TreeData → Option PlacedRule → Option Source
rule_source h r = carried (rule_text h r)

-- what has a position
unfoldable pub source_at : TreeData → ℕ → Option Source
source_at h n =
    if nat_lt n (length (top_methods h)) then top_source h n (made_of (slice_get h.instances 0)) else rule_source h (rule_at h.instances n)

-- the element of a position
abbrev pub element_at : TreeData → ℕ → Option Source
element_at h n = if nat_lt n (element_count h) then source_at h n else None

-- what happens, with what methods of parts give
unfoldable pub step_trace : List Module → List Instance → List Step → Option Atom → Answers → List Bits → Trace
step_trace ms is ss gives r arguments = by (happening ss (λ k m. r k (target_of is m)) arguments) where
  by : Happening → Trace
  by h = record { sites = map (site_of is) h.calls; demands = map (demand_of ms is) h.needs; result = option_map (word_of h.words) gives }
