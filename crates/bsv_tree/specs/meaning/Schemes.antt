-- The source as a scheme: what each element of a tree means, whatever methods of primitives give.
use Rattle.std.specs.Prelude.{ℕ, zero, suc, true, List, [], ◌∷◌, ◌++◌, map, Option, Some, None, option_map, if◌then◌else◌}
use Rattle.bsv_bits.specs.Words.{Bits}
use Rattle.bsv_types.specs.declared.modules.Module.{Module}
use Rattle.bsv_design.specs.declared.element.Role.TheVariants as role
use Rattle.bsv_design.specs.design.Bodies.{Target, Answers}
use Rattle.bsv_design.specs.design.Roles.{gives_value}
use Rattle.bsv_design.specs.scheme.Relations.{no_answers}
use Rattle.bsv_design.specs.scheme.Schemes.{Outline, Scheme, no_trace, filled}
use Rattle.bsv_design.specs.scheme.Traces.{Site, Demand, Trace}
use Rattle.bsv_tree.specs.declared.tree.Instance.{Instance}
use Rattle.bsv_tree.specs.tree.Contexts.{Context}
use Rattle.bsv_tree.specs.tree.Elements.{Text, role_of, port_of, element_text, element_count, parts_among, target_of, place_name}
use Rattle.bsv_tree.specs.tree.Trees.{TreeData}
use Rattle.bsv_tree.specs.meaning.Values.{varying, word_of}
use Rattle.bsv_tree.specs.meaning.Evaluation.{Results, SiteCall, Need, Evaluated, Evaluation}
use Rattle.bsv_tree.specs.meaning.Meaning.{rule, top_method}

-- ---- what is met, by the names of the design

abbrev pub site_of : List Instance → SiteCall → Site
site_of is c = record { target = target_of is c.method; action = c.action; taken = c.taken; branches = c.branches; arguments = c.arguments }

abbrev pub demand_of : List Module → List Instance → Need → Demand
demand_of ms is n = record { name = option_map (place_name ms is) n.name; holds = n.truth; taken = n.taken }

abbrev pub results : List Instance → Answers → Results
results is r k m = r k (target_of is m)

-- ---- an element

-- evaluated from its start, in no arm
abbrev pub whole : {A : Type 0} → Evaluation A → Evaluated A
whole m = m (record { taken = true; branches = [] }) 0 0

abbrev pub told : {A : Type 0} → Context → Evaluated A → (A → Option Bits) → Trace
told site e result = record {
  sites = map (site_of site.instances) e.calls;
  demands = map (demand_of site.modules site.instances) e.needs;
  result = result e.gives;
}

-- with what calls give, and its arguments
unfoldable pub text_trace : Text → Answers → List Bits → Trace
text_trace (Text.rule name site x) r ws =
    told site (whole (rule (results site.instances r) site x.condition x.body)) (λ vs. None)
text_trace (Text.method site m) r ws =
    told site (whole (top_method (results site.instances r) site m (map varying ws)))
    (λ x. if gives_value (role_of m.result) then Some (word_of x) else None)

abbrev pub text_outline : Text → Outline
text_outline (Text.rule name site x) = record { name = name; role = role.Rule; ports = [] }
text_outline (Text.method site m) = record { name = m.name; role = role_of m.result; ports = map (port_of site.shapes) m.params }

-- ---- all elements

abbrev pub outline_at : Option Text → List Outline
outline_at None = []
outline_at (Some x) = text_outline x ∷ []

-- of so many elements
abbrev pub outlines_below : TreeData → ℕ → List Outline
outlines_below h zero = []
outlines_below h (suc n) = outlines_below h n ++ outline_at (element_text h n)

abbrev pub trace_at : Option Text → Answers → List Bits → Trace
trace_at None r ws = no_trace
trace_at (Some x) r ws = text_trace x r ws

-- All call sites are met under each look, in all branches but those that a static condition rules out: so those that are met
-- under one look are all
abbrev pub uses_at : Option Text → List Target
uses_at None = []
uses_at (Some x) = map (λ (s : Site). s.target) (text_trace x no_answers (filled (text_outline x).ports [])).sites

unfoldable pub tree_scheme : TreeData → Scheme
tree_scheme h = record {
  kinds = map (λ p. p.kind) (parts_among h.instances);
  elements = outlines_below h (element_count h);
  uses = λ n. uses_at (element_text h n);
  trace = λ n. trace_at (element_text h n);
  pairs = h.pairs;
  asserts = h.asserts;
}
