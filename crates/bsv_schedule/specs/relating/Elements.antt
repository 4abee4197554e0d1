-- How the elements of a design relate: what the two orders are made from.
use Rattle.std.specs.Prelude.{ℕ, ◌==◌, Bool, true, false, ◌&&◌, List, map, filter, length, slice_get, Option, Some, None}
use Rattle.std.specs.List.{list_any}
use Rattle.bsv_design.specs.declared.design.Design.{Design}
use Rattle.bsv_design.specs.declared.element.Role.{Role}
use Rattle.bsv_design.specs.declared.attributes.Attribute.{Attribute}
use Rattle.bsv_design.specs.declared.attributes.Attribute.TheVariants as attribute
use Rattle.bsv_design.specs.declared.attributes.Pair.{Pair}
use Rattle.bsv_design.specs.scheme.Relations.{goes, feeds}
use Rattle.bsv_design.specs.design.Roles.{is_rule, is_value}
use Rattle.bsv_design.specs.scheme.Schemes.{Scheme, design_scheme}
use Rattle.bsv_design.specs.scheme.Seen.{design_data}
use Rattle.bsv_graph.specs.declared.edge.Edge.{Edge}
use Rattle.bsv_schedule.specs.relating.Relating.{Relating}

-- there is an element, and its role passes the test
abbrev pub has_role : (Role → Bool) → Option Role → Bool
has_role test None = false
has_role test (Some r) = test r

abbrev pub is_ordering : Attribute → Bool
is_ordering attribute.ExecutionOrder = true
is_ordering attribute.DescendingUrgency = false
is_ordering attribute.Preempts = false

abbrev pub is_urging : Attribute → Bool
is_urging attribute.ExecutionOrder = false
is_urging attribute.DescendingUrgency = true
is_urging attribute.Preempts = true

abbrev pub is_preempting : Attribute → Bool
is_preempting attribute.ExecutionOrder = false
is_preempting attribute.DescendingUrgency = false
is_preempting attribute.Preempts = true

abbrev pub edge_of : Pair → Edge
edge_of p = record { from = p.before; to = p.after }

-- the pairs of these attributes, in their order
abbrev pub edges_of : (Attribute → Bool) → List Pair → List Edge
edges_of test ps = map edge_of (filter (λ p. test p.attribute) ps)

-- the pair is one of `preempts`, with a on the left and b on the right
abbrev pub preempts : ℕ → ℕ → Pair → Bool
preempts a b p = is_preempting p.attribute && (p.before == a) && (p.after == b)

unfoldable pub relating : Scheme → Relating
relating S = record {
  count = length S.elements;
  goes = goes S;
  feeds = feeds S;
  value = λ a. has_role is_value (slice_get (map (λ o. o.role) S.elements) a);
  rule = λ a. has_role is_rule (slice_get (map (λ o. o.role) S.elements) a);
  ordering = edges_of is_ordering S.pairs;
  urging = edges_of is_urging S.pairs;
  preempts = λ a b. list_any (preempts a b) S.pairs;
}

-- the same of a design
abbrev pub design_relating : Design → Relating
design_relating d = relating (design_scheme (design_data d))
