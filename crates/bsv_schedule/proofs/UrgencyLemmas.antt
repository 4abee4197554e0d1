-- The pairs from which the edges of urgency come.
use Rattle.std.proofs.Common.{◌≡◌, List, length, ap, refl, ◌∙◌}
use Rattle.std.proofs.lemmas.List.{length-map}
use Rattle.bsv_design.specs.declared.attributes.Pair.{Pair}
use Rattle.bsv_graph.specs.declared.edge.Edge.{Edge}
use Rattle.bsv_design.specs.declared.design.Design.{Design}
use Rattle.bsv_design.specs.scheme.Schemes.{design_scheme}
use Rattle.bsv_schedule.specs.relating.Elements.{relating, is_urging, edge_of, edges_of}
use Rattle.bsv_schedule.specs.urgency_order.Answers.{urging_pairs}
use Rattle.bsv_schedule.specs.relating.Elements.{design_relating}

-- there are as many edges as pairs
pub as_many : (ps : List Pair) (es : List Edge) → es ≡ edges_of is_urging ps → length es ≡ length (urging_pairs ps)
as_many ps es e = ap length e ∙ length-map (urging_pairs ps) edge_of

pub urging_of : (d : Design) → (design_relating d).urging ≡ edges_of is_urging d.pairs
unfolding relating design_scheme
urging_of d = refl
