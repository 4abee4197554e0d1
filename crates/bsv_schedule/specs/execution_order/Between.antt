-- The edges between a value method and the other elements, one by one.
use Rattle.std.specs.Prelude.{ℕ, zero, suc, if◌then◌else◌, List, [], ◌∷◌, ◌++◌}
use Rattle.bsv_graph.specs.declared.edge.Edge.{Edge}
use Rattle.bsv_schedule.specs.relating.Relating.{Relating, goes_only}

-- v is a value method: its edge with e, if there is one
abbrev pub edge_between : Relating → ℕ → ℕ → List Edge
edge_between r v e =
    if r.value e then [] else
    if goes_only r v e then record { from = v; to = e } ∷ [] else
    if goes_only r e v then record { from = e; to = v } ∷ [] else []

-- those beside the elements below k, the last first
abbrev pub edges_between : Relating → ℕ → ℕ → List Edge
edges_between r v zero = []
edges_between r v (suc e) = edge_between r v e ++ edges_between r v e
