-- The edges between numbers that pass a test.
use Rattle.std.specs.Prelude.{ℕ, zero, suc, ◌<◌, Bool, List, [], ◌∷◌, ◌++◌, map, filter, All}
use Rattle.std.specs.List.{flat_map}
use Rattle.bsv_graph.specs.declared.edge.Edge.{Edge}

-- the edges lead between numbers below n
abbrev pub AllBelow : ℕ → List Edge → Type 0
AllBelow n es = All (λ e. (e.from < n) × (e.to < n)) es

-- the numbers below n, from the least
abbrev pub numbers_below : ℕ → List ℕ
numbers_below zero = []
numbers_below (suc k) = numbers_below k ++ k ∷ []

-- the edges from a to numbers below n that pass the test
abbrev pub edges_from : (ℕ → ℕ → Bool) → ℕ → ℕ → List Edge
edges_from test n a = map (λ b. record { from = a; to = b }) (filter (test a) (numbers_below n))

-- the edges between numbers below n that pass the test, by where they come from and then by where they lead
abbrev pub edges_where : ℕ → (ℕ → ℕ → Bool) → List Edge
edges_where n test = flat_map (edges_from test n) (numbers_below n)
