-- What an edge adds to a table whose marks are closed under walks.
use Rattle.std.specs.Prelude.{◌≡◌, ◌≢◌, ℕ, ◌<◌, ◌⊎◌, IsTrue}
use Rattle.bsv_graph.specs.declared.table.Table.{Table}
use Rattle.bsv_graph.specs.Table.{side_of, at}

-- where a leads to b and b to c, a leads to c
abbrev pub IsClosed : Table → Type 0
IsClosed t = (a b c : ℕ) → a < side_of t → b < side_of t → c < side_of t
    → IsTrue (at t a b) → IsTrue (at t b c) → IsTrue (at t a c)

-- the same, for one a and one b
abbrev pub IsRowClosed : Table → ℕ → ℕ → Type 0
IsRowClosed t a b = (c : ℕ) → c < side_of t → IsTrue (at t a b) → IsTrue (at t b c) → IsTrue (at t a c)

-- row a gains b, and what row b has
abbrev pub Extends : Table → ℕ → ℕ → ℕ → ℕ → Type 0
Extends t a b i j = (i ≡ a) × ((j ≡ b) ⊎ IsTrue (at t b j))

-- what the edge adds to row x, where that is not row `to`
abbrev pub GrownAt : Table → ℕ → ℕ → ℕ → ℕ → ℕ → Type 0
GrownAt t x from to i j =
    (i ≡ x) × (x ≢ to) × ((x ≡ from) ⊎ IsTrue (at t x from)) × ((j ≡ to) ⊎ IsTrue (at t to j))

-- what the edge adds
abbrev pub Grown : Table → ℕ → ℕ → ℕ → ℕ → Type 0
Grown t from to i j = ((i ≡ from) ⊎ IsTrue (at t i from)) × ((j ≡ to) ⊎ IsTrue (at t to j))
