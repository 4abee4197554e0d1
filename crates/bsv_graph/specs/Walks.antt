-- Walks over the edges of a graph, cycles, and the edges that close one. A graph is the list of its edges.
use Rattle.std.specs.Prelude.{◌≡◌, ℕ, ◌<◌, ◌⊎◌, List, [], ◌∷◌, ◌++◌, length}
use Rattle.bsv_graph.specs.declared.edge.Edge.{Edge}

-- an edge leads from a to b
abbrev pub HasEdge : List Edge → ℕ → ℕ → Type 0
HasEdge [] a b = ⊥
HasEdge (e ∷ es) a b = ((a ≡ e.from) × (b ≡ e.to)) ⊎ HasEdge es a b

-- a walk of one edge or more
pub data Walk (es : List Edge) : ℕ → ℕ → Type 0 where
  step : {a b : ℕ} → HasEdge es a b → Walk es a b
  more : {a b c : ℕ} → HasEdge es a b → Walk es b c → Walk es a c

-- a cycle: a walk leads back to where it began
abbrev pub HasCycle : List Edge → Type 0
HasCycle es = (a : ℕ) × Walk es a a

abbrev pub IsAcyclic : List Edge → Type 0
IsAcyclic es = (a : ℕ) → ¬ Walk es a a

-- a is on a cycle, and no lower number is
pub record LeastOnCycle (es : List Edge) (a : ℕ) : Type 0 where
  pub cycle : Walk es a a
  pub lower : (b : ℕ) → b < a → ¬ Walk es b b

-- with these edges, e closes a cycle; an edge from a number to itself does so alone
abbrev pub Closes : List Edge → Edge → Type 0
Closes es e = (e.to ≡ e.from) ⊎ Walk es e.to e.from

-- The edges ps are taken one by one, where es are there at first: each is kept unless it closes a cycle with the edges
-- so far. The last list has all that are there in the end.
pub data Keeps : List Edge → List Edge → List Edge → Type 0 where
  done : {es : List Edge} → Keeps es [] es
  keep : {es ps fs : List Edge} {p : Edge} → ¬ Closes es p → Keeps (p ∷ es) ps fs → Keeps es (p ∷ ps) fs
  drop : {es ps fs : List Edge} {p : Edge} → Closes es p → Keeps es ps fs → Keeps es (p ∷ ps) fs

-- none of ps closes a cycle with es and the earlier ones
abbrev pub NoneCloses : List Edge → List Edge → Type 0
NoneCloses es ps =
    (before behind : List Edge) (p : Edge) → ps ≡ before ++ (p ∷ behind) → ¬ Closes (before ++ es) p

-- the one at k is the first of ps that closes a cycle with es and the earlier ones
pub record ClosesFirst (es ps : List Edge) (k : ℕ) : Type 0 where
  pub before : List Edge
  pub behind : List Edge
  pub edge : Edge
  pub split : ps ≡ before ++ (edge ∷ behind)
  pub place : length before ≡ k
  pub closes : Closes (before ++ es) edge
  pub earlier : NoneCloses es before
