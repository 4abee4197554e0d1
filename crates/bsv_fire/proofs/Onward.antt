-- The methods of a part that are seen: how they go on with one more.
use Rattle.std.proofs.Common.{◌≡◌, ◌∙◌, ℕ, ◌+◌, cond, List, [], ◌∷◌, ◌++◌, refl, ap}
use Rattle.bsv_design.specs.declared.kind.Kind.{Kind}
use Rattle.bsv_design.specs.parts.Kinds.{kind_table}
use Rattle.bsv_graph.specs.Edges.{numbers_below}
use Rattle.bsv_fire.specs.Grounds.{Ground}
use Rattle.bsv_fire.specs.FireBuilder.{FireBuilder, with_method, with_seen}
use Rattle.bsv_graph.proofs.Below.{numbers_more}

abbrev pub one_seen : Ground → Kind → ℕ → ℕ → FireBuilder → ℕ → FireBuilder
one_seen g k i y x m = cond ((kind_table k).sees m y) (with_method g k i m x) x

with_seen_after : (g : Ground) (k : Kind) (i y : ℕ) (x : FireBuilder) (ms : List ℕ) (m : ℕ)
    → with_seen g k i y x (ms ++ m ∷ []) ≡ one_seen g k i y (with_seen g k i y x ms) m
unfolding with_seen
with_seen_after g k i y x [] m = refl
with_seen_after g k i y x (n ∷ ms) m = with_seen_after g k i y (one_seen g k i y x n) ms m

pub with_seen_more : (g : Ground) (k : Kind) (i y : ℕ) (x : FireBuilder) (n : ℕ)
    → with_seen g k i y x (numbers_below (n + 1)) ≡ one_seen g k i y (with_seen g k i y x (numbers_below n)) n
with_seen_more g k i y x n =
    ap (with_seen g k i y x) (numbers_more n) ∙ with_seen_after g k i y x (numbers_below n) n
