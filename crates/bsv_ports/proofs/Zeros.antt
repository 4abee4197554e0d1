-- A word that is 0 for each argument of a method: how they go on with one more.
use Rattle.std.proofs.Common.{◌≡◌, ◌∙◌, ℕ, ◌+◌, List, [], ◌∷◌, ◌++◌, refl, ap}
use Rattle.bsv_bits.specs.Words.{zero_word}
use Rattle.bsv_graph.specs.Edges.{numbers_below}
use Rattle.bsv_prim.specs.Table.{Table}
use Rattle.bsv_net.specs.declared.node.NetNode.{NetNode}
use Rattle.bsv_net.specs.declared.node.NetNode.TheVariants as net
use Rattle.bsv_net.specs.Placing.{add}
use Rattle.bsv_ports.specs.Ports.{PlacedAll, zeros}
use Rattle.bsv_graph.proofs.Below.{numbers_more}

abbrev pub one_zero : Table → ℕ → PlacedAll → ℕ → PlacedAll
one_zero t m p k = record {
  nodes = (add p.nodes (net.Constant (zero_word (t.argument_width m k)))).nodes;
  places = p.places ++ (add p.nodes (net.Constant (zero_word (t.argument_width m k)))).place ∷ [];
}

zeros_after : (t : Table) (m : ℕ) (ns : List NetNode) (so_far : List ℕ) (xs : List ℕ) (k : ℕ)
    → zeros t m ns so_far (xs ++ k ∷ []) ≡ one_zero t m (zeros t m ns so_far xs) k
unfolding zeros
zeros_after t m ns so_far [] k = refl
zeros_after t m ns so_far (x ∷ xs) k =
    let p = one_zero t m (record { nodes = ns; places = so_far }) x in
    zeros_after t m p.nodes p.places xs k

pub zeros_more : (t : Table) (m : ℕ) (ns : List NetNode) (so_far : List ℕ) (n : ℕ)
    → zeros t m ns so_far (numbers_below (n + 1)) ≡ one_zero t m (zeros t m ns so_far (numbers_below n)) n
zeros_more t m ns so_far n = ap (zeros t m ns so_far) (numbers_more n) ∙ zeros_after t m ns so_far (numbers_below n) n
