-- Where the kind of a part is known: the piece that is placed for the guard of a method, and for what it gives.
use Rattle.std.proofs.Common.{◌≡◌, ◌∙◌, ℕ, ◌<◌, Bool, false, ◌&&◌, cond, not, List, [], Option, Some, None, ap, ap₂}
use Rattle.std.specs.Prelude.{slice_get, nat_lt}
use Rattle.std.proofs.lemmas.Bool.{lt-ltb}
use Rattle.bsv_design.specs.declared.kind.Kind.{Kind}
use Rattle.bsv_design.specs.parts.Kinds.{kind_table}
use Rattle.bsv_net.specs.declared.node.NetNode.{NetNode}
use Rattle.bsv_net.specs.Placing.{Placed, piece}
use Rattle.bsv_fire.specs.Bodies.{Ports, guard, result, wires_of}
use Rattle.bsv_fire.specs.Grounds.{Base}

module _ (g : Base) (ports : Ports) where
  -- nothing is placed
  abbrev stays : List NetNode → Placed
  stays ns = record { nodes = ns; place = g.none }

  abbrev guard_in : Option Kind → ℕ → ℕ → List NetNode → Placed
  guard_in None i m ns = stays ns
  guard_in (Some k) i m ns =
      cond (nat_lt m (kind_table k).methods) (piece (wires_of g ports i m []) ns ((kind_table k).guard_piece m)) (stays ns)

  pub guard_there : (i m : ℕ) (ns : List NetNode) (k : Kind) → slice_get g.kinds i ≡ Some k → m < (kind_table k).methods
      → guard g ports i m ns ≡ piece (wires_of g ports i m []) ns ((kind_table k).guard_piece m)
  unfolding guard
  guard_there i m ns k there l =
      ap (λ (o : Option Kind). guard_in o i m ns) there
      ∙ ap (λ (b : Bool). cond b (piece (wires_of g ports i m []) ns ((kind_table k).guard_piece m)) (stays ns)) (lt-ltb m (kind_table k).methods l)

  abbrev result_in : Option Kind → ℕ → ℕ → List ℕ → List NetNode → Placed
  result_in None i m args ns = stays ns
  result_in (Some k) i m args ns =
      cond (nat_lt m (kind_table k).methods && not ((kind_table k).is_action m))
      (piece (wires_of g ports i m args) ns ((kind_table k).result_piece m)) (stays ns)

  pub result_there : (i m : ℕ) (args : List ℕ) (ns : List NetNode) (k : Kind) → slice_get g.kinds i ≡ Some k
      → m < (kind_table k).methods → (kind_table k).is_action m ≡ false
      → result g ports i m args ns ≡ piece (wires_of g ports i m args) ns ((kind_table k).result_piece m)
  unfolding result
  result_there i m args ns k there l gives =
      ap (λ (o : Option Kind). result_in o i m args ns) there
      ∙ ap (λ (b : Bool). cond b (piece (wires_of g ports i m args) ns ((kind_table k).result_piece m)) (stays ns))
      (ap₂ (λ (a b : Bool). a && not b) (lt-ltb m (kind_table k).methods l) gives)
