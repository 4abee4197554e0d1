-- What the definitions see of what the code has at hand.
use Rattle.std.specs.Prelude.{◌≡◌, ℕ, nat_lt, Bool, IsTrue, List, length}
use Rattle.std.specs.List.{list_all}
use Rattle.bsv_engine.specs.Engines.{code_of, words_of}
use Rattle.bsv_sim.specs.declared.signals.ElementSignals.{ElementSignals}
use Rattle.bsv_sim.specs.Signals as spec

abbrev pub signals : ElementSignals → spec.Signals
signals r = record {
  words = words_of r.engine.now;
  fires = r.fires.now;
  readies = r.readies.now;
  results = r.results.now;
  nodes = r.nodes;
}

-- each names one of so many nodes
abbrev pub all_below : ℕ → List ℕ → Bool
all_below nodes ns = list_all (λ k. nat_lt k nodes) ns

-- there are the nodes that tell of the elements
pub record HasNodes (r : ElementSignals) : Type 0 where
  pub fires : IsTrue (all_below r.nodes r.fires.now)
  pub readies : IsTrue (all_below r.nodes r.readies.now)
  pub nodes : r.nodes ≡ length (code_of r.engine.now).nodes
