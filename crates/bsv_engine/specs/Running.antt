-- What running some runs does: where the words before them are kept, their words are kept too.
use Rattle.std.specs.Prelude.{ℕ, ◌≡◌, List, length}
use Rattle.bsv_bits.specs.Words.{Bits}
use Rattle.bsv_engine.specs.declared.running.Given.{Given}
use Rattle.bsv_engine.specs.Cells.{IsSolved, KeptTo}

-- there is a place for each node
pub record HasRoom (g : Given) (ns vs : List ℕ) : Type 0 where
  pub widths : length g.widths.now ≡ length g.nodes.now
  pub narrow : length ns ≡ length g.nodes.now
  pub wide : length vs ≡ length g.nodes.now

-- the words of the first nodes up to one place were kept, and then those up to another one are
abbrev pub Keeps : Given → ℕ → ℕ → List ℕ → List ℕ → List ℕ → List ℕ → Type 0
Keeps g from to ns vs ms us =
    (ws : List Bits) → IsSolved g.inputs.now g.registers.now g.nodes.now g.widths.now ws
    → KeptTo from g.widths.now ns vs ws → KeptTo to g.widths.now ms us ws
