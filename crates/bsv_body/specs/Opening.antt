-- How a body begins and ends.
use Rattle.std.specs.Prelude.{ℕ, zero, suc, ◌+◌, true, false, [], Option, Some, None}
use Rattle.bsv_bits.specs.Words.{bit}
use Rattle.bsv_tree.specs.declared.steps.Atom.{Atom}
use Rattle.bsv_design.specs.declared.node.Node.TheVariants as node
use Rattle.bsv_body.specs.declared.state.State.{State}
use Rattle.bsv_body.specs.Flat.{put, stand, operand}

abbrev pub no_nodes : State
no_nodes = record { nodes = []; slots = []; calls = 0; choices = 0 }

-- so many arguments stand, from this place on
unfoldable pub arguments_from : ℕ → ℕ → State → State
arguments_from place zero s = s
arguments_from place (suc more) s = arguments_from (place + 1) more (stand (node.Argument place) s)

-- 1, 0 and the arguments
unfoldable pub opened : ℕ → State
opened count = arguments_from 0 count (put (node.Constant (bit false)) (put (node.Constant (bit true)) no_nodes))

abbrev pub given : Option Atom → State → Option ℕ × State
given None s = (None, s)
given (Some a) s = let o = operand a s in (Some o.0, o.1)
