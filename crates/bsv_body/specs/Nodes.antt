-- The words of a flat body whose calls name methods of instances: the definition of flat bodies, with what methods give.
use Rattle.std.specs.Prelude.{ℕ, List, Option}
use Rattle.bsv_bits.specs.Words.{Bits}
use Rattle.bsv_design.specs.design.Bodies.{Calling, at, call_word, word_over, words_after}
use Rattle.bsv_tree.specs.meaning.Evaluation.{Results}
use Rattle.bsv_design.specs.declared.node.Node.{Node}
use Rattle.bsv_body.specs.declared.calls.Call.{Call}

abbrev pub of_methods : Results → Calling Call
of_methods r = record { args = λ c. c.arguments; gives = λ k c ws. r k c.method ws }

-- what the call of this number gives
abbrev pub answer : Results → ℕ → List Bits → Option Call → Bits
answer r c ws o = call_word (of_methods r) (at ws) c o

-- the word of a node after nodes of these words
abbrev pub node_word : Results → List Bits → List Call → List Bits → Node → Bits
node_word r arguments calls ws x = word_over (of_methods r) arguments calls (at ws) x

-- the words of nodes that come after nodes of these words
abbrev pub values : Results → List Bits → List Call → List Bits → List Node → List Bits
values r arguments calls = words_after (of_methods r) arguments calls
