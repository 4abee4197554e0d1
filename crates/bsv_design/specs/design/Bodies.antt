-- The words of a flat body: each node is computed of nodes before it, and what a call gives is what its method gives for
-- the words of its arguments (Bluespec reference guide, "Bit, UInt and Int"). They are defined once, whatever names a call;
-- of an element of a design, calls name a method by its part.
use Rattle.std.specs.Prelude.{ℕ, false, List, [], ◌∷◌, ◌++◌, map, Option, Some, None, slice_get}
use Rattle.bsv_bits.specs.Words.{Bits, bit, word_not}
use Rattle.bsv_design.specs.declared.element.Call.{Call}
use Rattle.bsv_design.specs.declared.element.Element.{Element}
use Rattle.bsv_design.specs.declared.node.Node.{Node}
use Rattle.bsv_design.specs.declared.node.Node.TheVariants as node
use Rattle.bsv_design.specs.design.Computing as computing
use Rattle.bsv_design.specs.design.Words.{or_zero}

-- the word of a node, where these words stand
abbrev pub at : List Bits → ℕ → Bits
at ws k = or_zero (slice_get ws k)

-- ---- whatever names a call

-- what a call is to the nodes of its body: which nodes are its arguments, and what the call of this number gives for their
-- words. Calls are numbered in text order
pub record Calling (C : Type 0) : Type 0 where
  pub args : C → List ℕ
  pub gives : ℕ → C → List Bits → Bits

-- the word of a call, where the nodes have these words by their places
abbrev pub call_word : {C : Type 0} → Calling C → (ℕ → Bits) → ℕ → Option C → Bits
call_word g V c None = bit false
call_word g V c (Some x) = g.gives c x (map V (g.args x))

-- with the words of the arguments, and all calls of the body
module _ {C : Type 0} (g : Calling C) (arguments : List Bits) (calls : List C) where
  -- the word of a node, where the nodes before it have these words by their places
  abbrev pub word_over : (ℕ → Bits) → Node → Bits
  word_over V (node.Constant w) = w
  word_over V (node.Argument k) = or_zero (slice_get arguments k)
  word_over V (node.Result c) = call_word g V c (slice_get calls c)
  word_over V (node.Not a) = word_not (V a)
  word_over V (node.Two o a b) = computing.between o (V a) (V b)
  word_over V (node.Pick t a b) = computing.picked (V t) (V a) (V b)
  word_over V (node.Slice a high low) = computing.sliced (V a) high low
  word_over V (node.Join a b) = computing.joined (V a) (V b)
  word_over V (node.Extend a width) = computing.extended (V a) width
  word_over V (node.SignExtend a width) = computing.sign_extended (V a) width

  -- the words of nodes that come after nodes of these words
  unfoldable pub words_after : List Bits → List Node → List Bits
  words_after ws [] = ws
  words_after ws (x ∷ xs) = words_after (ws ++ word_over (at ws) x ∷ []) xs

-- ---- of an element of a design

-- a method of a part, by their places
pub record Target : Type 0 where
  pub part : ℕ
  pub method : ℕ

abbrev pub target : Call → Target
target c = record { part = c.part; method = c.method }

-- what the call of this number gives, of a method of a part for its arguments
abbrev pub Answers : Type 0
Answers = ℕ → Target → List Bits → Bits

abbrev pub of_parts : Answers → Calling Call
of_parts r = record { args = λ c. c.args; gives = λ k c ws. r k (target c) ws }

abbrev pub answer : Answers → ℕ → List Bits → Option Call → Bits
answer r c ws o = call_word (of_parts r) (at ws) c o

-- the word of a node after nodes of these words
abbrev pub node_word : Answers → List Bits → List Call → List Bits → Node → Bits
node_word r arguments calls ws x = word_over (of_parts r) arguments calls (at ws) x

abbrev pub values : Answers → List Bits → List Call → List Bits → List Node → List Bits
values r arguments calls = words_after (of_parts r) arguments calls

-- the words of the nodes of an element
abbrev pub words : Element → Answers → List Bits → List Bits
words e r arguments = values r arguments e.calls [] e.nodes
