-- What is promised of a flat body: its nodes mean what the steps do, whatever methods give.
use Rattle.std.specs.Prelude.{◌≡◌, ℕ, List, [], ◌∷◌, length, Option, Some, None, slice_get}
use Rattle.bsv_bits.specs.Words.{Bits, bit}
use Rattle.bsv_tree.specs.declared.steps.Atom.{Atom}
use Rattle.bsv_tree.specs.declared.steps.Step.{Step}
use Rattle.bsv_tree.specs.meaning.Evaluation.{Results, SiteCall, Need}
use Rattle.bsv_tree.specs.carrying.Running.{word_of, happening}
use Rattle.bsv_design.specs.design.Words.{is_one}
use Rattle.bsv_body.specs.declared.body.Body.{Body}
use Rattle.bsv_body.specs.declared.calls.Call.{Call}
use Rattle.bsv_body.specs.declared.calls.Condition.{Condition}
use Rattle.bsv_body.specs.Nodes.{values}

-- the nodes of these numbers have these words
abbrev pub Shows : List Bits → List ℕ → List Bits → Type 0
Shows vs [] [] = Unit {0}
Shows vs (k ∷ ks) (w ∷ ws) = (slice_get vs k ≡ Some w) × Shows vs ks ws
Shows vs _ _ = ⊥

-- where the nodes have these words, the call is the one at the site
pub record IsSite (vs : List Bits) (c : Call) (s : SiteCall) : Type 0 where
  pub method : c.method ≡ s.method
  pub action : c.action ≡ s.action
  pub taken : slice_get vs c.taken ≡ Some (bit s.taken)
  pub branches : c.branches ≡ s.branches
  pub arguments : Shows vs c.arguments s.arguments

abbrev pub AreSites : List Bits → List Call → List SiteCall → Type 0
AreSites vs [] [] = Unit {0}
AreSites vs (c ∷ cs) (s ∷ ss) = IsSite vs c s × AreSites vs cs ss
AreSites vs _ _ = ⊥

-- where the nodes have these words, the condition is this one
pub record IsNeed (vs : List Bits) (c : Condition) (n : Need) : Type 0 where
  pub name : c.name ≡ n.name
  pub word : Bits
  pub truth : slice_get vs c.truth ≡ Some word
  pub holds : is_one word ≡ n.truth
  pub taken : slice_get vs c.taken ≡ Some (bit n.taken)

abbrev pub AreNeeds : List Bits → List Condition → List Need → Type 0
AreNeeds vs [] [] = Unit {0}
AreNeeds vs (c ∷ cs) (n ∷ ns) = IsNeed vs c n × AreNeeds vs cs ns
AreNeeds vs _ _ = ⊥

-- the node has the word that a step names, where these stand
abbrev pub IsResult : List Bits → Option ℕ → Option Atom → List Bits → Type 0
IsResult vs None None ws = Unit {0}
IsResult vs (Some k) (Some a) ws = slice_get vs k ≡ Some (word_of ws a)
IsResult vs _ _ ws = ⊥

-- the words of a body's nodes
abbrev pub words : Results → List Bits → Body → List Bits
words r arguments b = values r arguments b.calls [] b.nodes

-- Whatever methods give, and for all words of so many arguments: the calls, in the order of the text, their arms, which
-- of these are taken, and their arguments; the conditions and their truth; and the result
pub record IsBody (count : ℕ) (ss : List Step) (gives : Option Atom) (b : Body) : Type 0 where
  pub calls : (r : Results) (arguments : List Bits) → length arguments ≡ count
      → AreSites (words r arguments b) b.calls (happening ss r arguments).calls
  pub conditions : (r : Results) (arguments : List Bits) → length arguments ≡ count
      → AreNeeds (words r arguments b) b.conditions (happening ss r arguments).needs
  pub result : (r : Results) (arguments : List Bits) → length arguments ≡ count
      → IsResult (words r arguments b) b.result gives (happening ss r arguments).words
