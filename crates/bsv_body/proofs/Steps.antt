-- What single steps of the code leave, from what the calls in them give.
use Rattle.std.proofs.Common.{◌≡◌, ◌∙◌, ℕ, List, [], ◌∷◌, ◌++◌, sym, ap}
use Rattle.bsv_design.specs.declared.node.Node.TheVariants as node
use Rattle.bsv_tree.specs.declared.steps.Atom.{Atom}
use Rattle.bsv_body.specs.declared.calls.Call.{Call}
use Rattle.bsv_body.specs.declared.calls.Condition.{Condition}
use Rattle.bsv_body.specs.declared.choices.Given.{Given}
use Rattle.bsv_body.specs.declared.state.Asked.{Asked}
use Rattle.bsv_body.specs.declared.state.State.{State}
use Rattle.bsv_body.specs.AtHand.{test_nodes}
use Rattle.bsv_body.specs.Flat.{no, cut, closed, operand, placed, picks_from}

abbrev pub asked_of : List Condition → List Call → Asked
asked_of conditions calls = record { calls = calls; conditions = conditions }

abbrev standing : State → List ℕ → State
standing s slots = record { nodes = s.nodes; slots = slots; calls = s.calls; choices = s.choices }

pub closed_as : (count : ℕ) (found : Given) (s after : State) (slots : List ℕ) → after ≡ cut count s → slots ≡ after.slots ++ found.given
    → closed count (found, s) ≡ (found.asked, standing after slots)
closed_as count found s after slots is more =
    ap (λ (x : State). (found.asked, standing x (x.slots ++ found.given))) (sym is) ∙ ap (λ (ks : List ℕ). (found.asked, standing after ks)) (sym more)

pub tests_are : (test : Atom) (left : ℕ) (s first second third : State) (x y z : ℕ) → operand test s ≡ (x, first)
    → placed (node.Pick x left no) first ≡ (y, second) → placed (node.Pick x no left) second ≡ (z, third)
    → test_nodes test left s ≡ ((x, y, z), third)
tests_are test left s first second third x y z o p q =
    ap (λ (t : ℕ × State). let a = placed (node.Pick t.0 left no) t.1 in let b = placed (node.Pick t.0 no left) a.1 in ((t.0, a.0, b.0), b.1)) o
    ∙ ap (λ (a : ℕ × State). let b = placed (node.Pick x no left) a.1 in ((x, a.0, b.0), b.1)) p
    ∙ ap (λ (b : ℕ × State). ((x, y, b.0), b.1)) q

pub picks_more : (test : ℕ) (ks more xs ys : List ℕ) (x y k : ℕ) (others rest : List ℕ) (s after : State) → xs ≡ x ∷ others → ys ≡ y ∷ rest
    → placed (node.Pick test x y) s ≡ (k, after) → more ≡ ks ++ k ∷ [] → picks_from test ks xs ys s ≡ picks_from test more others rest after
unfolding picks_from
picks_more test ks more xs ys x y k others rest s after left right node_is more_is =
    ap (λ l. picks_from test ks l ys s) left ∙ ap (λ r. picks_from test ks (x ∷ others) r s) right
    ∙ ap (λ (o : ℕ × State). picks_from test (ks ++ o.0 ∷ []) others rest o.1) node_is ∙ ap (λ l. picks_from test l others rest after) (sym more_is)
