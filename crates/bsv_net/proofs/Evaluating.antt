-- The words of the nodes of a net, one after the other.
use Rattle.std.proofs.Common.{◌≡◌, ◌∙◌, ℕ, ◌+◌, true, List, [], ◌∷◌, ◌++◌, length, take, Some, refl, ap, subst, arith}
use Rattle.std.proofs.Math.Bool.{Bool-set}
use Rattle.std.specs.Prelude.{slice_get}
use Rattle.std.proofs.lemmas.List.{length-map, map-append}
use Rattle.std.proofs.Math.Logic.{∥∥₁_elim}
use Rattle.bsv_lemmas.proofs.Places.{take_one}
use Rattle.bsv_bits.specs.Words.{Bits}
use Rattle.bsv_design.specs.design.Bodies.{at, of_parts, values, words_after}
use Rattle.bsv_design.specs.scheme.Relations.{no_answers}
use Rattle.bsv_design.proofs.Bodies as bodies
use Rattle.bsv_guard.specs.Fitting.{HaveWidths}
use Rattle.bsv_guard.proofs.Lists.{holds_at_all}
use Rattle.bsv_net.specs.declared.net.Net.{Net}
use Rattle.bsv_net.specs.declared.node.NetNode.{NetNode}
use Rattle.bsv_net.specs.AtHand.{net_data}
use Rattle.bsv_net.specs.Nets.{as_node, as_nodes, is_within, word, words, IsNet}
use Rattle.bsv_net.specs.Equations.{computed}
use Rattle.bsv_net.proofs.Solution.{same_length, as_computed}

pub words_none : (inputs registers : List Bits) → words [] inputs registers ≡ []
unfolding words words_after
words_none inputs registers = refl

-- there is a word for each node
pub words_long : (ns : List NetNode) (inputs registers : List Bits) → length (words ns inputs registers) ≡ length ns
unfolding words
words_long ns inputs registers =
    bodies.words_long (of_parts no_answers) (inputs ++ registers) [] [] (as_nodes (length inputs) ns) ∙ (ap (λ k. 0 + k) (length-map ns (as_node (length inputs))) ∙ omega arith)

-- the words of one node more
pub words_more : (xs : List NetNode) (inputs registers : List Bits) (i : ℕ) (x : NetNode) → slice_get xs i ≡ Some x
    → words (take (i + 1) xs) inputs registers ≡ words (take i xs) inputs registers ++ word inputs registers (words (take i xs) inputs registers) x ∷ []
unfolding words
words_more xs inputs registers i x e =
    let n : ℕ = length inputs in
    let args : List Bits = inputs ++ registers in
    ap (λ (ys : List NetNode). values no_answers args [] [] (as_nodes n ys)) (take_one xs i x e)
    ∙ ap (values no_answers args [] []) (map-append (as_node n) (take i xs) (x ∷ []))
    ∙ bodies.words_one (of_parts no_answers) args [] [] (as_nodes n (take i xs)) (as_node n x)

-- what is at a place of a net is there
pub net_within : (n : Net) (inputs : List Bits) → HaveWidths n.inputs inputs → (k : ℕ) (x : NetNode) → slice_get n.nodes k ≡ Some x → is_within (length inputs) (length n.registers) x ≡ true
net_within n inputs h k x there =
    subst (λ (m : ℕ). is_within m (length n.registers) x ≡ true) (same_length n.inputs inputs h)
    (∥∥₁_elim n.right (Bool-set _ _) (λ (right : IsNet (net_data n)). holds_at_all (is_within (length n.inputs) (length n.registers)) n.nodes right.within k x there))

-- the word that is computed after the first words is that of the node
pub net_word : (n : Net) (inputs registers : List Bits) → HaveWidths n.inputs inputs → (k : ℕ) (x : NetNode) → slice_get n.nodes k ≡ Some x
    → words (take (k + 1) n.nodes) inputs registers ≡ words (take k n.nodes) inputs registers ++ computed inputs registers (at (words (take k n.nodes) inputs registers)) x ∷ []
net_word n inputs registers h k x there =
    words_more n.nodes inputs registers k x there
    ∙ ap (λ (w : Bits). words (take k n.nodes) inputs registers ++ w ∷ []) (as_computed inputs registers (words (take k n.nodes) inputs registers) (length n.registers) x (net_within n inputs h k x there))
