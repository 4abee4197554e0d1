-- The words of the nodes of a net are what its nodes compute, one after the other.
use Rattle.std.proofs.Common.{◌≡◌, ◌∙◌, ℕ, ◌+◌, ◌<◌, true, List, [], ◌∷◌, ◌++◌, length, get_or, take, drop, Some, sym, ap, arith}
use Rattle.std.specs.Prelude.{slice_get}
use Rattle.std.specs.List.{list_all}
use Rattle.std.proofs.lemmas.List.{take_at, take-append-drop, length-take-le, map-append, append_assoc}
use Rattle.std.proofs.lemmas.Option.{slice_get_within, slice_get-get_or}
use Rattle.bsv_lemmas.proofs.Places.{at_middle}
use Rattle.bsv_bits.specs.Words.{Bits}
use Rattle.bsv_design.specs.design.Bodies.{at, of_parts, values}
use Rattle.bsv_design.specs.design.Words.{or_zero}
use Rattle.bsv_design.specs.scheme.Relations.{no_answers}
use Rattle.bsv_design.proofs.Bodies.{words_append, words_grown}
use Rattle.bsv_guard.specs.Fitting.{HaveWidths}
use Rattle.bsv_guard.proofs.BodyFits.{word_there}
use Rattle.bsv_guard.proofs.Lists.{holds_at_all}
use Rattle.bsv_net.specs.declared.node.NetNode.{NetNode}
use Rattle.bsv_net.specs.Equations.{computed}
use Rattle.bsv_net.specs.Nets.{as_node, as_nodes, is_within, word, words}
use Rattle.bsv_net.proofs.Evaluating.{words_long, words_more}
use Rattle.bsv_net.proofs.Solution.{as_computed}
use Rattle.bsv_engine.specs.Cells.{IsSolved}

-- the words of the first nodes stand in front
words_front : (xs : List NetNode) (inputs registers : List Bits) (k : ℕ) → (more : List Bits) × (words xs inputs registers ≡ words (take k xs) inputs registers ++ more)
unfolding words
words_front xs inputs registers k =
    let n : ℕ = length inputs in
    let args : List Bits = inputs ++ registers in
    let split : as_nodes n xs ≡ as_nodes n (take k xs) ++ as_nodes n (drop k xs) =
    ap (as_nodes n) (sym (take-append-drop k xs)) ∙ map-append (as_node n) (take k xs) (drop k xs) in
    let grown = words_grown (of_parts no_answers) args [] (values no_answers args [] [] (as_nodes n (take k xs))) (as_nodes n (drop k xs)) in
    (grown.0, ap (values no_answers args [] []) split ∙ words_append (of_parts no_answers) args [] [] (as_nodes n (take k xs)) (as_nodes n (drop k xs)) ∙ grown.1)

module _ (nodes : List NetNode) (inputs registers : List Bits) (m : ℕ) (within : list_all (is_within (length inputs) m) nodes ≡ true) where
  abbrev all : List Bits
  all = words nodes inputs registers

  word_at : (k : ℕ) (x : NetNode) → slice_get nodes k ≡ Some x → at all k ≡ computed inputs registers (at (take k all)) x
  word_at k x there =
      let before : List Bits = words (take k nodes) inputs registers in
      let w : Bits = word inputs registers before x in
      let l : k < length nodes = slice_get_within nodes k x there in
      let count : length before ≡ k = words_long (take k nodes) inputs registers ∙ length-take-le k nodes (omega arith) in
      let front = words_front nodes inputs registers (k + 1) in
      let split : all ≡ before ++ w ∷ front.0 =
      front.1 ∙ ap (λ l. l ++ front.0) (words_more nodes inputs registers k x there) ∙ append_assoc before (w ∷ []) front.0 in
      let first : take k all ≡ before = ap (take k) split ∙ take_at before (w ∷ front.0) k count in
      let here : at all k ≡ w = (
      ap (λ l. at l k) split
      ∙ ap (λ n. at (before ++ w ∷ front.0) n) (sym count)
      ∙ ap or_zero (at_middle before front.0 w)) in
      here
      ∙ as_computed inputs registers before m x (holds_at_all (is_within (length inputs) m) nodes within k x there)
      ∙ ap (λ l. computed inputs registers (at l) x) (sym first)

  pub solved_where : (us : List ℕ) → HaveWidths us all → IsSolved inputs registers nodes us all
  solved_where us have = record {
    long = words_long nodes inputs registers;
    words = word_at;
    fits = λ k l. word_there us all have k (get_or us k 0) (slice_get-get_or us k 0 l);
  }
