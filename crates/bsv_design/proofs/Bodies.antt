-- The words of a flat body, whatever names its calls: of nodes one after the other.
use Rattle.std.proofs.Common.{◌≡◌, ◌∙◌, ◌+◌, List, [], ◌∷◌, ◌++◌, length, refl, sym, arith, append_assoc, append-nil, length-append}
use Rattle.bsv_bits.specs.Words.{Bits}
use Rattle.bsv_design.specs.declared.node.Node.{Node}
use Rattle.bsv_design.specs.design.Bodies.{Calling, at, word_over, words_after}

module _ {C : Type 0} (g : Calling C) (arguments : List Bits) (calls : List C) where
  abbrev behind : List Bits → List Node → List Bits
  behind = words_after g arguments calls

  abbrev word : List Bits → Node → Bits
  word ws x = word_over g arguments calls (at ws) x

  -- of nodes in two parts
  pub words_append : (ws : List Bits) (xs ys : List Node) → behind ws (xs ++ ys) ≡ behind (behind ws xs) ys
  unfolding words_after
  words_append ws [] ys = refl
  words_append ws (x ∷ xs) ys = words_append (ws ++ word ws x ∷ []) xs ys

  -- of one node more
  pub words_one : (ws : List Bits) (xs : List Node) (x : Node) → behind ws (xs ++ x ∷ []) ≡ behind ws xs ++ word (behind ws xs) x ∷ []
  unfolding words_after
  words_one ws xs x = words_append ws xs (x ∷ [])

  -- there is a word for each node
  pub words_long : (ws : List Bits) (xs : List Node) → length (behind ws xs) ≡ length ws + length xs
  unfolding words_after
  words_long ws [] = omega arith
  words_long ws (x ∷ xs) = omega (arith, words_long (ws ++ word ws x ∷ []) xs, length-append ws (word ws x ∷ []))

  -- the words so far stay
  pub words_grown : (ws : List Bits) (xs : List Node) → (more : List Bits) × (behind ws xs ≡ ws ++ more)
  unfolding words_after
  words_grown ws [] = ([], sym (append-nil ws))
  words_grown ws (x ∷ xs) =
      let rest = words_grown (ws ++ word ws x ∷ []) xs in
      (word ws x ∷ rest.0, rest.1 ∙ append_assoc ws (word ws x ∷ []) rest.0)
