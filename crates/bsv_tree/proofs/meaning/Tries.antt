-- Small texts, computed. Expressions are written by their nodes, and statements by what each of them does, since the folds over
-- trees are shut: a tree's meaning is its node's by one lemma.
use Rattle.std.proofs.Common.{◌≡◌, ℕ, refl, Bool, true, false, List, [], ◌∷◌, Some, None}
use Rattle.std.specs.Prelude.{pos, slice_get}
use Rattle.bsv_bits.specs.Words.{Bits}
use Rattle.bsv_types.specs.declared.operators.Op.TheVariants as op
use Rattle.bsv_types.specs.Kinds.{bit as bits}
use Rattle.bsv_types.specs.Shapes.{Shapes}
use Rattle.bsv_design.specs.declared.node.Branch.{Branch}
use Rattle.bsv_tree.specs.declared.steps.MethodPlace.{MethodPlace}
use Rattle.bsv_tree.specs.declared.values.Constant.TheVariants as constant
use Rattle.bsv_design.specs.design.Computing as computing
use Rattle.bsv_tree.specs.meaning.Integers as integers
use Rattle.bsv_tree.specs.meaning.Evaluation.{Results, Standing, SiteCall}
use Rattle.bsv_tree.specs.meaning.Values.{static, varying, variable, Variables, assign}
use Rattle.bsv_tree.specs.meaning.Evaluation.{Evaluated, ◌>>=◌, yields, called}
use Rattle.bsv_tree.specs.meaning.Operators as operators
use Rattle.bsv_tree.specs.meaning.Control.{Means, Acts, Branched, chosen, in_turn, or_none, arms, chain, turns}
use Rattle.bsv_tree.specs.meaning.Meaning.{value_in}

word : ℕ → Bits
word n = record { width = 4; value = n }

abbrev place : ℕ → ℕ → MethodPlace
place i m = record { instance = i; method = m }

-- a register of each number holds this number
look : Results
look k m args = record { width = 4; value = m.instance }

here : Standing
here = record { taken = true; branches = [] }

-- ---- expressions

abbrev shapes : Shapes
shapes = record { enums = []; structs = []; interfaces = [] }

abbrev four : ℕ → Means
four n vs = yields (static (constant.Bits (record { width = 4; value = n })))

abbrev whole : ℕ → Means
whole n vs = yields (static (constant.Number (pos n)))

abbrev at : ℕ → Means
at n vs = yields (value_in (slice_get vs n))

abbrev reads : ℕ → Means
reads i vs = called look false (place i 0) (yields [])

abbrev plus : Means → Means → Means
plus a b vs = do
  x ← a vs
  y ← b vs
  yields (operators.of_two shapes op.Add (bits 4) x y)

abbrev below : Means → Means → Means
below a b vs = do
  x ← a vs
  y ← b vs
  yields (operators.of_two shapes op.Less (bits 4) x y)

-- ---- statements

abbrev writes : ℕ → Means → Acts
writes i e vs = called look true (place i 1) (e vs >>= λ x. yields (x ∷ [])) >>= λ x. yields vs

abbrev sets : ℕ → Means → Acts
sets n e vs = e vs >>= λ x. yields (assign vs n x)

abbrev asking : Means → Acts → Branched
asking c a = record { asks = λ vs. c vs >>= λ x. yields (x, []); arm = a }

abbrev start : Variables
start = variable (static (constant.Bits (record { width = 4; value = 0 }))) ∷ []

told : Acts → Evaluated Variables
told a = a start here 0 0

abbrev site : ℕ → ℕ → Bool → Bool → List Branch → List Bits → SiteCall
site i m action taken bs ws = record { method = place i m; action = action; taken = taken; branches = bs; arguments = ws }

abbrev arm : ℕ → ℕ → Branch
arm c a = record { choice = c; arm = a }

-- ---- a swap: `a <= b; b <= a;` of registers 3 and 5: each write stands before its read, and each reads the look
swap : (told (in_turn (writes 3 (reads 5) ∷ writes 5 (reads 3) ∷ []))).calls
    ≡ site 3 1 true true [] (word 5 ∷ []) ∷ site 5 0 false true [] [] ∷ site 5 1 true true [] (word 3 ∷ []) ∷ site 3 0 false true [] [] ∷ []
unfolding told in_turn look here word
swap = refl

-- ---- after `if (a < 4) v = 1; else v = 2;` the variable is that of the taken arm, and not static
join : (told (chain (asking (below (reads 3) (four 4)) (sets 0 (four 1)) ∷ []) (or_none (Some (sets 0 (four 2)))))).gives
    ≡ record { value = varying (word 1); assigned = true } ∷ []
unfolding told chain arms look here word computing.between
join = refl

-- ---- a loop of static turns: `for (i = 0; i < 3; i = i + 1) v = v + 2;`
loop : (turns 9 (below (at 1) (whole 3)) (plus (at 1) (whole 1)) 1 (sets 0 (plus (at 0) (four 2))) (variable (static (constant.Bits (record { width = 4; value = 0 }))) ∷ variable (static (constant.Number (pos 0))) ∷ []) here 0 0).gives
    ≡ record { value = static (constant.Bits (word 6)); assigned = true } ∷ record { value = static (constant.Number (pos 3)); assigned = true } ∷ []
unfolding turns here word computing.between integers.ranged
loop = refl

-- ---- the call in an arm that is not taken is met, and not taken
untaken : (told (chain (asking (below (reads 5) (four 4)) (writes 1 (four 9)) ∷ []) (or_none None))).calls
    ≡ site 5 0 false true [] [] ∷ site 1 1 true false (arm 0 0 ∷ []) (word 9 ∷ []) ∷ []
unfolding told chain arms look here word computing.between
untaken = refl

-- ---- `if (a < 4) .. else if (b < 4) .. else ..`: the second condition stands in no arm of the choice
elses : (told (chain (asking (below (reads 5) (four 4)) (writes 1 (four 9)) ∷ asking (below (reads 2) (four 4)) (writes 6 (four 8)) ∷ []) (or_none (Some (writes 7 (four 7)))))).calls
    ≡ site 5 0 false true [] [] ∷ site 1 1 true false (arm 0 0 ∷ []) (word 9 ∷ [])
    ∷ site 2 0 false true [] [] ∷ site 6 1 true true (arm 0 1 ∷ []) (word 8 ∷ [])
    ∷ site 7 1 true false (arm 0 2 ∷ []) (word 7 ∷ []) ∷ []
unfolding told chain arms look here word computing.between
elses = refl

-- ---- a static condition is decided, and the other arm is not met
decided_at_once : (told (chain (asking (below (four 5) (four 4)) (writes 1 (four 9)) ∷ []) (or_none (Some (writes 7 (four 7)))))).calls
    ≡ site 7 1 true true [] (word 7 ∷ []) ∷ []
unfolding told chain arms look here word computing.between
decided_at_once = refl

-- ---- `a < 4 ? x : b < 4 ? y : z`: the second condition stands in the second arm of the first choice
picks : (chosen (below (reads 5) (four 4) ∷ below (reads 2) (four 4) ∷ []) (reads 8 ∷ reads 9 ∷ reads 10 ∷ []) [] here 0 0).calls
    ≡ site 5 0 false true [] [] ∷ site 8 0 false false (arm 0 0 ∷ []) []
    ∷ site 2 0 false true (arm 0 1 ∷ []) [] ∷ site 9 0 false true (arm 0 1 ∷ arm 1 0 ∷ []) [] ∷ site 10 0 false false (arm 0 1 ∷ arm 1 1 ∷ []) [] ∷ []
unfolding chosen look here word computing.between
picks = refl

picked : (chosen (below (reads 5) (four 4) ∷ below (reads 2) (four 4) ∷ []) (reads 8 ∷ reads 9 ∷ reads 10 ∷ []) [] here 0 0).gives ≡ varying (word 9)
unfolding chosen look here word computing.between
picked = refl

-- ---- what was assigned before an else-if chain, and in no arm of it, is static after it
before : (told (in_turn (sets 0 (four 3) ∷ chain (asking (below (reads 5) (four 4)) (writes 1 (four 9)) ∷ asking (below (reads 2) (four 4)) (writes 6 (four 8)) ∷ []) (or_none None) ∷ []))).gives
    ≡ record { value = static (constant.Bits (word 3)); assigned = true } ∷ []
unfolding told in_turn chain arms look here word computing.between
before = refl
