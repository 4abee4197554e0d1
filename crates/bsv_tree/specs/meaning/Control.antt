-- Choices and loops (Bluespec reference guide, "Conditional statements", "Conditional expressions", "Loop statements"). A
-- static condition is decided, and an arm that it rules out is not met. Of any other condition both arms are met, and one
-- of them is taken.
use Rattle.std.specs.Prelude.{ℕ, zero, suc, ◌+◌, Bool, true, not, ◌&&◌, List, [], ◌∷◌, ◌++◌, take, length, Option, Some, None, if◌then◌else◌}
use Rattle.bsv_tree.specs.meaning.Values.{Value, Variables, is_static, is_true, varied, nothing, assign, begun, joined, restored}
use Rattle.bsv_tree.specs.meaning.Evaluation.{Evaluation, ◌>>=◌, yields, decided, asked, choice, within}

-- ---- expressions: `a ? b : c ? d : e`

abbrev pub Means : Type 0
Means = Variables → Evaluation Value

-- the conditions, and the values. The conditions after the first one stand in the second arm of its choice
unfoldable pub chosen : List Means → List Means → Means
chosen (c ∷ cs) (x ∷ xs) vs = do
  t ← asked (c vs)
  if is_static t then (if is_true t then x vs else chosen cs xs vs) else choice λ n. do
    a ← within n 0 (is_true t) (x vs)
    b ← within n 1 (not (is_true t)) (chosen cs xs vs)
    yields (varied (if is_true t then a else b))
chosen [] (x ∷ xs) vs = x vs
chosen cs [] vs = yields nothing

-- ---- statements: the variables after them

abbrev pub Acts : Type 0
Acts = Variables → Evaluation Variables

unfoldable pub in_turn : List Acts → Acts
in_turn [] vs = yields vs
in_turn (a ∷ others) vs = a vs >>= λ us. in_turn others us

-- with more variables, which end with it, as do those that it declares
abbrev pub scoped : Acts → Variables → Acts
scoped a more vs = a (vs ++ more) >>= λ us. yields (take (length vs) us)

abbrev pub or_none : Option Acts → Acts
or_none None vs = yields vs
or_none (Some a) vs = scoped a [] vs

-- ---- `if`: a condition, the variables that it binds in its arm, and the arm

pub record Branched : Type 0 where
  pub asks : Variables → Evaluation (Value × Variables)
  pub arm : Acts

-- the arms of a choice from this one on; `left` tells whether none before is taken
unfoldable pub arms : ℕ → ℕ → Bool → List Branched → Acts → Acts
arms number arm left [] last vs = within number arm left (last (begun vs))
arms number arm left (b ∷ bs) last vs = do
  t ← b.asks vs
  if is_static t.0 then (if is_true t.0 then within number arm left (scoped b.arm t.1 (begun vs)) else arms number arm left bs last vs) else do
    xs ← within number arm (left && is_true t.0) (scoped b.arm t.1 (begun vs))
    ys ← arms number (arm + 1) (left && not (is_true t.0)) bs last vs
    yields (joined (is_true t.0) xs ys)

abbrev pub choose : List Branched → Acts → Acts
choose bs last vs = (choice λ n. arms n 0 true bs last vs) >>= λ xs. yields (restored vs xs)

-- the choice begins with the first condition that is not static
unfoldable pub chain : List Branched → Acts → Acts
chain [] last vs = last vs
chain (b ∷ bs) last vs = do
  t ← decided (b.asks vs)
  if is_static t.0 then (if is_true t.0 then scoped b.arm t.1 vs else chain bs last vs) else choose (b ∷ bs) last vs

-- ---- loops: so many turns at most, while the condition holds; the step assigns the variable at a place

unfoldable pub turns : ℕ → Means → Means → ℕ → Acts → Acts
turns zero test next at a vs = yields vs
turns (suc n) test next at a vs = do
  t ← decided (test vs)
  if is_true t then (do us ← scoped a [] vs; x ← next us; turns n test next at a (assign us at x)) else yields vs
