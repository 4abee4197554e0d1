-- Values of the source under a look, and variables (Bluespec reference guide, "Static elaboration"). A value is static
-- where it is built of literals, labels, static variables and parameters alone. Where there is no value at all, which
-- no accepted design asks for, it is False.
use Rattle.std.specs.Prelude.{ℕ, ◌==◌, Bool, true, false, ◌||◌, List, [], ◌∷◌, map, slice_set, if◌then◌else◌}
use Rattle.bsv_bits.specs.Words.{Bits, bit}
use Rattle.bsv_tree.specs.declared.values.Constant.{Constant}
use Rattle.bsv_tree.specs.declared.values.Constant.TheVariants as constant

pub data Value : Type 0 where
  static : Constant → Value
  varying : Bits → Value

-- an Integer has no bits, and is never a word
abbrev pub constant_word : Constant → Bits
constant_word (constant.Number n) = bit false
constant_word (constant.Bits w) = w

abbrev pub word_of : Value → Bits
word_of (static c) = constant_word c
word_of (varying w) = w

abbrev pub is_static : Value → Bool
is_static (static c) = true
is_static (varying w) = false

abbrev pub all_static : List Value → Bool
all_static [] = true
all_static (x ∷ xs) = if is_static x then all_static xs else false

-- the same value, which is not static
abbrev pub varied : Value → Value
varied x = varying (word_of x)

abbrev pub truth : Bool → Value
truth b = static (constant.Bits (bit b))

abbrev pub nothing : Value
nothing = truth false

abbrev pub is_true : Value → Bool
is_true x = (word_of x).value == 1

-- what is computed of static values is static
abbrev pub one : (Bits → Bits) → Value → Value
one f (static c) = static (constant.Bits (f (constant_word c)))
one f (varying w) = varying (f w)

abbrev pub two : (Bits → Bits → Bits) → Value → Value → Value
two f (static c) (static d) = static (constant.Bits (f (constant_word c) (constant_word d)))
two f x y = varying (f (word_of x) (word_of y))

abbrev pub three : (Bits → Bits → Bits → Bits) → Value → Value → Value → Value
three f (static c) (static d) (static e) = static (constant.Bits (f (constant_word c) (constant_word d) (constant_word e)))
three f x y z = varying (f (word_of x) (word_of y) (word_of z))

-- ---- variables

pub record Variable : Type 0 where
  pub value : Value
  -- since the arm around began
  pub assigned : Bool

-- the variables of a body. The first one is what it returns
abbrev pub Variables : Type 0
Variables = List Variable

abbrev pub variable : Value → Variable
variable x = record { value = x; assigned = false }

abbrev pub assign : Variables → ℕ → Value → Variables
assign vs at x = slice_set vs at (record { value = x; assigned = true })

-- as an arm begins with them
abbrev pub begun : Variables → Variables
begun vs = map (λ v. variable v.value) vs

-- after two arms, of which the first is taken or the second
abbrev pub of_arms : Bool → Variable → Variable → Variable
of_arms first a b = record { value = if first then a.value else b.value; assigned = a.assigned || b.assigned }

abbrev pub joined : Bool → Variables → Variables → Variables
joined first (a ∷ xs) (b ∷ ys) = of_arms first a b ∷ joined first xs ys
joined first xs ys = []

-- after a choice: what an arm assigned is not static, and all else is as it was
abbrev pub restored : Variables → Variables → Variables
restored (v ∷ vs) (x ∷ xs) = (if x.assigned then record { value = varied x.value; assigned = true } else v) ∷ restored vs xs
restored vs xs = vs
