-- Values while a design is built: what is known of them, and the words that steps name for them.
use Rattle.std.specs.Prelude.{◌==◌, Bool, true, false, List, [], ◌∷◌, Option, Some, None, if◌then◌else◌}
use Rattle.bsv_bits.specs.Words.{Bits, bit}
use Rattle.bsv_tree.specs.declared.steps.Atom.{Atom}
use Rattle.bsv_tree.specs.declared.steps.Atom.TheVariants as atom
use Rattle.bsv_tree.specs.declared.values.Constant.TheVariants as constant
use Rattle.bsv_tree.specs.declared.values.Value.{Value}
use Rattle.bsv_tree.specs.declared.values.Value.TheVariants as value
use Rattle.bsv_tree.specs.declared.statics.Static.{Static}
use Rattle.bsv_tree.specs.declared.statics.Static.TheVariants as static
use Rattle.bsv_tree.specs.meaning.Values.{constant_word}

abbrev pub atom_of : Value → Atom
atom_of (value.Static c) = atom.Word (constant_word c)
atom_of (value.Open a) = a

abbrev pub is_static : Value → Bool
is_static (value.Static c) = true
is_static (value.Open a) = false

abbrev pub all_static : List Value → Bool
all_static [] = true
all_static (x ∷ xs) = if is_static x then all_static xs else false

-- the same value, which is not static
abbrev pub opened : Value → Value
opened x = value.Open (atom_of x)

-- the word of a static value
abbrev pub known : Value → Option Bits
known (value.Static c) = Some (constant_word c)
known (value.Open a) = None

abbrev pub truth : Bool → Value
truth b = value.Static (constant.Bits (bit b))

-- what a condition decides: nothing, where it is not static
abbrev pub decided : Value → Option Bool
decided (value.Static c) = Some ((constant_word c).value == 1)
decided (value.Open a) = None

-- static and True
abbrev pub is_true : Value → Bool
is_true (value.Static c) = (constant_word c).value == 1
is_true (value.Open a) = false

-- what a variable of a module is, as a value; an instance is none
abbrev pub held : Static → Option Value
held (static.Number n) = Some (value.Static (constant.Number n))
held (static.Bits w) = Some (value.Static (constant.Bits w))
held (static.Truth b) = Some (truth b)
held (static.Place k) = None
held (static.Places ks) = None
