-- The words of the inputs of a net, of what is asked: of each method its arguments, and a bit that is 1 where it is asked.
use Rattle.std.specs.Prelude.{Bool, true, false, List, [], ◌∷◌, ◌++◌, map}
use Rattle.bsv_bits.specs.Words.{Bits, bit, zero_word}
use Rattle.bsv_design.specs.scheme.Schemes.{Asking}

abbrev pub zero_like : Bits → Bits
zero_like w = zero_word w.width

-- the words of the arguments, which are 0 where the method is not asked
abbrev pub arguments : Bool → List Bits → List Bits
arguments true ws = ws
arguments false ws = map zero_like ws

abbrev pub of_method : Bool → List Bits → List Bits
of_method a ws = arguments a ws ++ bit a ∷ []

unfoldable pub of_methods : List Bool → List (List Bits) → List Bits
of_methods (a ∷ asked) (ws ∷ args) = of_method a ws ++ of_methods asked args
of_methods _ _ = []

abbrev pub inputs : Asking → List Bits
inputs q = of_methods q.asked q.args
