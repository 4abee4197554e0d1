-- Steps, and the count after them. A value that is known leaves no step.
use Rattle.std.specs.Prelude.{ℕ, ◌+◌, nat_le, nat_lt, [], ◌∷◌, ◌++◌, Option, Some, None, option_map, Result, Ok, Err, if◌then◌else◌}
use Rattle.bsv_fail.specs.Given.{◌>>=◌}
use Rattle.bsv_bits.specs.Words.{Bits, word_not}
use Rattle.bsv_bits.specs.declared.operator.Operator.{Operator}
use Rattle.bsv_tree.specs.declared.steps.Atom.TheVariants as atom
use Rattle.bsv_tree.specs.declared.steps.Compute.{Compute}
use Rattle.bsv_tree.specs.declared.steps.Compute.TheVariants as compute
use Rattle.bsv_tree.specs.declared.steps.Step.{Step}
use Rattle.bsv_tree.specs.declared.steps.Step.TheVariants as step
use Rattle.bsv_tree.specs.declared.values.Constant.TheVariants as constant
use Rattle.bsv_tree.specs.declared.values.Value.{Value}
use Rattle.bsv_tree.specs.declared.values.Value.TheVariants as value
use Rattle.bsv_tree.specs.declared.values.Count.{Count}
use Rattle.bsv_tree.specs.declared.values.Work.{Work}
use Rattle.bsv_tree.specs.declared.values.Fault.{Fault}
use Rattle.bsv_tree.specs.declared.values.Fault.TheVariants as fault
use Rattle.bsv_design.specs.design.Computing as computing
use Rattle.bsv_tree.specs.carrying.Values.{atom_of, known}

-- so much weight more, of which a design has at most 2,000,000
unfoldable pub tick : Count → ℕ → Result Count Fault
tick c more = if nat_le (c.weight + more) 2000000 then Ok (record { weight = c.weight + more; slots = c.slots }) else Err fault.Weight

-- so many values more. Each weighs, so that they never reach their limit
unfoldable pub fresh : Count → ℕ → Result Count Fault
fresh c more = if nat_lt (c.slots + more) 4294967296 then Ok (record { weight = c.weight; slots = c.slots + more }) else Err fault.Weight

-- a value, and the steps up to it
abbrev pub Valued : Type 0
Valued = Result (Value × Work) Fault

abbrev pub no_steps : Count → Work
no_steps c = record { steps = []; count = c }

abbrev pub with_step : Work → Step → Count → Work
with_step w s c = record { steps = w.steps ++ s ∷ []; count = c }

abbrev pub at_count : Work → Count → Work
at_count w c = record { steps = w.steps; count = c }

unfoldable pub counted : Work → ℕ → Result Work Fault
counted w more = tick w.count more >>= λ c. Ok (at_count w c)

-- a step that gives one value
unfoldable pub give : Work → Step → Valued
give w s = fresh w.count 1 >>= λ c. Ok (value.Open (atom.Slot w.count.slots), with_step w s c)

abbrev pub settle : Work → Option Bits → Compute → Valued
settle w (Some b) x = Ok (value.Static (constant.Bits b), w)
settle w None x = give w (step.Let x)

abbrev pub of_two : (Bits → Bits → Bits) → Option Bits → Option Bits → Option Bits
of_two f (Some a) (Some b) = Some (f a b)
of_two f _ _ = None

abbrev pub of_three : (Bits → Bits → Bits → Bits) → Option Bits → Option Bits → Option Bits → Option Bits
of_three f (Some a) (Some b) (Some c) = Some (f a b c)
of_three f _ _ _ = None

unfoldable pub inverted : Work → Value → Valued
inverted w x = settle w (option_map word_not (known x)) (compute.Not (atom_of x))

unfoldable pub between : Work → Operator → Value → Value → Valued
between w o x y = settle w (of_two (computing.between o) (known x) (known y)) (compute.Two o (atom_of x) (atom_of y))

unfoldable pub picked : Work → Value → Value → Value → Valued
picked w t x y = settle w (of_three computing.picked (known t) (known x) (known y)) (compute.Pick (atom_of t) (atom_of x) (atom_of y))

unfoldable pub sliced : Work → Value → ℕ → ℕ → Valued
sliced w x high low = settle w (option_map (λ a. computing.sliced a high low) (known x)) (compute.Slice (atom_of x) high low)

unfoldable pub joined : Work → Value → Value → Valued
joined w x y = settle w (of_two computing.joined (known x) (known y)) (compute.Join (atom_of x) (atom_of y))

unfoldable pub extended : Work → Value → ℕ → Valued
extended w x width = settle w (option_map (λ a. computing.extended a width) (known x)) (compute.Extend (atom_of x) width)

unfoldable pub sign_extended : Work → Value → ℕ → Valued
sign_extended w x width = settle w (option_map (λ a. computing.sign_extended a width) (known x)) (compute.SignExtend (atom_of x) width)
