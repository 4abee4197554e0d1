-- The variables of a body that is carried out. The first one is what it returns.
use Rattle.std.specs.Prelude.{ℕ, Bool, true, false, List, [], ◌∷◌, map, slice_get, slice_set, Option, Some, None}
use Rattle.bsv_tree.specs.declared.values.Value.{Value}
use Rattle.bsv_tree.specs.declared.values.Local.{Local}
use Rattle.bsv_tree.specs.carrying.Values.{truth}

abbrev pub variable : Value → Bool → Local
variable x integer = record { value = x; integer = integer; lost = false; touched = false }

abbrev pub no_variables : Bool → List Local
no_variables integer = variable (truth false) integer ∷ []

-- a variable with its next value
abbrev pub assigned_with : Value → List Local → ℕ → Option Local → List Local
assigned_with x vs at None = vs
assigned_with x vs at (Some v) = slice_set vs at (record { value = x; integer = v.integer; lost = false; touched = true })

unfoldable pub assign : List Local → ℕ → Value → List Local
assign vs at x = assigned_with x vs at (slice_get vs at)

-- the variables as an arm begins with them
abbrev pub untouched : List Local → List Local
untouched vs = map (λ v. record { value = v.value; integer = v.integer; lost = v.lost; touched = false }) vs
