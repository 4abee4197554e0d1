-- What a type that is written stands for (Bluespec reference guide, "Types").
use Rattle.std.specs.Prelude.{ℕ, List, Option, Some, None, codes, if◌then◌else◌}
use Rattle.std.specs.Str.{bytes_eq}
use Rattle.bsv_ast.specs.declared.types.WrittenType.{WrittenType, fold-WrittenType, out-WrittenType}
use Rattle.bsv_ast.specs.declared.types.TypeArgument.TheOpen.{WrittenType-F, TypeArgument-F}
use Rattle.bsv_ast.specs.declared.types.TypeArgument.{TypeArgument, fold-TypeArgument}
use Rattle.bsv_types.specs.declared.types.PartTy.{PartTy}
use Rattle.bsv_types.specs.declared.types.PartTy.TheVariants as part_type
use Rattle.bsv_types.specs.Kinds.{Kind, bit, uint, int, bool, maybe, integer, interface, part, bare}
use Rattle.bsv_types.specs.Shapes.{counted}
use Rattle.bsv_types.specs.Operators.{◌>>=◌}
use Rattle.bsv_types.specs.Methods.{Effect, value, action, action_value}
use Rattle.bsv_context.specs.Env.{Limits, has_bits}

-- what the names of types stand for
pub record TypeNames : Type 0 where
  pub limits : Limits
  -- the types that the program defines
  pub named : List ℕ → Option Kind

-- a type with bits
abbrev pub with_bits : Limits → Kind → Option Kind
with_bits g k = if has_bits g k then Some k else None

-- an argument: a type or a number
pub data Argument : Type 0 where
  of_type : Option Kind → Argument
  number : ℕ → Argument

-- the types without an argument
abbrev pub plain_type : TypeNames → List ℕ → Option Kind
plain_type names name =
    if bytes_eq name (codes "Bool") then Some bool
    else if bytes_eq name (codes "Integer") then Some integer
    else if bytes_eq name (codes "Empty") then Some (interface 0)
    else if bytes_eq name (codes "PulseWire") then Some (bare part_type.PulseWire)
    else names.named name

-- those with a width
abbrev pub sized_type : Limits → List ℕ → ℕ → Option Kind
sized_type g name n =
    if bytes_eq name (codes "Bit") then with_bits g (bit n)
    else if bytes_eq name (codes "UInt") then with_bits g (uint n)
    else if bytes_eq name (codes "Int") then with_bits g (int n)
    else None

-- the widest type that a method of the interface takes or gives
abbrev pub widest : PartTy → Kind → Kind
widest part_type.RWire k = maybe k
widest p k = k

-- an interface over a type with bits
abbrev pub part_over : Limits → PartTy → Kind → Option Kind
part_over g p k = if has_bits g (widest p k) then Some (part p k) else None

-- those over a type
abbrev pub type_over : Limits → List ℕ → Kind → Option Kind
type_over g name k =
    if bytes_eq name (codes "Maybe") then with_bits g (maybe k)
    else if bytes_eq name (codes "Reg") then part_over g part_type.Reg k
    else if bytes_eq name (codes "Wire") then part_over g part_type.Wire k
    else if bytes_eq name (codes "RWire") then part_over g part_type.RWire k
    else if bytes_eq name (codes "FIFO") then part_over g part_type.Fifo k
    else if bytes_eq name (codes "FIFOF") then part_over g part_type.Fifof k
    else None

abbrev pub applied_type : Limits → List ℕ → Argument → Option Kind
applied_type g name (number n) = sized_type g name n
applied_type g name (of_type t) = t >>= type_over g name

abbrev pub written_step : TypeNames → WrittenType-F Argument (Option Kind) → Option Kind
written_step names (WrittenType-F.Named s name) = plain_type names name.name
written_step names (WrittenType-F.Applied s name argument) = applied_type names.limits name.name argument
written_step names (WrittenType-F.Int s) = Some (int 32)

-- A number that no 32 bits hold counts as the greatest that they hold, as every width does. No text has one:
-- the grammar allows at most 65,535.
abbrev pub argument_step : TypeArgument-F Argument (Option Kind) → Argument
argument_step (TypeArgument-F.Written s t) = of_type t
argument_step (TypeArgument-F.Number s n) = number (counted n.value)

-- the type that is written
abbrev pub written : TypeNames → WrittenType → Option Kind
written names = fold-WrittenType Argument (Option Kind) argument_step (written_step names)

abbrev pub argument : TypeNames → TypeArgument → Argument
argument names = fold-TypeArgument Argument (Option Kind) argument_step (written_step names)

-- what is written in front of a method: Action, ActionValue of a type with bits, or such a type alone
abbrev pub value_effect : Limits → Option Kind → Option Effect
value_effect g t = t >>= with_bits g >>= λ k. Some (value k)

abbrev pub action_effect : Limits → Argument → Option Effect
action_effect g (number n) = None
action_effect g (of_type t) = t >>= with_bits g >>= λ k. Some (action_value k)

abbrev pub effect_in : TypeNames → WrittenType → WrittenType-F TypeArgument WrittenType → Option Effect
effect_in names t (WrittenType-F.Named s name) = if bytes_eq name.name (codes "Action") then Some action else value_effect names.limits (written names t)
effect_in names t (WrittenType-F.Applied s name x) = if bytes_eq name.name (codes "ActionValue") then action_effect names.limits (argument names x) else value_effect names.limits (written names t)
effect_in names t (WrittenType-F.Int s) = value_effect names.limits (written names t)

abbrev pub written_effect : TypeNames → WrittenType → Option Effect
written_effect names t = effect_in names t (out-WrittenType t)
