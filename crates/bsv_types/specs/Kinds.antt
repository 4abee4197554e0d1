-- Types as plain data, and the classes of types that the typing speaks of (Bluespec reference guide, "Types").
use Rattle.std.specs.Prelude.{ℕ, Bool, true, false, ◌&&◌, ◌==◌, nat_le, Option, Some, None}
use Rattle.bsv_types.specs.declared.types.PartTy.{PartTy}
use Rattle.bsv_types.specs.declared.types.PartTy.TheVariants as part_type
use Rattle.bsv_types.specs.declared.types.Ty.{Ty, fold-Ty, roll-Ty}
use Rattle.bsv_types.specs.declared.types.Ty.TheOpen.{Ty-F}

pub data Kind : Type 0 where
  bit : ℕ → Kind
  -- a Bit whose width is so many bits below 0: a range that counts down has it where widths are left aside
  down : ℕ → Kind
  uint : ℕ → Kind
  int : ℕ → Kind
  bool : Kind
  enum : ℕ → Kind
  struct : ℕ → Kind
  maybe : Kind → Kind
  integer : Kind
  interface : ℕ → Kind
  -- an interface that the language gives: with its T, and without one
  part : PartTy → Kind → Kind
  bare : PartTy → Kind

abbrev pub part_of : PartTy → Option Kind → Kind
part_of p None = bare p
part_of p (Some k) = part p k

abbrev pub kind_step : Ty-F Kind → Kind
kind_step (Ty-F.Bit n) = bit n
kind_step (Ty-F.Down n) = down n
kind_step (Ty-F.UInt n) = uint n
kind_step (Ty-F.Int n) = int n
kind_step Ty-F.Bool = bool
kind_step (Ty-F.Enum k) = enum k
kind_step (Ty-F.Struct k) = struct k
kind_step (Ty-F.Maybe t) = maybe t
kind_step Ty-F.Integer = integer
kind_step (Ty-F.Interface k) = interface k
kind_step (Ty-F.Part p t) = part_of p t

-- the type that a type of the code is
abbrev pub kind : Ty → Kind
kind = fold-Ty Kind kind_step

-- the type of the code that a type is
abbrev pub type_of : Kind → Ty
type_of (bit n) = roll-Ty (Ty-F.Bit n)
type_of (down n) = roll-Ty (Ty-F.Down n)
type_of (uint n) = roll-Ty (Ty-F.UInt n)
type_of (int n) = roll-Ty (Ty-F.Int n)
type_of bool = roll-Ty Ty-F.Bool
type_of (enum k) = roll-Ty (Ty-F.Enum k)
type_of (struct k) = roll-Ty (Ty-F.Struct k)
type_of (maybe k) = roll-Ty (Ty-F.Maybe (type_of k))
type_of integer = roll-Ty Ty-F.Integer
type_of (interface k) = roll-Ty (Ty-F.Interface k)
type_of (part p k) = roll-Ty (Ty-F.Part p (Some (type_of k)))
type_of (bare p) = roll-Ty (Ty-F.Part p None)

abbrev pub same_part : PartTy → PartTy → Bool
same_part part_type.Reg part_type.Reg = true
same_part part_type.Wire part_type.Wire = true
same_part part_type.RWire part_type.RWire = true
same_part part_type.PulseWire part_type.PulseWire = true
same_part part_type.Fifo part_type.Fifo = true
same_part part_type.Fifof part_type.Fifof = true
same_part _ _ = false

-- two types are one
abbrev pub same_kind : Kind → Kind → Bool
same_kind (bit m) (bit n) = m == n
same_kind (down m) (down n) = m == n
same_kind (uint m) (uint n) = m == n
same_kind (int m) (int n) = m == n
same_kind bool bool = true
same_kind (enum j) (enum k) = j == k
same_kind (struct j) (struct k) = j == k
same_kind (maybe j) (maybe k) = same_kind j k
same_kind integer integer = true
same_kind (interface j) (interface k) = j == k
same_kind (part p j) (part q k) = same_part p q && same_kind j k
same_kind (bare p) (bare q) = same_part p q
same_kind _ _ = false

-- an interface type, of which instances are
abbrev pub is_interface : Kind → Bool
is_interface (interface k) = true
is_interface (part p k) = true
is_interface (bare p) = true
is_interface _ = false

abbrev pub is_bit : Kind → Bool
is_bit (bit n) = true
is_bit (down n) = true
is_bit _ = false

-- Bit, UInt or Int
abbrev pub has_family : Kind → Bool
has_family (bit n) = true
has_family (down n) = true
has_family (uint n) = true
has_family (int n) = true
has_family _ = false

-- one of these three, or Integer
abbrev pub is_number : Kind → Bool
is_number integer = true
is_number k = has_family k

-- what a shift may shift by
abbrev pub is_amount : Kind → Bool
is_amount (bit n) = true
is_amount (down n) = true
is_amount (uint n) = true
is_amount integer = true
is_amount _ = false

-- both Bit, both UInt or both Int, and the first is no wider than the second
abbrev pub no_wider : Kind → Kind → Bool
no_wider (bit m) (bit n) = nat_le m n
no_wider (down m) (bit n) = true
no_wider (down m) (down n) = nat_le n m
no_wider (uint m) (uint n) = nat_le m n
no_wider (int m) (int n) = nat_le m n
no_wider _ _ = false
