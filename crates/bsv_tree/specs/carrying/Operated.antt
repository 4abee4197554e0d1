-- What the operators of an expression give from the values of its operands, and which of them come one by one (Bluespec
-- reference guide, "Expressions").
use Rattle.std.specs.Prelude.{ℕ, ◌+◌, ◌-◌, Bool, true, false, List, [], ◌∷◌, drop, Option, Some, None, Ok, if◌then◌else◌}
use Rattle.bsv_types.specs.declared.operators.Op.{Op}
use Rattle.bsv_types.specs.declared.operators.Op.TheVariants as op
use Rattle.bsv_types.specs.declared.definitions.Field.{Field}
use Rattle.bsv_types.specs.Kinds.{Kind, kind}
use Rattle.bsv_types.specs.Shapes.{Shapes, counted, widths_by}
use Rattle.bsv_types.specs.Widths.{field_kinds}
use Rattle.bsv_tree.specs.declared.values.Value.{Value}
use Rattle.bsv_tree.specs.declared.values.Work.{Work}
use Rattle.bsv_tree.specs.declared.values.Fault.{Fault}
use Rattle.bsv_tree.specs.carrying.Values.{truth}
use Rattle.bsv_tree.specs.carrying.Working.{Valued}
use Rattle.bsv_tree.specs.tree.Widths.{or_width, width}
use Rattle.bsv_tree.specs.carrying.Applied.{constant_of, together, two_operands, one_operand, fields}
use Rattle.bsv_tree.specs.meaning.Operators.{sets, builds, is_suffix}

-- ---- the construction of a struct

-- the value that a field is set to
unfoldable pub set_to : ℕ → List Op → List Value → Value
set_to number (o ∷ os) (x ∷ xs) = if sets number o then x else set_to number os xs
set_to number _ _ = truth false

-- the values of fields, of which the first has this number
unfoldable pub set_from : ℕ → List Field → List Op → List Value → List Value
set_from number [] os xs = []
set_from number (d ∷ ds) os xs = set_to number os xs ∷ set_from (number + 1) ds os xs

abbrev pub all_together : List Value → Work → Valued
all_together [] w = Ok (truth false, w)
all_together (x ∷ xs) w = together x xs w

-- ---- suffixes

-- the bits of a value that a suffix names, and their fields where they are a struct
pub record BitRange : Type 0 where
  pub high : ℕ
  pub low : ℕ
  pub inner : List Field

abbrev pub bits_at : ℕ → ℕ → BitRange
bits_at high low = record { high = high; low = low; inner = [] }

module _ (s : Shapes) (f : Fault) where
  -- the last field is in the lowest bits
  abbrev pub field_part : List Field → ℕ → Option Field → BitRange
  field_part fs number None = bits_at 0 0
  field_part fs number (Some d) =
      let low = or_width 0 (widths_by s.enums s.structs (field_kinds (drop (number + 1) fs))) in
      record { high = counted (low + width s (kind d.ty)) - 1; low = low; inner = fields s f (kind d.ty) }

  -- ---- what the values of all operands give: the type of the result, and that of the first operand

  abbrev pub single : Kind → Kind → Op → Value → List Value → Work → Valued
  single t k op.Concat x xs w = together x xs w
  single t k o x [] w = one_operand s f o t k x w
  single t k o x (y ∷ ys) w = two_operands s f o k x y w

  abbrev pub not_built : Kind → Kind → List Op → Value → List Value → Work → Valued
  not_built t k [] x xs w = Ok (x, w)
  not_built t k (o ∷ os) x xs w = single t k o x xs w

  unfoldable pub applied : Kind → Kind → List Op → List Value → Work → Valued
  applied t k os [] w = Ok (constant_of (width s t) 0, w)
  applied t k os (x ∷ xs) w =
      if builds os then all_together (set_from 0 (fields s f t) os (x ∷ xs)) w else not_built t k os x xs w

-- ---- operators that are applied from left to right, each one as soon as its right operand or its index was carried out

abbrev pub are_suffixes : List Op → Bool
are_suffixes [] = false
are_suffixes (o ∷ os) = is_suffix o

-- suffixes, and several operators of one level. Before the others all operands are carried out
abbrev pub from_left : List Op → Bool
from_left [] = false
from_left (op.Set number ∷ os) = false
from_left (o ∷ []) = is_suffix o
from_left (o ∷ next ∷ os) = true
