-- What the typing needs of an expression, and operands that have to agree (Bluespec reference guide,
-- "Expressions").
use Rattle.std.specs.Prelude.{ℕ, ◌+◌, Bool, true, false, List, [], ◌∷◌, ◌++◌, take, drop, Option, Some, None, if◌then◌else◌}
use Rattle.std.specs.List.{list_all}
use Rattle.bsv_types.specs.declared.expressions.Expr.{Expr}
use Rattle.bsv_types.specs.Kinds.{Kind, integer}
use Rattle.bsv_types.specs.Operators.{◌>>=◌}
use Rattle.bsv_context.specs.Env.{TypedExpr}

-- an expression as a typing sees it: with an expected type, or without one
abbrev pub Check : Type 0
Check = Option Kind → Option TypedExpr

pub record Operand : Type 0 where
  -- it has no type of its own
  pub is_open : Bool
  -- it is made of unsized literals alone
  pub literals : Bool
  -- it is an unsized literal
  pub literal : Option ℕ
  pub check : Check

abbrev pub closed : Check → Operand
closed check = record { is_open = false; literals = false; literal = None; check = check }

-- open, and not made of literals alone
abbrev pub opened : Check → Operand
opened check = record { is_open = true; literals = false; literal = None; check = check }

abbrev pub check_if : Bool → Check → Check
check_if true check want = check want
check_if false check want = None

-- an operand that has a typing only where the test is passed
abbrev pub only_if : Bool → Operand → Operand
only_if test x = record x { check = check_if test x.check }

-- each with this type
unfoldable pub all_as : Kind → List Operand → Option (List Expr)
all_as k [] = Some []
all_as k (x ∷ xs) = x.check (Some k) >>= λ m. all_as k xs >>= λ ms. Some (m.expr ∷ ms)

abbrev pub are_open : List Operand → Bool
are_open xs = list_all (λ x. x.is_open) xs

abbrev pub are_literals : List Operand → Bool
are_literals xs = list_all (λ x. x.literals) xs

-- how many operands at the front are open
abbrev pub open_front : List Operand → ℕ
open_front [] = 0
open_front (x ∷ xs) = if x.is_open then 1 + open_front xs else 0

-- operands of one type: which one, and what they are
abbrev pub Agreed : Type 0
Agreed = Option (Kind × List Expr)

abbrev pub agreed : Kind → Option (List Expr) → Agreed
agreed k None = None
agreed k (Some xs) = Some (k, xs)

abbrev pub beside : Kind → Option (List Expr) → Expr → Option (List Expr) → Agreed
beside k (Some front) x (Some rest) = Some (k, front ++ x ∷ rest)
beside k _ x _ = None

-- the first operand that is not open has its own type, and the others have that one
unfoldable pub around : List Operand → List Operand → Agreed
around front [] = None
around front (x ∷ xs) = x.check None >>= λ m. beside m.kind (all_as m.kind front) m.expr (all_as m.kind xs)

unfoldable pub by_first : List Operand → Agreed
by_first xs = around (take (open_front xs) xs) (drop (open_front xs) xs)

-- operands of the type of the result: the expected type; else that of the first operand that is not open; else,
-- where all are literals, Integer
unfoldable pub agree_with_result : List Operand → Option Kind → Agreed
agree_with_result xs (Some k) = agreed k (all_as k xs)
agree_with_result xs None = if are_literals xs then agreed integer (all_as integer xs) else by_first xs

-- operands of one type that is not that of the result: that of the first operand that is not open; else Integer
unfoldable pub agree : List Operand → Agreed
agree xs = if are_open xs then agreed integer (all_as integer xs) else by_first xs
