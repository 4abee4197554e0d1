-- Widths that are summed from the front.
use Rattle.std.proofs.Common.{◌≡◌, ℕ, ◌+◌, ◌≤◌, List, [], ◌∷◌, Option, Some, None, length, refl, ap, sym, ◌∙◌, arith}
use Rattle.bsv_types.specs.declared.definitions.Enum.{Enum}
use Rattle.bsv_types.specs.declared.definitions.Struct.{Struct}
use Rattle.bsv_types.specs.declared.definitions.Field.{Field}
use Rattle.bsv_types.specs.Widths.{field_kinds}
use Rattle.bsv_types.specs.Kinds.{Kind}
use Rattle.bsv_types.specs.Shapes.{counted, plus, width_by, widths_by}

sum_start : (a b : Option ℕ) → plus (Some 0) (plus a b) ≡ plus a b
sum_start (Some m) (Some n) = let same : counted (0 + counted (m + n)) ≡ counted (m + n) = omega arith in ap Some same
sum_start (Some m) None = refl
sum_start None (Some n) = refl
sum_start None None = refl

pub widths_start : (es : List Enum) (ss : List Struct) (ks : List Kind) → plus (Some 0) (widths_by es ss ks) ≡ widths_by es ss ks
widths_start es ss [] = refl
widths_start es ss (k ∷ ks) = sum_start (width_by es ss k) (widths_by es ss ks)

pub widths_turn : (a b : ℕ) (o : Option ℕ) → plus (Some a) (plus (Some b) o) ≡ plus (Some (counted (a + b))) o
widths_turn a b None = refl
widths_turn a b (Some n) = let same : counted (a + counted (b + n)) ≡ counted (counted (a + b) + n) = omega arith in ap Some same

pub widths_done : (n : ℕ) → n ≤ 4294967295 → plus (Some n) (Some 0) ≡ Some n
widths_done n few = let same : counted (n + 0) ≡ n = omega arith in ap Some same

pub ruleset sums = (widths_start, widths_turn)

pub widths_end : (es : List Enum) (ss : List Struct) (rest : List Field) (n : ℕ) (total : Option ℕ) → length rest ≡ 0 → n ≤ 4294967295 → plus (Some n) (widths_by es ss (field_kinds rest)) ≡ total → Some n ≡ total
widths_end es ss [] n total none few is = sym (widths_done n few) ∙ is
widths_end es ss (f ∷ fs) n total none few is = absurd (omega arith)
