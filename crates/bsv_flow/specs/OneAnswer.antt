-- When two refusals of one input are one. The line and the column of a `Syntax` are any in the
-- definition of what a file yields; so they are free here too, and nothing else is.
use Rattle.std.specs.Prelude.{ℕ, List}
use Rattle.bsv_flow.specs.declared.refusal.Refusal.{Refusal}
use Rattle.bsv_flow.specs.declared.refusal.Refusal.TheVariants as refusal

-- the refusals are equal, or both are a `Syntax` of one file
pub data IsSameRefusal : Refusal → Refusal → Type 0 where
  equal : {r : Refusal} → IsSameRefusal r r
  both_syntax : {file : List ℕ} {line column other_line other_column : ℕ} → IsSameRefusal (refusal.Syntax file line column) (refusal.Syntax file other_line other_column)
