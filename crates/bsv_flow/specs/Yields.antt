-- What a file yields: its package, or the first refusal whose condition holds. The place of a Syntax is shown by tests;
-- here it is any.
use Rattle.std.specs.Prelude.{ℕ, ◌<◌, ◌≤◌, List, length, codes, Result, Ok, Err}
use Rattle.bsv_ast.specs.declared.package.Package.{Package}
use Rattle.bsv_lex.specs.declared.token.Token.{Token}
use Rattle.bsv_lex.specs.declared.token.LexFault.TheVariants as fault
use Rattle.bsv_lex.specs.Tokens.{Tokens, FirstFault}
use Rattle.bsv_expr.specs.Expression.{IsShallow}
use Rattle.bsv_parse.specs.Reads.{Reads, IsTooDeep}
use Rattle.bsv_flow.specs.declared.refusal.Refusal.{Refusal}
use Rattle.bsv_flow.specs.declared.refusal.Refusal.TheVariants as refusal
use Rattle.bsv_flow.specs.Positions.{line, column}

-- a source has at most so many bytes
abbrev pub most_bytes : ℕ
most_bytes = 1048576

pub data Yields (file bytes : List ℕ) : Result Package Refusal → Type 0 where
  too_large : most_bytes < length bytes → Yields file bytes (Err (refusal.Limit (codes "source") most_bytes))
  bad_byte : {at : ℕ} → length bytes ≤ most_bytes → FirstFault bytes (fault.BadByte at) → Yields file bytes (Err (refusal.BadByte file (line bytes at) (column bytes at)))
  open_comment : {at : ℕ} → length bytes ≤ most_bytes → FirstFault bytes (fault.OpenComment at) → Yields file bytes (Err (refusal.OpenComment file (line bytes at) (column bytes at)))
  bad_literal : {at : ℕ} → length bytes ≤ most_bytes → FirstFault bytes (fault.BadLiteral at) → Yields file bytes (Err (refusal.BadLiteral file (line bytes at) (column bytes at)))
  too_long : {at : ℕ} → length bytes ≤ most_bytes → FirstFault bytes (fault.TooLong at) → Yields file bytes (Err (refusal.TooLong file (line bytes at) (column bytes at)))
  too_deep : {ts : List Token} {at : ℕ} → length bytes ≤ most_bytes → Tokens bytes ts → IsTooDeep bytes ts at → Yields file bytes (Err (refusal.TooDeep file (line bytes at) (column bytes at)))
  no_tree : {ts : List Token} (at : ℕ) → length bytes ≤ most_bytes → Tokens bytes ts → IsShallow bytes ts → ((x : Package) → Reads bytes ts x → ⊥) → Yields file bytes (Err (refusal.Syntax file (line bytes at) (column bytes at)))
  tree : {ts : List Token} {x : Package} → length bytes ≤ most_bytes → Tokens bytes ts → IsShallow bytes ts → Reads bytes ts x → Yields file bytes (Ok x)
