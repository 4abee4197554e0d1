-- The reader of expressions.
use Rattle.std.specs.Prelude.{ℕ, zero, suc, Bool, false, List, length, Err}
use Rattle.bsv_ast.specs.declared.expressions.Expr.{Expr}
use Rattle.bsv_expr.specs.declared.lexeme.Lexeme.{Lexeme}
use Rattle.bsv_expr.specs.declared.fault.ReadFault.TheVariants as fault
use Rattle.bsv_expr.specs.Reading.{Read, read, turns}
use Rattle.bsv_ast.specs.declared.expressions.Level.{Level}
use Rattle.bsv_expr.specs.declared.reader.Operands.{Operands}
use Rattle.bsv_expr.specs.Trees.{operand_alone, with_operand}
use Rattle.bsv_expr.specs.Expressions.{Of, always, words_of, operation, chain, choice}

-- what is read with fewer than so many brackets open at once
unfoldable pub expr : List ℕ → ℕ → Bool → List Lexeme → Read Expr
expr source zero soft ts = Err fault.TooDeep
expr source (suc n) soft ts = read source (λ h. expr source n false) soft choice ts

-- a part of an expression, in whose brackets fewer than so many brackets are open
abbrev pub part : {A : Type 0} → List ℕ → ℕ → Bool → Of A → List Lexeme → Read A
part source n soft p ts = read source (λ h. expr source n false) soft p ts

-- what comes after the first operand of a level
abbrev pub operations : List ℕ → ℕ → Bool → Level → List Level → Expr → List Lexeme → Read Operands
operations source n soft l ls x ts = turns soft (words_of l) always with_operand (part source n soft (operation l (chain ls))) (length ts) (operand_alone x) ts
