-- Expressions at different numbers of brackets: what one reader reads, one of more brackets reads too; and where a
-- reader was given too few, so many are open.
use Rattle.std.proofs.Common.{◌≡◌, inl, ℕ, zero, suc, ◌+◌, ◌≤◌, Bool, true, false, List, [], ◌∷◌, ◌++◌, Err, refl, ap, arith}
use Rattle.bsv_ast.specs.declared.text.Span.{Span}
use Rattle.bsv_ast.specs.declared.expressions.Expr.{Expr}
use Rattle.bsv_ast.specs.declared.expressions.Level.{Level}
use Rattle.bsv_ast.specs.declared.expressions.Level.TheVariants as level
use Rattle.bsv_expr.specs.declared.lexeme.Lexeme.{Lexeme}
use Rattle.bsv_expr.specs.declared.fault.ReadFault.TheVariants as fault
use Rattle.bsv_expr.specs.Lexemes.{same_terminal, is_apart}
use Rattle.bsv_expr.specs.Brackets.{Reaches, openers, closers}
use Rattle.bsv_expr.proofs.Ahead.{guarded, Tame}
use Rattle.bsv_expr.specs.Expressions as grammar
use Rattle.bsv_expr.specs.Expressions.{Of, Hole, IsExpr, words_of, levels, chain, choice}
use Rattle.bsv_expr.specs.Readers.{expr}
use Rattle.bsv_expr.proofs.Agrees.{Agree, agrees}
use Rattle.bsv_expr.proofs.Closing.{Balanced, balanced, bonus, lower_limit}
use Rattle.bsv_expr.proofs.Deeper.{deep}
use Rattle.bsv_expr.proofs.Fronts.{Front, front}
use Rattle.bsv_expr.proofs.Knot.{expr_sound}
use Rattle.bsv_expr.proofs.Longest.{InMemory, memory}

-- a hole is in a bracket
abbrev pub inside : Hole → Bool
inside h = false

abbrev Tamed : {A : Type 0} → Of A → Type 0
Tamed g = Tame inside g

pub exprs_tame : Tamed grammar.exprs
unfolding Tame grammar.exprs grammar.expression same_terminal
exprs_tame = (tt, (refl, tt))

pub arguments_tame : Tamed grammar.arguments
unfolding Tame grammar.arguments same_terminal
arguments_tame = (refl, exprs_tame)

named_tame : Tamed grammar.named
unfolding Tame grammar.named grammar.optional_arguments same_terminal
named_tame = (refl, arguments_tame)

field_tame : Tamed grammar.field
unfolding Tame grammar.field grammar.expression same_terminal
field_tame = (refl, (refl, tt))

labelled_tame : Tamed grammar.labelled
unfolding Tame grammar.labelled grammar.optional_fields grammar.fields grammar.field_list same_terminal
labelled_tame = (refl, (refl, (field_tame, (refl, field_tame))))

primary_tame : Tamed grammar.primary
unfolding Tame grammar.primary grammar.number grammar.group grammar.concat grammar.expression same_terminal
primary_tame = (refl, (labelled_tame, (named_tame, ((refl, tt), (refl, exprs_tame)))))

suffixed_tame : Tamed grammar.suffixed
unfolding Tame grammar.suffixed grammar.method grammar.optional_arguments grammar.bracketed grammar.expression same_terminal
suffixed_tame = ((refl, (refl, arguments_tame)), (refl, (tt, (refl, tt))))

postfix_tame : Tamed grammar.postfix
unfolding Tame grammar.postfix grammar.suffixes
postfix_tame = (primary_tame, (tt, suffixed_tame))

postfix_guarded : guarded inside grammar.postfix ≡ true
unfolding guarded grammar.postfix grammar.suffixes grammar.suffixed grammar.method grammar.bracketed grammar.optional_arguments grammar.arguments grammar.primary grammar.number grammar.labelled grammar.optional_fields grammar.fields grammar.named grammar.group grammar.concat
postfix_guarded = refl

payload_tame : (t : Span × (Span × Bool)) → (guarded inside (grammar.payload t) ≡ true) × Tamed (grammar.payload t)
unfolding guarded Tame
payload_tame (s, (t, true)) = (postfix_guarded, postfix_tame)
payload_tame (s, (t, false)) = (refl, tt)

operand_tame : Tamed grammar.operand
unfolding Tame grammar.operand grammar.tagged grammar.operated same_terminal
operand_tame = (((refl, refl), payload_tame), ((refl, postfix_tame), postfix_tame))

operand_guarded : guarded inside grammar.operand ≡ true
unfolding guarded grammar.operand grammar.tagged grammar.operated
operand_guarded = rw postfix_guarded refl

words_tame : (l : Level) → is_apart (openers ++ closers) (words_of l) ≡ true
unfolding words_of same_terminal
words_tame level.Product = refl
words_tame level.Sum = refl
words_tame level.Shift = refl
words_tame level.Order = refl
words_tame level.Equality = refl
words_tame level.And = refl
words_tame level.Xor = refl
words_tame level.Or = refl
words_tame level.Both = refl
words_tame level.Either = refl

chain_tame : (ls : List Level) → Tamed (chain ls)
unfolding Tame chain grammar.operation
chain_tame [] = operand_tame
chain_tame (l ∷ ls) = (chain_tame ls, (words_tame l, chain_tame ls))

chain_guarded : (ls : List Level) → guarded inside (chain ls) ≡ true
unfolding guarded chain grammar.operation
chain_guarded [] = operand_guarded
chain_guarded (l ∷ ls) = rw (chain_guarded ls) refl

pub choice_tame : Tamed choice
unfolding Tame choice grammar.arm same_terminal
choice_tame = (chain_tame levels, (refl, (chain_tame levels, (refl, chain_tame levels))))

pub choice_guarded : guarded inside choice ≡ true
unfolding guarded choice grammar.arm
choice_guarded = rw (chain_guarded levels) refl

-- an expression closes each bracket that it opens
pub expr_balanced : (source : List ℕ) (n : ℕ) → Balanced (IsExpr source n)
unfolding IsExpr
expr_balanced source zero x ts rest d l k r = absurd d
expr_balanced source (suc n) x ts rest d l k r = balanced source (λ h. IsExpr source n) inside (λ h. expr_balanced source n) choice choice_tame x ts rest d l k r

-- where the reader was given too few brackets, so many are open
pub expr_deep : (source : List ℕ) (n : ℕ) (soft : Bool) (ts : List Lexeme) → expr source n soft ts ≡ Err fault.TooDeep → (k : ℕ) → Reaches (n + k) k ts
unfolding expr
expr_deep source zero soft ts e k = Reaches.here (omega arith)
expr_deep source (suc n) soft ts e k =
    let one : bonus (guarded inside choice) ≡ 1 = ap bonus choice_guarded in
    lower_limit (n + bonus (guarded inside choice) + k) (suc n + k) k ts (omega arith)
    (deep source (λ h. expr source n false) (λ h. IsExpr source n) (λ h us y vs d. expr_sound source n false us y vs d) inside (λ h. expr_balanced source n) n
    (λ h us d j. lower_limit (n + j) (n + 0 + j) j us (omega arith) (expr_deep source n false us d j)) choice choice_tame soft ts e k)

-- a reader of more brackets reads the same
pub expr_agrees : (source : List ℕ) (n m : ℕ) → n ≤ m → (soft : Bool) (ts : List Lexeme) → Agree (expr source n soft ts) (expr source m soft ts)
unfolding expr
expr_agrees source zero m le soft ts = inl refl
expr_agrees source (suc n) zero le soft ts = absurd (omega arith)
expr_agrees source (suc n) (suc m) le soft ts = agrees source (λ h. expr source n false) (λ h. expr source m false) (λ h us. expr_agrees source n m (omega arith) false us) choice soft ts

-- an expression depends on the tokens that it takes alone
pub expr_front : (source : List ℕ) (n : ℕ) (x : Expr) (ts rest : List Lexeme) → IsExpr source n x ts rest → Front (IsExpr source n) x ts rest
unfolding IsExpr
expr_front source zero x ts rest d = absurd d
expr_front source (suc n) x ts rest d = front source (λ h. IsExpr source n) (λ h. expr_front source n) choice x ts rest d

-- reading by the definition takes no memory
pub expr_memory : (source : List ℕ) (n : ℕ) (soft : Bool) (ts : List Lexeme) → InMemory (expr source n soft ts)
unfolding expr
expr_memory source zero soft ts e = absurd cc
expr_memory source (suc n) soft ts e = memory source (λ h. expr source n false) (λ h. expr_memory source n false) choice soft ts e
