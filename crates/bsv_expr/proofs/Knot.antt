-- The laws of expressions, at each number of brackets.
use Rattle.std.proofs.Common.{◌≡◌, inl, inr, ℕ, zero, suc, ◌<◌, Bool, true, false, List, [], ◌∷◌, length, Ok, refl}
use Rattle.bsv_ast.specs.declared.text.Span.{Span}
use Rattle.bsv_ast.specs.declared.expressions.Expr.{Expr}
use Rattle.bsv_ast.specs.declared.expressions.Level.{Level}
use Rattle.bsv_ast.specs.declared.expressions.Level.TheVariants as level
use Rattle.bsv_lex.specs.declared.terminal.Terminal.{Terminal}
use Rattle.bsv_expr.specs.declared.lexeme.Lexeme.{Lexeme}
use Rattle.bsv_expr.specs.Lexemes.{same_terminal, starts}
use Rattle.bsv_expr.specs.Grammar.{Grammar}
use Rattle.bsv_expr.proofs.Ahead.{nullable, first, more, test}
use Rattle.bsv_expr.specs.Expressions as grammar
use Rattle.bsv_expr.specs.Expressions.{Of, Hole, Filled, IsExpr, expression_first, expression_more, more_of, levels, words_of, chain, choice, always}
use Rattle.bsv_expr.specs.Readers.{expr}
use Rattle.bsv_expr.specs.Trees.{operand_alone, with_operand, chain_of}
use Rattle.bsv_expr.proofs.Sound.{sound}
use Rattle.bsv_expr.proofs.Sets.{within_starts, within_stops}
use Rattle.bsv_expr.proofs.Shorter.{shorter}
use Rattle.bsv_expr.proofs.Complete.{Good, Within, Names, good}

abbrev pub begins_by : Hole → List Terminal
begins_by h = expression_first

abbrev pub goes_on_by : Hole → List Terminal
goes_on_by h = expression_more

-- what is read is an expression
pub expr_sound : (source : List ℕ) (n : ℕ) (soft : Bool) (ts : List Lexeme) (x : Expr) (rest : List Lexeme) → expr source n soft ts ≡ Ok (x, rest) → IsExpr source n x ts rest
unfolding expr IsExpr
expr_sound source zero soft ts x rest e = absurd cc
expr_sound source (suc n) soft ts x rest e = sound source (λ h. expr source n false) (λ h. IsExpr source n) (λ h us y vs d. expr_sound source n false us y vs d) choice soft ts x rest e

-- what one level of brackets owes to the next
pub record Laws (source : List ℕ) (n : ℕ) : Type 0 where
  pub completes : (x : Expr) (ts rest : List Lexeme) → IsExpr source n x ts rest → starts expression_more rest ≡ false → expr source n false ts ≡ Ok (x, rest)
  pub begins : (x : Expr) (ts rest : List Lexeme) → IsExpr source n x ts rest → starts expression_first ts ≡ true
  pub shorter : (x : Expr) (ts rest : List Lexeme) → IsExpr source n x ts rest → length rest < length ts

-- the operands of one level
abbrev pub level_body : Level → List Level → Of Expr
level_body l ls = Grammar.made (chain_of l) (Grammar.fold (words_of l) always with_operand (Grammar.made operand_alone (chain ls)) (grammar.operation l (chain ls)))

module _ (source : List ℕ) (n : ℕ) (laws : Laws source n) where
  abbrev names_of : {A : Type 0} → Of A → Type 0
  names_of g = Names source (λ h. expr source n false) (λ h. IsExpr source n) begins_by goes_on_by (λ h. laws.completes) (λ h. laws.begins) (λ h. laws.shorter) g

  abbrev good_of : {A : Type 0} → Of A → Type 0
  good_of g = Good source (λ h. expr source n false) (λ h. IsExpr source n) begins_by goes_on_by (λ h. laws.completes) (λ h. laws.begins) (λ h. laws.shorter) g

  is_good : {A : Type 0} (g : Of A) → test begins_by goes_on_by g ≡ true → names_of g → good_of g
  is_good g = good source (λ h. expr source n false) (λ h. IsExpr source n) begins_by goes_on_by (λ h. laws.completes) (λ h. laws.begins) (λ h. laws.shorter) g

  pub exprs_named : names_of grammar.exprs
  unfolding Names grammar.exprs grammar.expression
  exprs_named = (tt, (tt, tt))

  pub arguments_named : names_of grammar.arguments
  unfolding Names grammar.arguments
  arguments_named = exprs_named

  named_named : names_of grammar.named
  unfolding Names grammar.named grammar.optional_arguments
  named_named = (tt, arguments_named)

  field_named : names_of grammar.field
  unfolding Names grammar.field grammar.expression
  field_named = (tt, (tt, tt))

  fields_named : names_of grammar.fields
  unfolding Names grammar.fields grammar.field_list
  fields_named = (field_named, (tt, field_named))

  labelled_named : names_of grammar.labelled
  unfolding Names grammar.labelled grammar.optional_fields
  labelled_named = (tt, fields_named)

  pub primary_named : names_of grammar.primary
  unfolding Names grammar.primary grammar.number grammar.group grammar.concat grammar.expression
  primary_named = (tt, (labelled_named, (named_named, (tt, exprs_named))))

  pub suffixed_named : names_of grammar.suffixed
  unfolding Names grammar.suffixed grammar.method grammar.optional_arguments grammar.bracketed grammar.expression
  suffixed_named = ((tt, (tt, arguments_named)), (tt, (tt, tt)))

  pub postfix_named : names_of grammar.postfix
  unfolding Names grammar.postfix grammar.suffixes
  postfix_named = (primary_named, (tt, suffixed_named))

  postfix_good : good_of grammar.postfix
  unfolding test first more nullable grammar.postfix grammar.suffixes grammar.suffixed grammar.method grammar.bracketed grammar.optional_arguments grammar.arguments grammar.exprs grammar.expression grammar.primary grammar.number grammar.labelled grammar.optional_fields grammar.fields grammar.field_list grammar.field grammar.named grammar.group grammar.concat expression_first expression_more more_of levels words_of same_terminal
  postfix_good = is_good grammar.postfix refl postfix_named

  pub payload_within : (t : Span × (Span × Bool)) → Within source (λ h. expr source n false) (λ h. IsExpr source n) begins_by goes_on_by (λ h. laws.completes) (λ h. laws.begins) (λ h. laws.shorter) expression_first (more_of []) (grammar.payload t)
  unfolding test first more nullable grammar.postfix grammar.suffixes grammar.suffixed grammar.method grammar.bracketed grammar.optional_arguments grammar.arguments grammar.exprs grammar.expression grammar.primary grammar.number grammar.labelled grammar.optional_fields grammar.fields grammar.field_list grammar.field grammar.named grammar.group grammar.concat expression_first expression_more more_of levels words_of same_terminal Names
  payload_within (s, (t, true)) = record { firsts = refl; mores = refl; good = is_good (grammar.payload (s, (t, true))) refl postfix_named }
  payload_within (s, (t, false)) = record { firsts = refl; mores = refl; good = is_good (grammar.payload (s, (t, false))) refl tt }

  pub operand_named : names_of grammar.operand
  unfolding Names grammar.operand grammar.tagged grammar.operated
  operand_named = (((tt, tt), payload_within), ((tt, postfix_named), postfix_named))

  operand_good : good_of grammar.operand
  unfolding test first more nullable grammar.postfix grammar.suffixes grammar.suffixed grammar.method grammar.bracketed grammar.optional_arguments grammar.arguments grammar.exprs grammar.expression grammar.primary grammar.number grammar.labelled grammar.optional_fields grammar.fields grammar.field_list grammar.field grammar.named grammar.group grammar.concat expression_first expression_more more_of levels words_of same_terminal grammar.operand grammar.tagged grammar.operated
  operand_good = is_good grammar.operand refl operand_named

  -- one level more, where the test of it comes out
  one_level : (l : Level) (ls : List Level) → test begins_by goes_on_by (level_body l ls) ≡ true → test begins_by goes_on_by (chain (l ∷ ls)) ≡ true → names_of (chain ls) → names_of (chain (l ∷ ls))
  unfolding Names chain grammar.operation
  one_level l ls body whole names = is_good (level_body l ls) body (names, (tt, names))

  pub level_0 : names_of (chain [])
  unfolding chain
  level_0 = operand_named

  pub level_1 : names_of (chain (level.Product ∷ []))
  unfolding test first more nullable grammar.postfix grammar.suffixes grammar.suffixed grammar.method grammar.bracketed grammar.optional_arguments grammar.arguments grammar.exprs grammar.expression grammar.primary grammar.number grammar.labelled grammar.optional_fields grammar.fields grammar.field_list grammar.field grammar.named grammar.group grammar.concat expression_first expression_more more_of levels words_of same_terminal grammar.operand grammar.tagged grammar.operated grammar.operation chain
  level_1 = one_level level.Product [] refl refl level_0

  pub level_2 : names_of (chain (level.Sum ∷ (level.Product ∷ [])))
  unfolding test first more nullable grammar.postfix grammar.suffixes grammar.suffixed grammar.method grammar.bracketed grammar.optional_arguments grammar.arguments grammar.exprs grammar.expression grammar.primary grammar.number grammar.labelled grammar.optional_fields grammar.fields grammar.field_list grammar.field grammar.named grammar.group grammar.concat expression_first expression_more more_of levels words_of same_terminal grammar.operand grammar.tagged grammar.operated grammar.operation chain
  level_2 = one_level level.Sum (level.Product ∷ []) refl refl level_1

  pub level_3 : names_of (chain (level.Shift ∷ (level.Sum ∷ (level.Product ∷ []))))
  unfolding test first more nullable grammar.postfix grammar.suffixes grammar.suffixed grammar.method grammar.bracketed grammar.optional_arguments grammar.arguments grammar.exprs grammar.expression grammar.primary grammar.number grammar.labelled grammar.optional_fields grammar.fields grammar.field_list grammar.field grammar.named grammar.group grammar.concat expression_first expression_more more_of levels words_of same_terminal grammar.operand grammar.tagged grammar.operated grammar.operation chain
  level_3 = one_level level.Shift (level.Sum ∷ (level.Product ∷ [])) refl refl level_2

  pub level_4 : names_of (chain (level.Order ∷ (level.Shift ∷ (level.Sum ∷ (level.Product ∷ [])))))
  unfolding test first more nullable grammar.postfix grammar.suffixes grammar.suffixed grammar.method grammar.bracketed grammar.optional_arguments grammar.arguments grammar.exprs grammar.expression grammar.primary grammar.number grammar.labelled grammar.optional_fields grammar.fields grammar.field_list grammar.field grammar.named grammar.group grammar.concat expression_first expression_more more_of levels words_of same_terminal grammar.operand grammar.tagged grammar.operated grammar.operation chain
  level_4 = one_level level.Order (level.Shift ∷ (level.Sum ∷ (level.Product ∷ []))) refl refl level_3

  pub level_5 : names_of (chain (level.Equality ∷ (level.Order ∷ (level.Shift ∷ (level.Sum ∷ (level.Product ∷ []))))))
  unfolding test first more nullable grammar.postfix grammar.suffixes grammar.suffixed grammar.method grammar.bracketed grammar.optional_arguments grammar.arguments grammar.exprs grammar.expression grammar.primary grammar.number grammar.labelled grammar.optional_fields grammar.fields grammar.field_list grammar.field grammar.named grammar.group grammar.concat expression_first expression_more more_of levels words_of same_terminal grammar.operand grammar.tagged grammar.operated grammar.operation chain
  level_5 = one_level level.Equality (level.Order ∷ (level.Shift ∷ (level.Sum ∷ (level.Product ∷ [])))) refl refl level_4

  pub level_6 : names_of (chain (level.And ∷ (level.Equality ∷ (level.Order ∷ (level.Shift ∷ (level.Sum ∷ (level.Product ∷ [])))))))
  unfolding test first more nullable grammar.postfix grammar.suffixes grammar.suffixed grammar.method grammar.bracketed grammar.optional_arguments grammar.arguments grammar.exprs grammar.expression grammar.primary grammar.number grammar.labelled grammar.optional_fields grammar.fields grammar.field_list grammar.field grammar.named grammar.group grammar.concat expression_first expression_more more_of levels words_of same_terminal grammar.operand grammar.tagged grammar.operated grammar.operation chain
  level_6 = one_level level.And (level.Equality ∷ (level.Order ∷ (level.Shift ∷ (level.Sum ∷ (level.Product ∷ []))))) refl refl level_5

  pub level_7 : names_of (chain (level.Xor ∷ (level.And ∷ (level.Equality ∷ (level.Order ∷ (level.Shift ∷ (level.Sum ∷ (level.Product ∷ []))))))))
  unfolding test first more nullable grammar.postfix grammar.suffixes grammar.suffixed grammar.method grammar.bracketed grammar.optional_arguments grammar.arguments grammar.exprs grammar.expression grammar.primary grammar.number grammar.labelled grammar.optional_fields grammar.fields grammar.field_list grammar.field grammar.named grammar.group grammar.concat expression_first expression_more more_of levels words_of same_terminal grammar.operand grammar.tagged grammar.operated grammar.operation chain
  level_7 = one_level level.Xor (level.And ∷ (level.Equality ∷ (level.Order ∷ (level.Shift ∷ (level.Sum ∷ (level.Product ∷ [])))))) refl refl level_6

  pub level_8 : names_of (chain (level.Or ∷ (level.Xor ∷ (level.And ∷ (level.Equality ∷ (level.Order ∷ (level.Shift ∷ (level.Sum ∷ (level.Product ∷ [])))))))))
  unfolding test first more nullable grammar.postfix grammar.suffixes grammar.suffixed grammar.method grammar.bracketed grammar.optional_arguments grammar.arguments grammar.exprs grammar.expression grammar.primary grammar.number grammar.labelled grammar.optional_fields grammar.fields grammar.field_list grammar.field grammar.named grammar.group grammar.concat expression_first expression_more more_of levels words_of same_terminal grammar.operand grammar.tagged grammar.operated grammar.operation chain
  level_8 = one_level level.Or (level.Xor ∷ (level.And ∷ (level.Equality ∷ (level.Order ∷ (level.Shift ∷ (level.Sum ∷ (level.Product ∷ []))))))) refl refl level_7

  pub level_9 : names_of (chain (level.Both ∷ (level.Or ∷ (level.Xor ∷ (level.And ∷ (level.Equality ∷ (level.Order ∷ (level.Shift ∷ (level.Sum ∷ (level.Product ∷ []))))))))))
  unfolding test first more nullable grammar.postfix grammar.suffixes grammar.suffixed grammar.method grammar.bracketed grammar.optional_arguments grammar.arguments grammar.exprs grammar.expression grammar.primary grammar.number grammar.labelled grammar.optional_fields grammar.fields grammar.field_list grammar.field grammar.named grammar.group grammar.concat expression_first expression_more more_of levels words_of same_terminal grammar.operand grammar.tagged grammar.operated grammar.operation chain
  level_9 = one_level level.Both (level.Or ∷ (level.Xor ∷ (level.And ∷ (level.Equality ∷ (level.Order ∷ (level.Shift ∷ (level.Sum ∷ (level.Product ∷ [])))))))) refl refl level_8

  pub level_10 : names_of (chain (level.Either ∷ (level.Both ∷ (level.Or ∷ (level.Xor ∷ (level.And ∷ (level.Equality ∷ (level.Order ∷ (level.Shift ∷ (level.Sum ∷ (level.Product ∷ [])))))))))))
  unfolding test first more nullable grammar.postfix grammar.suffixes grammar.suffixed grammar.method grammar.bracketed grammar.optional_arguments grammar.arguments grammar.exprs grammar.expression grammar.primary grammar.number grammar.labelled grammar.optional_fields grammar.fields grammar.field_list grammar.field grammar.named grammar.group grammar.concat expression_first expression_more more_of levels words_of same_terminal grammar.operand grammar.tagged grammar.operated grammar.operation chain
  level_10 = one_level level.Either (level.Both ∷ (level.Or ∷ (level.Xor ∷ (level.And ∷ (level.Equality ∷ (level.Order ∷ (level.Shift ∷ (level.Sum ∷ (level.Product ∷ []))))))))) refl refl level_9

  pub levels_named : names_of (chain levels)
  unfolding levels
  levels_named = level_10

  pub arm_named : names_of grammar.arm
  unfolding Names grammar.arm
  arm_named = (tt, (levels_named, (tt, levels_named)))

  pub choice_named : names_of choice
  unfolding Names choice
  choice_named = (levels_named, arm_named)

  pub choice_good : good_of choice
  unfolding test first more nullable grammar.postfix grammar.suffixes grammar.suffixed grammar.method grammar.bracketed grammar.optional_arguments grammar.arguments grammar.exprs grammar.expression grammar.primary grammar.number grammar.labelled grammar.optional_fields grammar.fields grammar.field_list grammar.field grammar.named grammar.group grammar.concat expression_first expression_more more_of levels words_of same_terminal grammar.operand grammar.tagged grammar.operated grammar.operation chain choice grammar.arm
  choice_good = is_good choice refl choice_named

next_completes : (source : List ℕ) (n : ℕ) → Laws source n → (x : Expr) (ts rest : List Lexeme) → IsExpr source (suc n) x ts rest → starts expression_more rest ≡ false → expr source (suc n) false ts ≡ Ok (x, rest)
unfolding expr IsExpr test first more nullable grammar.postfix grammar.suffixes grammar.suffixed grammar.method grammar.bracketed grammar.optional_arguments grammar.arguments grammar.exprs grammar.expression grammar.primary grammar.number grammar.labelled grammar.optional_fields grammar.fields grammar.field_list grammar.field grammar.named grammar.group grammar.concat expression_first expression_more more_of levels words_of same_terminal grammar.operand grammar.tagged grammar.operated grammar.operation chain choice grammar.arm
next_completes source n laws x ts rest d stop = (choice_good source n laws).completes false x ts rest d (within_stops (more begins_by goes_on_by choice) expression_more rest refl stop)

next_begins : (source : List ℕ) (n : ℕ) → Laws source n → (x : Expr) (ts rest : List Lexeme) → IsExpr source (suc n) x ts rest → starts expression_first ts ≡ true
unfolding IsExpr test first more nullable grammar.postfix grammar.suffixes grammar.suffixed grammar.method grammar.bracketed grammar.optional_arguments grammar.arguments grammar.exprs grammar.expression grammar.primary grammar.number grammar.labelled grammar.optional_fields grammar.fields grammar.field_list grammar.field grammar.named grammar.group grammar.concat expression_first expression_more more_of levels words_of same_terminal grammar.operand grammar.tagged grammar.operated grammar.operation chain choice grammar.arm
next_begins source n laws x ts rest d =
    elim ((choice_good source n laws).begins x ts rest d) [
      | inl e ↦ within_starts (first begins_by goes_on_by choice) expression_first ts refl e
      | inr e ↦ let never : false ≡ true = e.0 in absurd cc
    ]

next_shorter : (source : List ℕ) (n : ℕ) → Laws source n → (x : Expr) (ts rest : List Lexeme) → IsExpr source (suc n) x ts rest → length rest < length ts
unfolding IsExpr test first more nullable grammar.postfix grammar.suffixes grammar.suffixed grammar.method grammar.bracketed grammar.optional_arguments grammar.arguments grammar.exprs grammar.expression grammar.primary grammar.number grammar.labelled grammar.optional_fields grammar.fields grammar.field_list grammar.field grammar.named grammar.group grammar.concat expression_first expression_more more_of levels words_of same_terminal grammar.operand grammar.tagged grammar.operated grammar.operation chain choice grammar.arm
next_shorter source n laws x ts rest d = shorter source (λ h. IsExpr source n) (λ h. laws.shorter) choice x ts rest refl d

pub laws_at : (source : List ℕ) (n : ℕ) → Laws source n
unfolding IsExpr
laws_at source zero = record { completes = λ x ts rest d stop. absurd d; begins = λ x ts rest d. absurd d; shorter = λ x ts rest d. absurd d }
laws_at source (suc n) =
    let laws = laws_at source n in
    record { completes = next_completes source n laws; begins = next_begins source n laws; shorter = next_shorter source n laws }
