-- Softly, the reader of expressions reads as far as any expression goes.
use Rattle.std.proofs.Common.{◌≡◌, ℕ, zero, suc, Bool, true, false, List, [], ◌∷◌, refl}
use Rattle.bsv_ast.specs.declared.text.Span.{Span}
use Rattle.bsv_ast.specs.declared.expressions.Expr.{Expr}
use Rattle.bsv_ast.specs.declared.expressions.Level.{Level}
use Rattle.bsv_ast.specs.declared.expressions.Level.TheVariants as level
use Rattle.bsv_expr.specs.declared.lexeme.Lexeme.{Lexeme}
use Rattle.bsv_expr.specs.Lexemes.{same_terminal}
use Rattle.bsv_expr.proofs.Ahead.{nullable, first, more, test}
use Rattle.bsv_expr.specs.Expressions as grammar
use Rattle.bsv_expr.specs.Expressions.{Of, IsExpr, expression_first, expression_more, more_of, levels, words_of, chain, choice}
use Rattle.bsv_expr.specs.Readers.{expr}
use Rattle.bsv_expr.proofs.Depths.{expr_memory}
use Rattle.bsv_expr.proofs.Knot.{laws_at, expr_sound, begins_by, goes_on_by, level_body, postfix_named, level_0, level_1, level_2, level_3, level_4, level_5, level_6, level_7, level_8, level_9, choice_named}
use Rattle.bsv_expr.proofs.Complete.{Names}
use Rattle.bsv_expr.proofs.Longest.{Far, Reaching, Firm, reaches}

module _ (source : List ℕ) (n : ℕ) where
  abbrev firm_of : {A : Type 0} → Of A → Type 0
  firm_of g = Firm source (λ h. expr source n false) (λ h. IsExpr source n) begins_by goes_on_by g

  abbrev far_of : {A : Type 0} → Of A → Type 0
  far_of g = Reaching source (λ h. expr source n false) (λ h. IsExpr source n) g

  abbrev names_of : {A : Type 0} → Of A → Type 0
  names_of g = Names source (λ h. expr source n false) (λ h. IsExpr source n) begins_by goes_on_by (λ h. (laws_at source n).completes) (λ h. (laws_at source n).begins) (λ h. (laws_at source n).shorter) g

  far : {A : Type 0} (g : Of A) → test begins_by goes_on_by g ≡ true → names_of g → firm_of g → far_of g
  far g = reaches source (λ h. expr source n false) (λ h. IsExpr source n) begins_by goes_on_by (λ h. (laws_at source n).completes) (λ h. (laws_at source n).begins) (λ h. (laws_at source n).shorter)
      (λ h us y vs d. expr_sound source n false us y vs d) (λ h. expr_memory source n false) g

  postfix_firm : firm_of grammar.postfix
  unfolding Firm grammar.postfix grammar.primary grammar.number grammar.labelled grammar.optional_fields grammar.fields grammar.named grammar.optional_arguments grammar.arguments grammar.group grammar.concat grammar.suffixes grammar.suffixed grammar.method grammar.bracketed
  postfix_firm = ((tt, ((tt, tt), ((tt, tt), (tt, tt)))), (tt, ((tt, (tt, tt)), tt)))

  payload_firm : (t : Span × (Span × Bool)) → (nullable (grammar.payload t) ≡ true → more begins_by goes_on_by grammar.tag ≡ []) × far_of (grammar.payload t)
  unfolding test first more nullable grammar.postfix grammar.suffixes grammar.suffixed grammar.method grammar.bracketed grammar.optional_arguments grammar.arguments grammar.exprs grammar.expression grammar.primary grammar.number grammar.labelled grammar.optional_fields grammar.fields grammar.field_list grammar.field grammar.named grammar.group grammar.concat expression_first expression_more more_of levels words_of same_terminal Firm Names
  payload_firm (s, (t, true)) = ((λ e. refl), far (grammar.payload (s, (t, true))) refl (postfix_named source n (laws_at source n)) postfix_firm)
  payload_firm (s, (t, false)) = ((λ e. refl), far (grammar.payload (s, (t, false))) refl tt tt)

  operand_firm : firm_of grammar.operand
  unfolding Firm grammar.operand grammar.tagged grammar.operated
  operand_firm = (payload_firm, ((tt, postfix_firm), postfix_firm))

  one_level : (l : Level) (ls : List Level) → test begins_by goes_on_by (level_body l ls) ≡ true → names_of (chain ls) → firm_of (chain ls) → firm_of (chain (l ∷ ls))
  unfolding Firm Names chain grammar.operation
  one_level l ls body names firm = far (level_body l ls) body (names, (tt, names)) (firm, (tt, firm))

  firm_0 : firm_of (chain [])
  unfolding chain
  firm_0 = operand_firm

  firm_1 : firm_of (chain (level.Product ∷ []))
  unfolding test first more nullable grammar.postfix grammar.suffixes grammar.suffixed grammar.method grammar.bracketed grammar.optional_arguments grammar.arguments grammar.exprs grammar.expression grammar.primary grammar.number grammar.labelled grammar.optional_fields grammar.fields grammar.field_list grammar.field grammar.named grammar.group grammar.concat expression_first expression_more more_of levels words_of same_terminal grammar.operand grammar.tagged grammar.operated grammar.operation chain
  firm_1 = one_level level.Product [] refl (level_0 source n (laws_at source n)) firm_0

  firm_2 : firm_of (chain (level.Sum ∷ (level.Product ∷ [])))
  unfolding test first more nullable grammar.postfix grammar.suffixes grammar.suffixed grammar.method grammar.bracketed grammar.optional_arguments grammar.arguments grammar.exprs grammar.expression grammar.primary grammar.number grammar.labelled grammar.optional_fields grammar.fields grammar.field_list grammar.field grammar.named grammar.group grammar.concat expression_first expression_more more_of levels words_of same_terminal grammar.operand grammar.tagged grammar.operated grammar.operation chain
  firm_2 = one_level level.Sum (level.Product ∷ []) refl (level_1 source n (laws_at source n)) firm_1

  firm_3 : firm_of (chain (level.Shift ∷ (level.Sum ∷ (level.Product ∷ []))))
  unfolding test first more nullable grammar.postfix grammar.suffixes grammar.suffixed grammar.method grammar.bracketed grammar.optional_arguments grammar.arguments grammar.exprs grammar.expression grammar.primary grammar.number grammar.labelled grammar.optional_fields grammar.fields grammar.field_list grammar.field grammar.named grammar.group grammar.concat expression_first expression_more more_of levels words_of same_terminal grammar.operand grammar.tagged grammar.operated grammar.operation chain
  firm_3 = one_level level.Shift (level.Sum ∷ (level.Product ∷ [])) refl (level_2 source n (laws_at source n)) firm_2

  firm_4 : firm_of (chain (level.Order ∷ (level.Shift ∷ (level.Sum ∷ (level.Product ∷ [])))))
  unfolding test first more nullable grammar.postfix grammar.suffixes grammar.suffixed grammar.method grammar.bracketed grammar.optional_arguments grammar.arguments grammar.exprs grammar.expression grammar.primary grammar.number grammar.labelled grammar.optional_fields grammar.fields grammar.field_list grammar.field grammar.named grammar.group grammar.concat expression_first expression_more more_of levels words_of same_terminal grammar.operand grammar.tagged grammar.operated grammar.operation chain
  firm_4 = one_level level.Order (level.Shift ∷ (level.Sum ∷ (level.Product ∷ []))) refl (level_3 source n (laws_at source n)) firm_3

  firm_5 : firm_of (chain (level.Equality ∷ (level.Order ∷ (level.Shift ∷ (level.Sum ∷ (level.Product ∷ []))))))
  unfolding test first more nullable grammar.postfix grammar.suffixes grammar.suffixed grammar.method grammar.bracketed grammar.optional_arguments grammar.arguments grammar.exprs grammar.expression grammar.primary grammar.number grammar.labelled grammar.optional_fields grammar.fields grammar.field_list grammar.field grammar.named grammar.group grammar.concat expression_first expression_more more_of levels words_of same_terminal grammar.operand grammar.tagged grammar.operated grammar.operation chain
  firm_5 = one_level level.Equality (level.Order ∷ (level.Shift ∷ (level.Sum ∷ (level.Product ∷ [])))) refl (level_4 source n (laws_at source n)) firm_4

  firm_6 : firm_of (chain (level.And ∷ (level.Equality ∷ (level.Order ∷ (level.Shift ∷ (level.Sum ∷ (level.Product ∷ [])))))))
  unfolding test first more nullable grammar.postfix grammar.suffixes grammar.suffixed grammar.method grammar.bracketed grammar.optional_arguments grammar.arguments grammar.exprs grammar.expression grammar.primary grammar.number grammar.labelled grammar.optional_fields grammar.fields grammar.field_list grammar.field grammar.named grammar.group grammar.concat expression_first expression_more more_of levels words_of same_terminal grammar.operand grammar.tagged grammar.operated grammar.operation chain
  firm_6 = one_level level.And (level.Equality ∷ (level.Order ∷ (level.Shift ∷ (level.Sum ∷ (level.Product ∷ []))))) refl (level_5 source n (laws_at source n)) firm_5

  firm_7 : firm_of (chain (level.Xor ∷ (level.And ∷ (level.Equality ∷ (level.Order ∷ (level.Shift ∷ (level.Sum ∷ (level.Product ∷ []))))))))
  unfolding test first more nullable grammar.postfix grammar.suffixes grammar.suffixed grammar.method grammar.bracketed grammar.optional_arguments grammar.arguments grammar.exprs grammar.expression grammar.primary grammar.number grammar.labelled grammar.optional_fields grammar.fields grammar.field_list grammar.field grammar.named grammar.group grammar.concat expression_first expression_more more_of levels words_of same_terminal grammar.operand grammar.tagged grammar.operated grammar.operation chain
  firm_7 = one_level level.Xor (level.And ∷ (level.Equality ∷ (level.Order ∷ (level.Shift ∷ (level.Sum ∷ (level.Product ∷ [])))))) refl (level_6 source n (laws_at source n)) firm_6

  firm_8 : firm_of (chain (level.Or ∷ (level.Xor ∷ (level.And ∷ (level.Equality ∷ (level.Order ∷ (level.Shift ∷ (level.Sum ∷ (level.Product ∷ [])))))))))
  unfolding test first more nullable grammar.postfix grammar.suffixes grammar.suffixed grammar.method grammar.bracketed grammar.optional_arguments grammar.arguments grammar.exprs grammar.expression grammar.primary grammar.number grammar.labelled grammar.optional_fields grammar.fields grammar.field_list grammar.field grammar.named grammar.group grammar.concat expression_first expression_more more_of levels words_of same_terminal grammar.operand grammar.tagged grammar.operated grammar.operation chain
  firm_8 = one_level level.Or (level.Xor ∷ (level.And ∷ (level.Equality ∷ (level.Order ∷ (level.Shift ∷ (level.Sum ∷ (level.Product ∷ []))))))) refl (level_7 source n (laws_at source n)) firm_7

  firm_9 : firm_of (chain (level.Both ∷ (level.Or ∷ (level.Xor ∷ (level.And ∷ (level.Equality ∷ (level.Order ∷ (level.Shift ∷ (level.Sum ∷ (level.Product ∷ []))))))))))
  unfolding test first more nullable grammar.postfix grammar.suffixes grammar.suffixed grammar.method grammar.bracketed grammar.optional_arguments grammar.arguments grammar.exprs grammar.expression grammar.primary grammar.number grammar.labelled grammar.optional_fields grammar.fields grammar.field_list grammar.field grammar.named grammar.group grammar.concat expression_first expression_more more_of levels words_of same_terminal grammar.operand grammar.tagged grammar.operated grammar.operation chain
  firm_9 = one_level level.Both (level.Or ∷ (level.Xor ∷ (level.And ∷ (level.Equality ∷ (level.Order ∷ (level.Shift ∷ (level.Sum ∷ (level.Product ∷ [])))))))) refl (level_8 source n (laws_at source n)) firm_8

  firm_10 : firm_of (chain (level.Either ∷ (level.Both ∷ (level.Or ∷ (level.Xor ∷ (level.And ∷ (level.Equality ∷ (level.Order ∷ (level.Shift ∷ (level.Sum ∷ (level.Product ∷ [])))))))))))
  unfolding test first more nullable grammar.postfix grammar.suffixes grammar.suffixed grammar.method grammar.bracketed grammar.optional_arguments grammar.arguments grammar.exprs grammar.expression grammar.primary grammar.number grammar.labelled grammar.optional_fields grammar.fields grammar.field_list grammar.field grammar.named grammar.group grammar.concat expression_first expression_more more_of levels words_of same_terminal grammar.operand grammar.tagged grammar.operated grammar.operation chain
  firm_10 = one_level level.Either (level.Both ∷ (level.Or ∷ (level.Xor ∷ (level.And ∷ (level.Equality ∷ (level.Order ∷ (level.Shift ∷ (level.Sum ∷ (level.Product ∷ []))))))))) refl (level_9 source n (laws_at source n)) firm_9

  levels_firm : firm_of (chain levels)
  unfolding levels
  levels_firm = firm_10

  choice_firm : firm_of choice
  unfolding Firm choice grammar.arm
  choice_firm = (levels_firm, (tt, (levels_firm, (tt, levels_firm))))

  pub choice_far : far_of choice
  unfolding test first more nullable grammar.postfix grammar.suffixes grammar.suffixed grammar.method grammar.bracketed grammar.optional_arguments grammar.arguments grammar.exprs grammar.expression grammar.primary grammar.number grammar.labelled grammar.optional_fields grammar.fields grammar.field_list grammar.field grammar.named grammar.group grammar.concat expression_first expression_more more_of levels words_of same_terminal grammar.operand grammar.tagged grammar.operated grammar.operation chain choice grammar.arm
  choice_far = far choice refl (choice_named source n (laws_at source n)) choice_firm

-- softly the reader reads as far as any expression, or it was given too few brackets
pub expr_far : (source : List ℕ) (n : ℕ) (x : Expr) (ts rest : List Lexeme) → IsExpr source n x ts rest → Far (expr source n true ts) rest
unfolding expr IsExpr
expr_far source zero x ts rest d = absurd d
expr_far source (suc n) x ts rest d = choice_far source n x ts rest d
