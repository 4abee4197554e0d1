use Rattle.std.proofs.Common.{inl, Ok, Err, ap, subst, ◌∙◌}
use Rattle.bsv_parse.specs.Reads.{IsTooDeep}
use Rattle.bsv_parse.specs.declared.answer.ParseFault.TheVariants as parse
use Rattle.bsv_parse.proofs.Judged.{deep_at, same_deep, shallow_by, read_is, none_is_read, never_deep, deep_is, one_read, same_byte}
use Rattle.bsv_parse.proofs.answer.package.Goals as goal

pub returns-in-Some-clause-only : goal.returns-in-Some-clause-only
returns-in-Some-clause-only c = λ x d shallow. absurd (deep_is c.args.source.now c.args.tokens.now c.in-Some.at (deep_at c.args.source.now c.args.tokens.now c.as_slice.result.now (c.as_slice.ensures.value ∙ c.in_ok-lexemes.ensures) c.first_deep.result c.in-Some.at c.first_deep.ensures c.in-Some.is) shallow)

pub returns-in-Some-clause-deep : goal.returns-in-Some-clause-deep
returns-in-Some-clause-deep c = λ at e. subst (IsTooDeep c.args.source.now c.args.tokens.now) (same_byte c.in-Some.at at e) (deep_at c.args.source.now c.args.tokens.now c.as_slice.result.now (c.as_slice.ensures.value ∙ c.in_ok-lexemes.ensures) c.first_deep.result c.in-Some.at c.first_deep.ensures c.in-Some.is)

pub returns-in-Some-clause-too_deep : goal.returns-in-Some-clause-too_deep
returns-in-Some-clause-too_deep c = λ at d. inl (ap (λ n. Err (parse.TooDeep n)) (same_deep c.args.source.now c.args.tokens.now c.as_slice.result.now (c.as_slice.ensures.value ∙ c.in_ok-lexemes.ensures) c.first_deep.result c.in-Some.at at c.first_deep.ensures c.in-Some.is d))

pub returns-in-Ok-clause-found : goal.returns-in-Ok-clause-found
returns-in-Ok-clause-found c = read_is c.args.source.now c.args.tokens.now c.as_slice-2.result.now (c.as_slice-2.ensures.value ∙ c.in_ok-lexemes.ensures) c.in-Ok.found c.in-Ok.ensures

pub returns-in-Ok-clause-shallow : goal.returns-in-Ok-clause-shallow
returns-in-Ok-clause-shallow c = (shallow_by c.args.source.now c.args.tokens.now c.as_slice.result.now (c.as_slice.ensures.value ∙ c.in_ok-lexemes.ensures) c.first_deep.result c.first_deep.ensures c.in_default.not-Some)

pub returns-in-Ok-clause-only : goal.returns-in-Ok-clause-only
returns-in-Ok-clause-only c = λ x d shallow. inl (ap (λ y. Ok y) (one_read c.args.source.now c.args.tokens.now c.in-Ok.found x (read_is c.args.source.now c.args.tokens.now c.as_slice-2.result.now (c.as_slice-2.ensures.value ∙ c.in_ok-lexemes.ensures) c.in-Ok.found c.in-Ok.ensures) d))

pub returns-in-Ok-clause-too_deep : goal.returns-in-Ok-clause-too_deep
returns-in-Ok-clause-too_deep c = λ at d. absurd (deep_is c.args.source.now c.args.tokens.now at d (shallow_by c.args.source.now c.args.tokens.now c.as_slice.result.now (c.as_slice.ensures.value ∙ c.in_ok-lexemes.ensures) c.first_deep.result c.first_deep.ensures c.in_default.not-Some))

pub returns-in-Err-Syntax-clause-only : goal.returns-in-Err-Syntax-clause-only
returns-in-Err-Syntax-clause-only c = λ x d shallow. absurd (none_is_read c.args.source.now c.args.tokens.now c.as_slice-2.result.now (c.as_slice-2.ensures.value ∙ c.in_ok-lexemes.ensures) _ c.in-Err-Syntax.left c.in-Err-Syntax.field-0-is c.in-Err-Syntax.ensures x d)

pub returns-in-Err-Syntax-clause-too_deep : goal.returns-in-Err-Syntax-clause-too_deep
returns-in-Err-Syntax-clause-too_deep c = λ at d. absurd (deep_is c.args.source.now c.args.tokens.now at d (shallow_by c.args.source.now c.args.tokens.now c.as_slice.result.now (c.as_slice.ensures.value ∙ c.in_ok-lexemes.ensures) c.first_deep.result c.first_deep.ensures c.in_default.not-Some))

pub returns-in-Err-Syntax-clause-syntax : goal.returns-in-Err-Syntax-clause-syntax
returns-in-Err-Syntax-clause-syntax c = λ at e x d. none_is_read c.args.source.now c.args.tokens.now c.as_slice-2.result.now (c.as_slice-2.ensures.value ∙ c.in_ok-lexemes.ensures) _ c.in-Err-Syntax.left c.in-Err-Syntax.field-0-is c.in-Err-Syntax.ensures x d

pub returns-in-Err-Syntax-clause-syntax_shallow : goal.returns-in-Err-Syntax-clause-syntax_shallow
returns-in-Err-Syntax-clause-syntax_shallow c = λ at e. (shallow_by c.args.source.now c.args.tokens.now c.as_slice.result.now (c.as_slice.ensures.value ∙ c.in_ok-lexemes.ensures) c.first_deep.result c.first_deep.ensures c.in_default.not-Some)

pub unreachable-requires : goal.unreachable-requires
unreachable-requires c = never_deep c.args.source.now c.args.tokens.now c.as_slice-2.result.now (c.as_slice-2.ensures.value ∙ c.in_ok-lexemes.ensures) _ c.in-Err-TooDeep.field-0-is c.in-Err-TooDeep.ensures (shallow_by c.args.source.now c.args.tokens.now c.as_slice.result.now (c.as_slice.ensures.value ∙ c.in_ok-lexemes.ensures) c.first_deep.result c.first_deep.ensures c.in_default.not-Some)
