use Rattle.std.proofs.Common.{Bor, ◌≡◌, ◌-◌, ℕ, List, true, drop, length, Result, Err, ap, subst, ◌∙◌, arith}
use Rattle.bsv_ast.specs.declared.expressions.Expr.{Expr}
use Rattle.bsv_lex.specs.declared.token.Token.{Token}
use Rattle.bsv_expr.specs.declared.lexeme.Lexeme.{Lexeme}
use Rattle.bsv_expr.specs.Lexemes.{lexemes}
use Rattle.bsv_expr.specs.declared.fault.ReadFault.{ReadFault}
use Rattle.bsv_expr.specs.declared.fault.ReadFault.TheVariants as fault
use Rattle.bsv_expr.specs.Reading.{Read, Gives}
use Rattle.bsv_expr.specs.Readers.{expr}
use Rattle.bsv_expr.proofs.Extents.{count, found_between, rest_fits, longest, one, none, not_too_deep}
use Rattle.bsv_expr.proofs.extent.expression.Goals as goal

-- what was read from the tokens after a place
read_after : (source : List ℕ) (tokens : List Token) (at : ℕ) (all from : List Lexeme) (r : Read Expr) → all ≡ lexemes source tokens → from ≡ drop at all → expr source 65 true from ≡ r → expr source 65 true (drop at (lexemes source tokens)) ≡ r
read_after source tokens at all from r whole behind e = subst (λ us. expr source 65 true us ≡ r) (behind ∙ ap (drop at) whole) e

-- the fault that a call gave
fault_is : {X Y : Type 0} (view : X → Y) (d e : ReadFault) (r : Result Y ReadFault) → d ≡ e → Gives view (Err d) r → Gives view (Err e) r
fault_is view d e r is given = subst (λ f. Gives view (Err f) r) is given

pub split_at-requires : goal.split_at-requires
split_at-requires c =
    let all : length c.deref.result.now ≡ length c.args.tokens.now = ap length (c.deref.ensures.value ∙ c.in_ok-lexemes.ensures) ∙ count c.args.source.now c.args.tokens.now in
    omega (arith, c.requires.within)

pub overflow_sub-result : goal.overflow_sub-result
overflow_sub-result c = rest_fits c.args.source.now c.args.tokens.now c.args.at c.in-Ok.found c.in-Ok.behind.now (read_after c.args.source.now c.args.tokens.now c.args.at c.deref.result.now c.split_at.result.1.now _ (c.deref.ensures.value ∙ c.in_ok-lexemes.ensures) c.split_at.ensures.back c.in-Ok.ensures)

pub returns-in-Ok-clause-found : goal.returns-in-Ok-clause-found
returns-in-Ok-clause-found c = found_between c.args.source.now c.args.tokens.now c.args.at c.in-Ok.found c.in-Ok.behind.now (read_after c.args.source.now c.args.tokens.now c.args.at c.deref.result.now c.split_at.result.1.now _ (c.deref.ensures.value ∙ c.in_ok-lexemes.ensures) c.split_at.ensures.back c.in-Ok.ensures)

pub returns-in-Ok-clause-longest : goal.returns-in-Ok-clause-longest
returns-in-Ok-clause-longest c = longest c.args.source.now c.args.tokens.now c.args.at c.in-Ok.found c.in-Ok.behind.now c.requires.shallow (read_after c.args.source.now c.args.tokens.now c.args.at c.deref.result.now c.split_at.result.1.now _ (c.deref.ensures.value ∙ c.in_ok-lexemes.ensures) c.split_at.ensures.back c.in-Ok.ensures)

pub returns-in-Ok-clause-one : goal.returns-in-Ok-clause-one
returns-in-Ok-clause-one c = λ y d. one c.args.source.now c.args.tokens.now c.args.at c.in-Ok.found y (length c.args.tokens.now - length c.in-Ok.behind.now) (found_between c.args.source.now c.args.tokens.now c.args.at c.in-Ok.found c.in-Ok.behind.now (read_after c.args.source.now c.args.tokens.now c.args.at c.deref.result.now c.split_at.result.1.now _ (c.deref.ensures.value ∙ c.in_ok-lexemes.ensures) c.split_at.ensures.back c.in-Ok.ensures)) d

pub returns-in-Err-Syntax-clause-syntax : goal.returns-in-Err-Syntax-clause-syntax
returns-in-Err-Syntax-clause-syntax c = λ byte is. none c.args.source.now c.args.tokens.now c.args.at c.in-Err-Syntax.left c.requires.shallow (read_after c.args.source.now c.args.tokens.now c.args.at c.deref.result.now c.split_at.result.1.now _ (c.deref.ensures.value ∙ c.in_ok-lexemes.ensures) c.split_at.ensures.back (fault_is {X = Expr × Bor (List Lexeme)} (λ x. (x.0, x.1.now)) _ (fault.Syntax c.in-Err-Syntax.left) _ c.in-Err-Syntax.field-0-is c.in-Err-Syntax.ensures))

pub returns-in-Err-TooDeep-clause-syntax : goal.returns-in-Err-TooDeep-clause-syntax
returns-in-Err-TooDeep-clause-syntax c = λ byte is y next d. not_too_deep c.args.source.now c.args.tokens.now c.args.at c.requires.shallow (read_after c.args.source.now c.args.tokens.now c.args.at c.deref.result.now c.split_at.result.1.now _ (c.deref.ensures.value ∙ c.in_ok-lexemes.ensures) c.split_at.ensures.back (fault_is {X = Expr × Bor (List Lexeme)} (λ x. (x.0, x.1.now)) _ fault.TooDeep _ c.in-Err-TooDeep.field-0-is c.in-Err-TooDeep.ensures))
