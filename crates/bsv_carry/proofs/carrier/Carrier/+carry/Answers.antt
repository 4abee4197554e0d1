use Rattle.std.proofs.Common.{rules, subst, sym}
use Rattle.bsv_fail.specs.Given.{Gives}
use Rattle.bsv_carry.specs.AtHand as spec
use Rattle.bsv_carry.proofs.Nodes as nodes
use Rattle.bsv_carry.proofs.carrier.Carrier.+carry.Goals as goal

pub expr-returns-in_err-found-in-Method : goal.expr-returns-in_err-found-in-Method
expr-returns-in_err-found-in-Method t c =
    subst (λ z. Gives c.from_residual-in_err-found-in-Method.result z) (sym (nodes.method_at (spec.caller c.args.self) (spec.site c.args.self) c.in-Method.ty c.args.locals.now c.args.work c.in-Method.place c.in-Method.number c.in-Method.arguments c.args.e.now c.in-Method.is)) (search rules)

pub expr-returns-in_ok-found-in-Method : goal.expr-returns-in_ok-found-in-Method
expr-returns-in_ok-found-in-Method t c =
    subst (λ z. Gives c.settled-in-Method.result z) (sym (nodes.method_at (spec.caller c.args.self) (spec.site c.args.self) c.in-Method.ty c.args.locals.now c.args.work c.in-Method.place c.in-Method.number c.in-Method.arguments c.args.e.now c.in-Method.is)) (search rules)

pub stmt-returns-in-Case : goal.stmt-returns-in-Case
stmt-returns-in-Case t c =
    subst (λ z. Gives c.cases.result z) (sym (nodes.case_at (spec.caller c.args.self) (spec.site c.args.self) c.args.locals c.args.work c.in-Case.subject c.in-Case.arms c.in-Case.otherwise c.args.stmt.now c.in-Case.is)) (search rules)
