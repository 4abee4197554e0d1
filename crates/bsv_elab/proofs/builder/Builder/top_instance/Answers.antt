use Rattle.std.proofs.Common.{◌∙◌, [], Err, ap, subst, sym}
use Rattle.std.proofs.lemmas.Result.{err_from_is_err_and}
use Rattle.bsv_fail.specs.Given.{Gives, Fails}
use Rattle.bsv_elab.specs.AtHand as spec
use Rattle.bsv_elab.proofs.builder.Builder.top_instance.Goals as goal

pub returns-in_err-built : goal.returns-in_err-built
returns-in_err-built c =
    let own = c.args.self in
    let r = c.from_residual-in_err-built.result in
    let fail = c.in_err-built.field-0.0 in
    let grown = c.in_ok-state.state.grown in
    let p = err_from_is_err_and r c.from_residual-in_err-built.ensures.1 in
    let failed : Fails fail (spec.inner_body own own.«module» [] [] grown) =
    subst (λ bs. Fails fail (spec.inner_body own own.«module» [] bs grown)) c.new-none.ensures c.in_err-built.ensures in
    subst (λ g. Gives r (spec.inner_body own own.«module» [] [] g)) c.in_ok-state.ensures
    (subst (λ x. Gives x (spec.inner_body own own.«module» [] [] grown)) (sym (p.1 ∙ ap Err p.2)) failed)
