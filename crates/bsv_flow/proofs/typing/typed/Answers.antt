use Rattle.std.proofs.Common.{◌≡◌, List, Some, Err, ap, ◌∙◌, subst}
use Rattle.bsv_ast.specs.declared.package.Package.{Package}
use Rattle.bsv_check.specs.Checked.{checked}
use Rattle.bsv_check.specs.Seen.{Refusing}
use Rattle.bsv_flow.proofs.Told.{told_as}
use Rattle.bsv_flow.proofs.typing.typed.Goals as goal

pub returns-in_ok-refusal-in-Err-clause-refused : goal.returns-in_ok-refusal-in-Err-clause-refused
returns-in_ok-refusal-in-Err-clause-refused c =
    λ r e.
    let same : c.in_ok-refusal-in-Err.field-0 ≡ r = cc in
    let refuses = subst (λ (ps : List Package). Refusing c.in-Err.fault (λ q. checked ps ≡ Err q)) c.as_slice.ensures c.in-Err.ensures.only in
    told_as c.args.loaded.now c.in-Err.fault r refuses (c.in_ok-refusal-in-Err.ensures ∙ ap Some same)
