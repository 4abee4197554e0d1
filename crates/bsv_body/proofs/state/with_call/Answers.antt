use Rattle.std.proofs.Common.{◌∙◌, ◌++◌, ◌∷◌, [], List, ap}
use Rattle.bsv_body.specs.declared.calls.Call.{Call}
use Rattle.bsv_body.proofs.Steps.{asked_of}
use Rattle.bsv_body.proofs.state.with_call.Goals as goal

pub returns : goal.returns
returns c =
    ap (asked_of c.args.others.conditions)
    (c.in_ok-append.ensures ∙ ap (λ (cs : List Call). cs ++ c.args.others.calls) (c.in_ok-push.ensures.ok ∙ ap (λ (cs : List Call). cs ++ c.args.call ∷ []) c.new-calls.ensures))
