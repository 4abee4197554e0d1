use Rattle.std.proofs.Common.{◌∙◌, ap, subst}
use Rattle.bsv_elab.specs.declared.state.Scope.{Scope}
use Rattle.bsv_elab.specs.declared.state.State.{State}
use Rattle.bsv_elab.specs.Becoming.{Finishes}
use Rattle.bsv_elab.proofs.Finished.{body_gives}
use Rattle.bsv_elab.proofs.builder.Builder.+build.Goals as goal

pub body_of-returns : goal.body_of-returns
body_of-returns t c =
    body_gives c.args.self c.args.«module».now c.args.bindings c.args.state.now.grown c.own_body-own.result c.finished.result c.open.new.state c.own_body-own.new.state c.enter-inner.new.state c.args.state.now
    c.in_ok-outer.ensures.opened c.own_body-own.ensures
    (subst (λ (s : Scope). Finishes c.args.self.«module» s c.own_body-own.result c.finished.result) c.enter-inner.ensures.was c.finished.ensures)
    (ap (λ (s : State). s.grown) c.enter-inner.ensures.entered)
    (ap (λ (s : State). s.scope) c.enter-inner.ensures.entered ∙ c.in_ok-outer.ensures.was)
