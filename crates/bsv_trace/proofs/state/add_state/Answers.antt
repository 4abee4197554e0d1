use Rattle.std.proofs.Common.{◌∙◌, ◌∷◌, List, ap}
use Rattle.bsv_prim.specs.declared.part.Part.{Part}
use Rattle.bsv_design.specs.declared.design.NamedPart.{NamedPart}
use Rattle.bsv_trace.specs.Texts as texts
use Rattle.bsv_io.proofs.Adding.{going_on, going_failed, going_text}
use Rattle.bsv_trace.proofs.state.add_state.Goals as goal

pub returns-in_err-add_instance : goal.returns-in_err-add_instance
returns-in_err-add_instance g c =
    let both = ap (λ (l : List NamedPart). texts.state_lines l c.loop-instance.held.now) c.in-Some.ensures.cases.0
    ∙ ap (λ (l : List Part). texts.state_lines (c.in-Some.instance.now ∷ c.in-Some.others.now) l) c.in-Some-split_first.ensures.cases.0 in
    going_failed (texts.state_lines c.in-Some.others.now c.in-Some-split_first.more.now) c.from_residual.result c.from_residual.ensures.0
    (going_text both c.loop-instance.invariant) c.in_err-add_instance.ensures

pub loop-instance-preserved : goal.loop-instance-preserved
loop-instance-preserved g c =
    let both = ap (λ (l : List NamedPart). texts.state_lines l c.loop-instance.held.now) c.in-Some.ensures.cases.0
    ∙ ap (λ (l : List Part). texts.state_lines (c.in-Some.instance.now ∷ c.in-Some.others.now) l) c.in-Some-split_first.ensures.cases.0 in
    going_on (texts.state_lines c.in-Some.others.now c.in-Some-split_first.more.now)
    (going_text both c.loop-instance.invariant) c.in_ok-add_instance.ensures
