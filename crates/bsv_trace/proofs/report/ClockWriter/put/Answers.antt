use Rattle.std.proofs.Common.{◌∙◌, List, ap, sym, subst}
use Rattle.bsv_io.proofs.Sequences.{prefix_flushing}
use Rattle.bsv_design.specs.declared.design.NamedPart.{NamedPart}
use Rattle.bsv_design.specs.declared.element.Element.{Element}
use Rattle.bsv_trace.specs.Shown.{ShowParts}
use Rattle.bsv_trace.specs.Texts as texts
use Rattle.bsv_io.proofs.Adding.{adds_text}
use Rattle.bsv_trace.proofs.report.ClockWriter.put.Goals as goal

pub returns-clause-prefix : goal.returns-clause-prefix
returns-clause-prefix g c = λ ps shown.
    let here = subst (λ (l : List NamedPart). ShowParts l c.args.registers.now ps) (sym c.as_slice-2.ensures) shown in
    let added = adds_text (ap (λ (l : List Element). texts.clock_text (texts.name_at l) c.args.number c.args.fired.now c.as_slice-2.result.now ps) c.as_slice.ensures ∙ ap (λ (l : List NamedPart). texts.clock_text (texts.name_at c.args.design.now.elements) c.args.number c.args.fired.now l ps) c.as_slice-2.ensures) (c.in_default.ensures ps here) in
    prefix_flushing _ _ _ _ _ _ c.args.self.now.empty added.prefix added.ok c.flush.ensures.prefix
