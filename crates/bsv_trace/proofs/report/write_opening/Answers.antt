use Rattle.std.proofs.Common.{◌∙◌, List, ap}
use Rattle.bsv_io.proofs.Sequences.{prefix_flushing}
use Rattle.bsv_design.specs.declared.design.NamedPart.{NamedPart}
use Rattle.bsv_trace.specs.Texts as texts
use Rattle.bsv_io.proofs.Adding.{adds_text}
use Rattle.bsv_trace.proofs.report.write_opening.Goals as goal

pub returns-clause-prefix : goal.returns-clause-prefix
returns-clause-prefix g c =
    let added = adds_text (ap (λ (l : List NamedPart). texts.opening_text l c.as_slice-2.result.now) c.as_slice.ensures ∙ ap (texts.opening_text c.args.design.now.parts) c.as_slice-2.ensures.value) c.in_ok-add_opening.ensures in
    prefix_flushing _ _ _ _ _ _ c.new-buffer.ensures added.prefix added.ok c.flush.ensures.prefix
