use Rattle.std.proofs.Common.{List, length, codes, decimal, sym, ap, subst, ◌∙◌}
use Rattle.std.proofs.lemmas.Result.{IfOk-weaker}
use Rattle.bsv_design.specs.declared.design.NamedPart.{NamedPart}
use Rattle.bsv_trace.specs.Shown.{ShowParts}
use Rattle.bsv_top.specs.Made.{held_at, sum_line, summary_of, summary_with}
use Rattle.bsv_top.proofs.MadeRun.{texts_same}
use Rattle.bsv_top.proofs.made.summary.Goals as goal

pub returns : goal.returns
unfolding summary_of summary_with
returns c =
    let d = c.args.design.now in
    IfOk-weaker c.join.result _ _
    (λ text h ps shown.
    let found =
    c.held_at-sum.ensures ps (subst (λ (l : List NamedPart). ShowParts l c.args.registers.now ps) (sym c.as_slice.ensures) shown)
    ∙ ap (λ (l : List NamedPart). held_at (codes "s") l ps) c.as_slice.ensures in
    h ∙ texts_same _ _ _ _ _ (decimal c.args.size) (decimal (length d.elements)) (decimal (length d.parts)) (decimal c.args.fired) (sum_line (held_at (codes "s") d.parts ps))
    (c.as_bytes.ensures.value ∙ c.format.ensures.text)
    (c.as_bytes-2.ensures.value ∙ c.format-2.ensures.text ∙ ap decimal c.len.ensures)
    (c.as_bytes-3.ensures.value ∙ c.format-3.ensures.text ∙ ap decimal c.len-2.ensures)
    (c.as_bytes-4.ensures.value ∙ c.format-4.ensures.text) (c.as_slice-2.ensures.value ∙ c.in_ok-line.ensures ∙ ap sum_line found))
    c.join.ensures
