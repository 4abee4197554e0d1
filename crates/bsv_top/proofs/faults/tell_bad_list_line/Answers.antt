use Rattle.std.proofs.Common.{ℕ, List, ◌++◌, codes, ap, ◌∙◌}
use Rattle.bsv_io.specs.Writing.{appended}
use Rattle.bsv_top.specs.Answers.{list_fault_line}
use Rattle.bsv_trace.specs.Texts.{line_feed}
use Rattle.bsv_top.proofs.faults.tell_bad_list_line.Goals as goal

pub returns-clause-told : goal.returns-clause-told
unfolding list_fault_line
returns-clause-told g c =
    λ h.
    let told = c.tell.ensures.told h in
    (told.0, told.1 ∙ ap (λ (digits : List ℕ). appended (codes "list line " ++ digits ++ line_feed) (g.E.Sink.writing c.args.err.now)) (c.as_bytes.ensures.value ∙ c.format.ensures.text))
