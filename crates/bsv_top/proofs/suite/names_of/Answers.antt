use Rattle.std.proofs.Common.{◌∙◌, Err, ap}
use Rattle.bsv_lemmas.proofs.Choices.{same_err}
use Rattle.bsv_suite.specs.declared.halt.ListHalt.{ListHalt}
use Rattle.bsv_suite.specs.declared.halt.ListHalt.TheVariants as list_halt
use Rattle.bsv_top.specs.Stops.{stop_of_list}
use Rattle.bsv_top.proofs.suite.names_of.Goals as goal

pub returns-in-Err-clause-kept : goal.returns-in-Err-clause-kept
returns-in-Err-clause-kept g c = λ none.
    c.in-Err.ensures.kept
    (λ e. none c.in_ok-blamed.blamed (ap Err (c.stop_of_list.ensures ∙ ap (λ (h : ListHalt). stop_of_list h c.in_ok-blamed.blamed) (same_err c.in-Err.halt list_halt.Unreadable e))))
