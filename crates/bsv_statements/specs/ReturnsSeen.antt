-- What the definitions see of how the code says that paths end.
use Rattle.std.specs.Prelude.{Option, option_map}
use Rattle.bsv_ast.specs.declared.statements.Branch.{Branch, fold-Branch}
use Rattle.bsv_ast.specs.declared.statements.CaseArm.{CaseArm, fold-CaseArm}
use Rattle.bsv_types.specs.Statements.{Ending, goes_on, returned, Ends}
use Rattle.bsv_statements.specs.declared.endings.Ending as code_ending
use Rattle.bsv_statements.specs.declared.endings.Ending.TheVariants as code
use Rattle.bsv_statements.specs.Returns.{ends_step}

abbrev pub ending : code_ending.Ending → Ending
ending code.GoesOn = goes_on
ending code.Returned = returned

abbrev pub ends_of : Option code_ending.Ending → Ends
ends_of e = option_map ending e

-- of the arms of an `if` and of a `case`
abbrev pub arm_ends : Branch → Ends
arm_ends = fold-Branch Ends Ends Ends ends_step (λ b. b.arm) (λ a. a.arm)

abbrev pub case_ends : CaseArm → Ends
case_ends = fold-CaseArm Ends Ends Ends ends_step (λ b. b.arm) (λ a. a.arm)
