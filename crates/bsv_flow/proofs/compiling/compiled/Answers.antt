use Rattle.std.proofs.Common.{rules, ◌≡◌, Result, Err}
use Rattle.bsv_types.specs.declared.typed.Typed.{Typed}
use Rattle.bsv_tree.specs.declared.whole.Tree.{Tree}
use Rattle.bsv_tree.specs.tree.Seen.{tree_data}
use Rattle.bsv_flow.specs.Compilings.{Declines}
use Rattle.bsv_flow.specs.declared.refusal.CompileFault.{CompileFault}
use Rattle.bsv_flow.specs.declared.refusal.CompileFault.TheVariants as fault
use Rattle.bsv_flow.proofs.Planned.{all_compiled}
use Rattle.bsv_flow.proofs.compiling.compiled.Goals as goal

pub returns-in_err-program-clause-refused : goal.returns-in_err-program-clause-refused
returns-in_err-program-clause-refused g c =
    λ r h.
    let gave : ◌≡◌ {A = Result Typed CompileFault} (Err c.in_err-program.field-0.0) (Err (fault.Refused r)) = search rules in
    Declines.typing (c.in_err-program.ensures.refused r gave)

pub returns-in_err-built-clause-refused : goal.returns-in_err-built-clause-refused
returns-in_err-built-clause-refused g c =
    λ r h.
    let gave : ◌≡◌ {A = Result Tree CompileFault} (Err c.in_err-built.field-0.0) (Err (fault.Refused r)) = search rules in
    Declines.building c.in_ok-program.program c.in_ok-program.ensures.typed (c.in_err-built.ensures.refused r gave)

pub returns-clause-refused : goal.returns-clause-refused
returns-clause-refused g c =
    λ r h.
    Declines.scheduling c.in_ok-program.program (tree_data c.in_ok-built.built) c.in_ok-program.ensures.typed c.in_ok-built.ensures.built (c.scheduled.ensures.refused r h)

pub returns-clause-compiled : goal.returns-clause-compiled
returns-clause-compiled g c =
    all_compiled c.args.loaded.now c.in_ok-program.program c.args.top.now (tree_data c.in_ok-built.built) c.scheduled.result
    c.in_ok-program.ensures.typed c.in_ok-built.ensures.built c.scheduled.ensures.compiled c.scheduled.ensures.scheduled c.scheduled.ensures.obeys
