use Rattle.std.proofs.Common.{rules, ◌≡◌, Some, Result, Err}
use Rattle.bsv_flow.specs.Buildings.{Rejects}
use Rattle.bsv_flow.specs.Typings.{IsUntyped}
use Rattle.bsv_flow.specs.declared.loading.Loaded.{Loaded}
use Rattle.bsv_flow.specs.declared.refusal.CompileFault.{CompileFault}
use Rattle.bsv_flow.specs.declared.refusal.CompileFault.TheVariants as fault
use Rattle.bsv_flow.proofs.Planned.{all_planned, declined}
use Rattle.bsv_flow.proofs.compiling.compile.Goals as goal

pub returns-in_err-loaded-clause-refused : goal.returns-in_err-loaded-clause-refused
returns-in_err-loaded-clause-refused g c =
    λ r h contents told.
    let gave : ◌≡◌ {A = Result Loaded CompileFault} (Err c.in_err-loaded.field-0.0) (Err (fault.Refused r)) = search rules in
    Rejects.untyped (IsUntyped.loading (c.in_err-loaded.ensures.refused r gave contents told))

pub returns-clause-refused : goal.returns-clause-refused
returns-clause-refused g c =
    λ r h contents told.
    declined c.args.name.now contents c.args.top.now c.in_ok-loaded.loaded r (c.in_ok-loaded.ensures.loaded contents told) (c.compiled.ensures.refused r h)

pub returns-clause-compiled : goal.returns-clause-compiled
returns-clause-compiled g c =
    all_planned c.args.name.now c.args.top.now c.in_ok-loaded.loaded (λ contents. (g.F.Files.reading c.args.files.now).contents ≡ Some contents)
    c.compiled.result c.in_ok-loaded.ensures.loaded c.compiled.ensures.compiled
