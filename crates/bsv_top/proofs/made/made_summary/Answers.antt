use Rattle.std.proofs.Common.{Some, sym, ap, subst}
use Rattle.std.specs.Result.{IfErr}
use Rattle.std.proofs.lemmas.Result.{err_from_is_err_and}
use Rattle.bsv_io.specs.InMemory.{SureSource, contents_of}
use Rattle.bsv_io.proofs.NoFaults.{NoFault-MayFault, NoFault-sure_reading}
use Rattle.bsv_flow.specs.declared.scheduling.Compiled.{Compiled}
use Rattle.bsv_top.specs.Made.{made_contents, made_file, made_top}
use Rattle.bsv_top.specs.MadeRuns.{IsMadeStop}
use Rattle.bsv_top.proofs.MadeRun.{made_done, made_stops}
use Rattle.bsv_top.proofs.made.made_summary.Goals as goal

pub returns-in_err-compiled-clause-stopped : goal.returns-in_err-compiled-clause-stopped
unfolding made_contents made_file made_top
returns-in_err-compiled-clause-stopped g c =
    let p = err_from_is_err_and c.from_residual-in_err-compiled.result c.from_residual-in_err-compiled.ensures.1 in
    let told = ap (λ (s : SureSource). Some (contents_of s.files)) c.in_ok-files.ensures in
    subst (λ r. IfErr r (λ s. IsMadeStop c.args.size s)) (sym p.1)
    (made_stops {A = Compiled} c.args.size c.in_err-compiled.field-0.0 p.0 p.2 (λ r e. c.in_err-compiled.ensures.refused r e (made_contents c.args.size) told)
    (λ name e. NoFault-MayFault _ _ (NoFault-sure_reading c.in_ok-files.files c.compile.new.files) (c.in_err-compiled.ensures.read_fault name e).0))

pub returns-in_err-text-clause-stopped : goal.returns-in_err-text-clause-stopped
returns-in_err-text-clause-stopped g c =
    let p = err_from_is_err_and c.from_residual-in_err-text.result c.from_residual-in_err-text.ensures.1 in
    subst (λ r. IfErr r (λ s. IsMadeStop c.args.size s)) (sym p.1) (subst (IsMadeStop c.args.size) (sym p.2) tt)

pub returns-clause-done : goal.returns-clause-done
unfolding made_contents made_file made_top
returns-clause-done g c =
    let told = ap (λ (s : SureSource). Some (contents_of s.files)) c.in_ok-files.ensures in
    made_done c.args.size c.in_ok-compiled.compiled (c.in_ok-compiled.ensures.compiled (made_contents c.args.size) told) c.in_ok-text.text.items c.in_ok-text.ensures
