use Rattle.std.proofs.Common.{ℕ, List, Some, ap, ◌∙◌, subst, arith}
use Rattle.std.proofs.lemmas.Result.{IfOk-weaker}
use Rattle.bsv_io.specs.Faults.{MayFault}
use Rattle.bsv_io.specs.Reading.{Reading, bytes_given, current_name}
use Rattle.bsv_io.proofs.Moved.{rest_chosen}
use Rattle.bsv_io.proofs.reading.read_up_to.Goals as goal

pub returns-in_err-choose-clause-failed : goal.returns-in_err-choose-clause-failed
returns-in_err-choose-clause-failed g c =
    λ _. (
      c.in_err-choose.ensures.counted,
      ap (λ (r : Reading). r.blamed) c.in_err-choose.ensures.err ∙ ap (λ (n : List ℕ). Some n) (c.in_ok-new.ensures),
    )

pub returns-clause-bytes : goal.returns-clause-bytes
returns-clause-bytes g c =
    IfOk-weaker c.read_current.result _ _
    (λ bytes h contents told. h (contents c.args.name.now)
    (rest_chosen (g.F.Files.reading c.args.files.now) (g.F.Files.reading c.choose.new.self) c.args.name.now _ contents c.in_ok-choose.ensures.ok (c.in_ok-new.ensures) told))
    c.read_current.ensures.bytes

pub returns-clause-failed : goal.returns-clause-failed
returns-clause-failed g c =
    let chose = c.in_ok-choose.ensures.ok in
    λ h.
    let failed = c.read_current.ensures.failed h in (
      subst (λ (n : ℕ). MayFault n (g.F.Files.reading c.read_current.new.files).faults) (ap (λ (r : Reading). r.faults) chose) failed.0,
      failed.1 ∙ ap current_name chose ∙ ap (λ (n : List ℕ). Some n) (c.in_ok-new.ensures),
    )

pub returns-clause-kept : goal.returns-clause-kept
returns-clause-kept g c =
    λ h. c.read_current.ensures.kept h ∙ ap (λ (r : Reading). r.faults) c.in_ok-choose.ensures.ok

pub returns-in_err-choose-clause-within : goal.returns-in_err-choose-clause-within
returns-in_err-choose-clause-within g c =
    let none = ap (λ (r : Reading). bytes_given r) c.in_err-choose.ensures.err in
    λ far. absurd (omega (arith, none, far))

pub returns-clause-within : goal.returns-clause-within
returns-clause-within g c =
    let start = ap (λ (r : Reading). bytes_given r) c.in_ok-choose.ensures.ok in
    λ far. absurd (omega (arith, start, far, c.read_current.ensures.within))
