use Rattle.std.proofs.Common.{ap, arith}
use Rattle.bsv_io.specs.Reading.{Reading, bytes_given}
use Rattle.bsv_suite.proofs.list.read_list.Goals as goal

pub returns-clause-within : goal.returns-clause-within
returns-clause-within g c =
    let start = ap (λ (r : Reading). bytes_given r) c.in_ok-choose.ensures.ok in
    λ far. absurd (omega (arith, start, far, c.read_names.ensures.within))
