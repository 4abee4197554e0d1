use Rattle.std.proofs.Common.{◌≡◌, drop, map}
use Rattle.bsv_design.specs.scheme.Schemes.{outline}
use Rattle.bsv_trace.specs.Reading as spec
use Rattle.bsv_trace.proofs.call.method_named.Given as goal

abbrev pub invariant-loop-number : goal.invariant-loop-number
invariant-loop-number l = spec.method_from 0 (map outline l.methods) l.name ≡ spec.method_from l.number (map outline (drop l.number l.methods)) l.name
