use Rattle.std.proofs.Common.{◌≡◌, ◌-◌, length, map}
use Rattle.bsv_design.specs.scheme.Schemes.{outline}
use Rattle.bsv_design.specs.scheme.Seen.{asking}
use Rattle.bsv_trace.specs.Reading as spec
use Rattle.bsv_trace.proofs.call.calls.Given as goal

abbrev pub invariant-loop-turn : goal.invariant-loop-turn
invariant-loop-turn l = record {
  read : spec.calls (length l.bytes) (map outline l.methods) l.bytes (asking l.fn.requests) ≡ spec.calls (length l.bytes - l.turn) (map outline l.methods) l.rest (asking l.requests);
  places : spec.HasPlaces (map outline l.methods) (asking l.requests);
}
