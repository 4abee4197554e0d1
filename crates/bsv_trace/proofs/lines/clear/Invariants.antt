use Rattle.std.proofs.Common.{◌≡◌, false, map}
use Rattle.bsv_design.specs.scheme.Schemes.{outline}
use Rattle.bsv_design.specs.scheme.States.{zeros}
use Rattle.bsv_trace.proofs.Filling.{filled}
use Rattle.bsv_trace.proofs.lines.clear.Given as goal

abbrev pub invariant-loop-number : goal.invariant-loop-number
invariant-loop-number l = record {
  asked : l.requests.asked ≡ filled l.number (map (λ o. false) (map outline l.methods)) l.fn.requests.asked;
  args : l.requests.args.items ≡ filled l.number (map (λ o. zeros o.ports) (map outline l.methods)) l.fn.requests.args.items;
}
