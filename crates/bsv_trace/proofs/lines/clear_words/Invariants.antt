use Rattle.std.proofs.Common.{◌≡◌}
use Rattle.bsv_design.specs.scheme.States.{zeros}
use Rattle.bsv_trace.proofs.Filling.{filled}
use Rattle.bsv_trace.proofs.lines.clear_words.Given as goal

abbrev pub invariant-loop-place : goal.invariant-loop-place
invariant-loop-place l = l.words ≡ filled l.place (zeros l.ports) l.fn.words
