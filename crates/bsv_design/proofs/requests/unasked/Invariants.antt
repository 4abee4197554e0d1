use Rattle.std.proofs.Common.{◌≡◌, ◌++◌, IsTrue, length, map}
use Rattle.std.specs.Prelude.{false}
use Rattle.std.specs.List.{list_all}
use Rattle.bsv_design.specs.scheme.States as states
use Rattle.bsv_design.specs.scheme.States.{methods_in}
use Rattle.bsv_design.proofs.Asked.{fit_ports}
use Rattle.bsv_design.proofs.requests.unasked.Given as goal

abbrev pub decreases-loop-element : goal.decreases-loop-element
decreases-loop-element l = length l.rest

abbrev pub invariant-loop-element : goal.invariant-loop-element
invariant-loop-element l =
    (l.asked ++ map (λ e. false) (methods_in l.rest) ≡ (states.nothing_asked l.design.elements).asked)
    × (l.args.items ++ map (λ e. states.zeros e.arguments) (methods_in l.rest) ≡ (states.nothing_asked l.design.elements).args)
    × IsTrue (list_all fit_ports l.rest)
