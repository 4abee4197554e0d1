use Rattle.std.proofs.Common.{◌≡◌, drop}
use Rattle.bsv_tree.specs.tree.Methods.{number_from}
use Rattle.bsv_design.specs.parts.MethodNames.{method_names}
use Rattle.bsv_tree.proofs.interface.number_named.Given as goal

abbrev pub invariant-loop-number : goal.invariant-loop-number
invariant-loop-number l =
    number_from 0 l.name (method_names l.kind) ≡ number_from l.number l.name (drop l.number (method_names l.kind))
