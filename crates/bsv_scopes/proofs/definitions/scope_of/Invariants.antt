use Rattle.std.proofs.Common.{◌≡◌, map, take}
use Rattle.bsv_scopes.specs.Given.{defined_all}
use Rattle.bsv_scopes.specs.Seen.{entries}
use Rattle.bsv_scopes.proofs.definitions.scope_of.Given as goal

abbrev pub invariant-loop-text : goal.invariant-loop-text
invariant-loop-text l = entries l.scope ≡ defined_all (map (λ name. name.now) (take l.text-index l.names))
