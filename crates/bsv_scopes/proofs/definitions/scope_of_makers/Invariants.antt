use Rattle.std.proofs.Common.{◌≡◌, map, take}
use Rattle.bsv_types.specs.Makers.{maker_name}
use Rattle.bsv_scopes.specs.Given.{defined_all}
use Rattle.bsv_scopes.specs.Seen.{entries}
use Rattle.bsv_scopes.proofs.definitions.scope_of_makers.Given as goal

abbrev pub invariant-loop-maker : goal.invariant-loop-maker
invariant-loop-maker l = entries l.scope ≡ defined_all (map maker_name (take l.maker-index l.makers))
