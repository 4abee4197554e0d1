use Rattle.std.proofs.Common.{◌≡◌, map, take}
use Rattle.bsv_types.specs.GivenFunctions.{function_name}
use Rattle.bsv_scopes.specs.Given.{defined_all}
use Rattle.bsv_scopes.specs.Seen.{entries}
use Rattle.bsv_scopes.proofs.definitions.scope_of_functions.Given as goal

abbrev pub invariant-loop-function : goal.invariant-loop-function
invariant-loop-function l = entries l.scope ≡ defined_all (map function_name (take l.function-index l.functions))
