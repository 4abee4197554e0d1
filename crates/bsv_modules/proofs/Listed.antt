-- Lists that are made item by item, where a fault has its place.
use Rattle.std.proofs.Common.{◌≡◌, ap, refl, append_assoc}
use Rattle.bsv_types.specs.declared.definitions.MethodResult.{MethodResult}
use Rattle.bsv_types.specs.declared.definitions.MethodResult.TheVariants as result
use Rattle.bsv_types.specs.Methods.{effect}
use Rattle.bsv_types.proofs.Exact.{back}
use Rattle.bsv_statements.proofs.Fronts.{list_start, list_done, list_more, list_turn}
use Rattle.bsv_modules.specs.Modules.{method_result}

pub ruleset gathering = (list_start, list_done, list_more, list_turn)

pub ruleset naming = (append_assoc)

pub result_back : (r : MethodResult) → method_result (effect r) ≡ r
result_back (result.Value t) = ap result.Value (back t)
result_back result.Action = refl
result_back (result.ActionValue t) = ap result.ActionValue (back t)

pub ruleset types_back = (back, result_back)
