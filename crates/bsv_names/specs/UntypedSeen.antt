-- What the definitions see of the names without a typing that the code keeps.
use Rattle.std.specs.Map.{keys_of}
use Rattle.bsv_scopes.specs.Seen.{entries, scopes}
use Rattle.bsv_names.specs.declared.untyped.Untyped as code
use Rattle.bsv_names.specs.declared.untyped.Reach as code_reach
use Rattle.bsv_names.specs.declared.untyped.Variables as code_variables
use Rattle.bsv_names.specs.Untyped.{Untyped, Variables, with_functions}

abbrev pub untyped : code.Untyped → Untyped
untyped n = record {
  types = keys_of (entries n.types);
  labels = keys_of (entries n.labels);
  functions = keys_of (entries n.functions);
  modules = keys_of (entries n.modules);
}

abbrev pub reached : code_reach.Reach → Untyped
reached r = with_functions r.functions (untyped r.untyped.now)

abbrev pub variables : code_variables.Variables → Variables
variables v = scopes v.typed
