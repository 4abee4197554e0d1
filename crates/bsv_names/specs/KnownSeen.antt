-- What the definitions see of the names that the code keeps.
use Rattle.bsv_scopes.specs.declared.definitions.Space.TheVariants.{Types, Labels, Functions, Modules}
use Rattle.bsv_scopes.specs.Given.{names_of}
use Rattle.bsv_scopes.specs.Seen.{scopes}
use Rattle.bsv_names.specs.declared.names.Names as code
use Rattle.bsv_names.specs.Known.{Known}

abbrev pub known : code.Names → Known
known n = record {
  types = names_of Types n.definitions;
  labels = names_of Labels n.definitions;
  functions = names_of Functions n.definitions;
  modules = names_of Modules n.definitions;
  variables = scopes n.variables;
}
