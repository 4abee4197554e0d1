-- What the definitions see of the scopes that the code keeps.
use Rattle.std.specs.Prelude.{List, map, reverse}
use Rattle.bsv_scopes.specs.Scopes.{Entries}
use Rattle.bsv_scopes.specs.declared.scope.Scope as code_scope
use Rattle.bsv_scopes.specs.declared.scopes.Scopes as code_scopes

module _ {V : Type 0} where
  -- the entries of one scope
  abbrev pub entries : code_scope.Scope V → Entries V
  entries scope = scope.names.entries

  -- the entries of each scope, the innermost first
  abbrev pub scopes : code_scopes.Scopes V → List (Entries V)
  scopes s = reverse (map entries s.scopes.items)
