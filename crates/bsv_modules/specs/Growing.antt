-- More definitions after those that are there.
use Rattle.std.specs.Prelude.{◌≡◌, List, ◌++◌}
use Rattle.bsv_types.specs.declared.definitions.Enum.{Enum}
use Rattle.bsv_types.specs.declared.definitions.Struct.{Struct}
use Rattle.bsv_types.specs.declared.definitions.Interface.{Interface}
use Rattle.bsv_types.specs.Shapes.{Shapes}

pub record Grows (s z : Shapes) : Type 0 where
  pub enums : List Enum
  pub structs : List Struct
  pub interfaces : List Interface
  pub enums_are : z.enums ≡ s.enums ++ enums
  pub structs_are : z.structs ≡ s.structs ++ structs
  pub interfaces_are : z.interfaces ≡ s.interfaces ++ interfaces
