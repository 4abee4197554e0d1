-- What is promised of a program that is typed with widths and fits: it is in order, where each of its lists has a
-- number for each place.
use Rattle.std.specs.Prelude.{◌≡◌, Bool, ◌&&◌, List, Ok, IsTrue}
use Rattle.std.specs.List.{list_all}
use Rattle.bsv_ast.specs.declared.package.Package.{Package}
use Rattle.bsv_types.specs.declared.definitions.Enum.{Enum}
use Rattle.bsv_types.specs.declared.definitions.Struct.{Struct}
use Rattle.bsv_types.specs.declared.definitions.Interface.{Interface}
use Rattle.bsv_types.specs.declared.modules.Module.{Module}
use Rattle.bsv_types.specs.Names.{countable}
use Rattle.bsv_types.specs.Programs.{all_countable, is_right}
use Rattle.bsv_check.specs.Checked.{ProgramParts, strictly}

abbrev pub counted_enum : Enum → Bool
counted_enum e = countable e.labels

abbrev pub counted_struct : Struct → Bool
counted_struct s = countable s.fields

abbrev pub counted_interface : Interface → Bool
counted_interface i = countable i.methods

abbrev pub counted_module : Module → Bool
counted_module m = countable m.rules && countable m.methods

-- a number of 32 bits names each definition, each label, each field, each method and each rule. No memory holds lists
-- that are longer
unfoldable pub is_counted : ProgramParts → Bool
is_counted m =
    all_countable m.enums m.structs m.interfaces m.functions m.modules &&
    list_all counted_enum m.enums && list_all counted_struct m.structs && list_all counted_interface m.interfaces && list_all counted_module m.modules

abbrev pub is_in_order : ProgramParts → Bool
is_in_order m = is_right m.enums m.structs m.interfaces m.functions m.modules

abbrev pub ProgramsRight : Type 0
ProgramsRight = (ps : List Package) (m : ProgramParts) → strictly ps ≡ Ok m → IsTrue (is_counted m) → IsTrue (is_in_order m)
