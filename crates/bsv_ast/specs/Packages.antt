-- What a package holds, whether it has a name or not.
use Rattle.std.specs.Prelude.{List}
use Rattle.bsv_ast.specs.declared.package.Item.{Item}
use Rattle.bsv_ast.specs.declared.package.Package.{Package}
use Rattle.bsv_ast.specs.declared.package.Package.TheVariants as whole

abbrev pub items_of : Package → List Item
items_of (whole.Named s name items) = items
items_of (whole.Bare s items) = items
