-- The grammar of packages (Bluespec reference guide, "Packages and the outermost structure of a BSV design").
use Rattle.std.specs.Prelude.{ℕ, false, List, [], ◌∷◌, unwrap_or}
use Rattle.bsv_ast.specs.declared.modules.Module.{Module}
use Rattle.bsv_ast.specs.declared.package.Import.{Import}
use Rattle.bsv_ast.specs.declared.package.Typedef.{Typedef}
use Rattle.bsv_ast.specs.declared.package.Interface.{Interface}
use Rattle.bsv_ast.specs.declared.package.Function.{Function}
use Rattle.bsv_ast.specs.declared.package.Item.{Item}
use Rattle.bsv_ast.specs.declared.package.Package.{Package}
use Rattle.bsv_lex.specs.declared.terminal.Terminal.{Terminal}
use Rattle.bsv_lex.specs.declared.terminal.Terminal.TheVariants as word
use Rattle.bsv_expr.specs.declared.lexeme.Lexeme.{Lexeme}
use Rattle.bsv_expr.specs.Grammar.{Grammar, Phrase, Means}
use Rattle.bsv_expr.specs.Reading.{Read, read}
use Rattle.bsv_expr.specs.Expressions.{always, snoc, the, behind, many, upper, pair}
use Rattle.bsv_parse.specs.Places.{Says, part}
use Rattle.bsv_parse.specs.Definitions as definitions
use Rattle.bsv_parse.specs.Modules as modules
use Rattle.bsv_parse.specs.Modules.{IsModule}
use Rattle.bsv_parse.specs.ModuleTrees.{of_import, of_typedef, of_interface, of_function, of_module, PackageFront, package_of, bare_of}

-- the places at which a package goes on with a definition
pub data Defined : Type 0 where
  import : Defined
  typedef : Defined
  interface : Defined
  function : Defined
  module_whole : Defined

abbrev pub Filled : Defined → Type 0
Filled Defined.import = Import
Filled Defined.typedef = Typedef
Filled Defined.interface = Interface
Filled Defined.function = Function
Filled Defined.module_whole = Module

abbrev pub Of : Type 0 → Type 1
Of A = Grammar Defined Filled A

-- the words with which an item begins
unfoldable pub item_first : List Terminal
item_first = word.Import ∷ word.Typedef ∷ word.Interface ∷ word.Function ∷ word.OpenAttribute ∷ word.Module ∷ []

unfoldable pub item : Of Item
item =
    Grammar.choose (word.Import ∷ []) (Grammar.made of_import (Grammar.hole Defined.import))
    (Grammar.choose (word.Typedef ∷ []) (Grammar.made of_typedef (Grammar.hole Defined.typedef))
    (Grammar.choose (word.Interface ∷ []) (Grammar.made of_interface (Grammar.hole Defined.interface))
    (Grammar.choose (word.Function ∷ []) (Grammar.made of_function (Grammar.hole Defined.function))
    (Grammar.made of_module (Grammar.hole Defined.module_whole)))))

unfoldable pub items : Of (List Item)
items = many item_first item

unfoldable pub package_front : Of PackageFront
package_front =
    Grammar.both pair (the word.Package)
    (Grammar.both pair upper
    (Grammar.both pair (behind word.Semicolon items) (the word.EndPackage)))

abbrev pub package_after : PackageFront → Of Package
package_after (start, (name, (found, close))) = Grammar.made (package_of (start, (name, (found, close)))) (definitions.ending word.Upper name.name close)

unfoldable pub package_whole : Of Package
package_whole = Grammar.bind (word.Colon ∷ []) (word.Colon ∷ []) package_front package_after

-- items without a `package` around them, one or more
unfoldable pub bare : Of Package
bare = Grammar.made bare_of (Grammar.fold item_first always snoc (Grammar.made (λ x. x ∷ []) item) item)

-- the words with which a file begins that is not empty
unfoldable pub file_first : List Terminal
file_first = word.Package ∷ word.Import ∷ word.Typedef ∷ word.Interface ∷ word.Function ∷ word.OpenAttribute ∷ word.Module ∷ []

unfoldable pub file : Of Package
file = Grammar.made (λ found. unwrap_or found (bare_of [])) (Grammar.maybe file_first (Grammar.choose (word.Package ∷ []) package_whole bare))

unfoldable pub Inner : List ℕ → ℕ → (h : Defined) → Phrase (Filled h)
Inner source n Defined.import = Says source n definitions.import
Inner source n Defined.typedef = Says source n definitions.typedef
Inner source n Defined.interface = Says source n definitions.interface
Inner source n Defined.function = Says source n definitions.function
Inner source n Defined.module_whole = IsModule source n

unfoldable pub inner : List ℕ → ℕ → (h : Defined) → List Lexeme → Read (Filled h)
inner source n Defined.import ts = part source n definitions.import ts
inner source n Defined.typedef ts = part source n definitions.typedef ts
inner source n Defined.interface ts = part source n definitions.interface ts
inner source n Defined.function ts = part source n definitions.function ts
inner source n Defined.module_whole ts = modules.within source n modules.module_whole ts

-- a whole file in which fewer than so many brackets and blocks are open at once
unfoldable pub IsFile : List ℕ → ℕ → Phrase Package
IsFile source n = Means source (Inner source n) file

-- what a grammar's reader reads in a file
abbrev pub within : {A : Type 0} → List ℕ → ℕ → Of A → List Lexeme → Read A
within source n p ts = read source (inner source n) false p ts
