-- The files that a package's imports name, in the order in which they are loaded.
use Rattle.std.specs.Prelude.{ℕ, ◌==◌, ◌||◌, Bool, if◌then◌else◌, List, [], ◌∷◌, ◌++◌, codes}
use Rattle.std.specs.List.{list_any}
use Rattle.std.specs.Str.{bytes_eq}
use Rattle.bsv_ast.specs.declared.package.Item.{Item}
use Rattle.bsv_ast.specs.declared.package.Item.TheVariants as item
use Rattle.bsv_ast.specs.declared.package.Package.{Package}
use Rattle.bsv_ast.specs.Packages.{items_of}

abbrev pub is_slash : ℕ → Bool
is_slash b = b == 47

-- a name up to and including its last `/`
abbrev pub folder : List ℕ → List ℕ
folder [] = []
folder (b ∷ bytes) = if list_any is_slash (b ∷ bytes) then b ∷ folder bytes else []

-- the file of a package: it lies beside the first file
abbrev pub file_of : List ℕ → List ℕ → List ℕ
file_of first package_name = folder first ++ package_name ++ codes ".bsv"

-- the packages that the language gives have no file
abbrev pub is_given : List ℕ → Bool
is_given name = bytes_eq name (codes "FIFO") || bytes_eq name (codes "FIFOF") || bytes_eq name (codes "SpecialFIFOs")

-- a file goes after those that wait, once
abbrev pub with_file : List (List ℕ) → List ℕ → List (List ℕ)
with_file queue file = if list_any (bytes_eq file) queue then queue else queue ++ file ∷ []

-- an import adds the file of its package
abbrev pub with_item : List ℕ → List (List ℕ) → Item → List (List ℕ)
with_item first queue (item.Import s x) = if is_given x.«package».name then queue else with_file queue (file_of first x.«package».name)
with_item first queue (item.Typedef s x) = queue
with_item first queue (item.Interface s x) = queue
with_item first queue (item.Function s x) = queue
with_item first queue (item.Module s x) = queue

-- the files with those that the items import, in text order
abbrev pub with_items : List ℕ → List (List ℕ) → List Item → List (List ℕ)
with_items first queue [] = queue
with_items first queue (x ∷ xs) = with_items first (with_item first queue x) xs

-- the files with those that the package imports
abbrev pub with_imports : List ℕ → List (List ℕ) → Package → List (List ℕ)
with_imports first queue x = with_items first queue (items_of x)
