-- What is promised of every tree that is built.
use Rattle.std.specs.Prelude.{◌≡◌, ℕ, List, Ok}
use Rattle.bsv_types.specs.declared.typed.Typed.{Typed}
use Rattle.bsv_tree.specs.tree.Trees.{TreeData, IsTree}
use Rattle.bsv_elab.specs.Building.{building}

-- what is built of a typed program is a tree
abbrev pub TreesRight : Type 0
TreesRight = (t : Typed) (name : List ℕ) (h : TreeData) → building t name ≡ Ok h → IsTree h
