-- A tree that can be laid out.
use Rattle.bsv_design.specs.declared.design.Design.{Design}
use Rattle.bsv_design.specs.scheme.Schemes.{AreAlike, design_scheme}
use Rattle.bsv_tree.specs.meaning.Schemes.{tree_scheme}
use Rattle.bsv_design.specs.scheme.Seen.{design_data}
use Rattle.bsv_tree.specs.tree.Trees.{TreeData}

-- There is a design of flat bodies that does what the tree does: all its words have their widths, and its parts and elements
-- are as many as there are numbers for. What is typed can be laid out. This is not proved: the definition says it, and the
-- program wants memory where it could not.
pub record IsLaidOut (tree : TreeData) : Type 0 where
  pub design : Design
  pub alike : AreAlike (tree_scheme tree) (design_scheme (design_data design))
