-- What the definitions see of a tree.
use Rattle.bsv_tree.specs.declared.whole.Tree.{Tree}
use Rattle.bsv_tree.specs.tree.Trees.{TreeData}

abbrev pub tree_data : Tree → TreeData
tree_data t = record {
  typed = t.typed;
  top = t.top;
  instances = t.instances;
  pairs = t.pairs;
  asserts = t.asserts;
  weight = t.weight;
}
