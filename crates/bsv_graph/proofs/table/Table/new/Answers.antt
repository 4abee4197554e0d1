use Rattle.std.proofs.Common.{rules, ◌+◌, ◌*◌, ◌≡◌, replicate, false}
use Rattle.bsv_graph.specs.Table.{at}
use Rattle.bsv_graph.proofs.TableLemmas.{none_marked}
use Rattle.bsv_graph.proofs.table.Table.new.Goals as goal

pub returns-clause-empty : goal.returns-clause-empty
unfolding at
returns-clause-empty c = λ a b.
    let e : c.in_ok-cells.cells.items ≡ replicate (c.args.side * c.args.side) false = search rules in
    rw e (none_marked (c.args.side * c.args.side) (a * c.args.side + b))
