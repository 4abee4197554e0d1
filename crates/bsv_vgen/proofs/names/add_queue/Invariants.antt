use Rattle.std.proofs.Common.{◌≡◌, ◌++◌, map}
use Rattle.bsv_graph.specs.Edges.{numbers_below}
use Rattle.bsv_vgen.specs.Names.{verilog_name, item_suffix}
use Rattle.bsv_vgen.proofs.names.add_queue.Given as goal

abbrev pub invariant-loop-number : goal.invariant-loop-number
invariant-loop-number l =
    l.names ≡ l.initial.names ++ map (λ s. verilog_name l.path ++ s) (map item_suffix (numbers_below l.number))
