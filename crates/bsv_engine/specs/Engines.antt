-- What contracts see of an engine: its code, and the words of its nodes after the last run.
use Rattle.std.specs.Prelude.{List}
use Rattle.bsv_bits.specs.Words.{Bits}
use Rattle.bsv_engine.specs.Codes.{Code, all_kept}
use Rattle.bsv_engine.specs.declared.engine.Engine.{Engine}

unfoldable pub code_of : Engine → Code
code_of e = record { inputs = e.inputs; registers = e.registers; nodes = e.nodes }

unfoldable pub words_of : Engine → List Bits
words_of e = all_kept e.widths e.narrow.items e.wide.items
