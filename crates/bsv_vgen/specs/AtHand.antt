-- What the definitions see of what the code has at hand.
use Rattle.bsv_vtext.specs.Signals.{VModuleData}
use Rattle.bsv_vgen.specs.declared.generating.Parts.{Parts}
use Rattle.bsv_vgen.specs.declared.written.Written.{Written}
use Rattle.bsv_vgen.specs.Lines as lines

abbrev pub written : Written → lines.Written
written w = record { wires = w.wires; assigns = w.assigns }

abbrev pub parts : Parts → VModuleData
parts p = record {
  name = p.name;
  methods = p.methods;
  registers = p.registers;
  wires = p.wires;
  assigns = p.assigns;
  nexts = p.nexts;
}
