-- The table of each kind of primitive is that of its part, and so each keeps the laws.
-- `kind_table` is a definition; `kind_laws` is a proof, which is in specs/ since the `laws` of an
-- impl may cite nothing of proofs/.
use Rattle.bsv_prim.specs.Table.{Table}
use Rattle.bsv_prim.specs.Laws.{Laws}
use Rattle.bsv_prim.specs.Registers.{reg_table, regu_table}
use Rattle.bsv_prim.specs.RegisterLaws.{reg_laws, regu_laws}
use Rattle.bsv_prim.specs.WireTables.{wire_table, wire_row, dwire_row, rwire_row, pulse_row}
use Rattle.bsv_prim.specs.WireKinds.{wire_kind_laws, dwire_kind_laws, rwire_kind_laws, pulse_kind_laws}
use Rattle.bsv_fifo.specs.Plain.{plain_table}
use Rattle.bsv_fifo.specs.PlainLaws.{plain_laws}
use Rattle.bsv_fifo.specs.Pipeline.{pipeline_table}
use Rattle.bsv_fifo.specs.PipelineLaws.{pipeline_laws}
use Rattle.bsv_fifo.specs.Bypass.{bypass_table}
use Rattle.bsv_fifo.specs.BypassLaws.{bypass_laws}
use Rattle.bsv_design.specs.declared.kind.Kind.{Kind}
use Rattle.bsv_design.specs.declared.kind.Kind.TheVariants.{Reg, RegU, Wire, DWire, RWire, Pulse, Plain, Pipeline, Bypass}

abbrev pub kind_table : Kind → Table
kind_table (Reg k) = reg_table k.width k.start
kind_table (RegU k) = regu_table k.width
kind_table (Wire k) = wire_table (wire_row k.width)
kind_table (DWire k) = wire_table (dwire_row k.width k.default)
kind_table (RWire k) = wire_table (rwire_row k.width)
kind_table (Pulse k) = wire_table pulse_row
kind_table (Plain k) = plain_table k.width k.depth
kind_table (Pipeline k) = pipeline_table k.width
kind_table (Bypass k) = bypass_table k.width

pub kind_laws : (kind : Kind) → Laws (kind_table kind)
kind_laws (Reg k) = reg_laws k.width k.start k.in_range
kind_laws (RegU k) = regu_laws k.width k.some_width k.most_width
kind_laws (Wire k) = wire_kind_laws k.width k.some_width k.most_width
kind_laws (DWire k) = dwire_kind_laws k.width k.default k.in_range
kind_laws (RWire k) = rwire_kind_laws k.width k.some_width k.most_width
kind_laws (Pulse k) = pulse_kind_laws
kind_laws (Plain k) = plain_laws k.width k.depth k.some_width k.most_width k.some_depth k.most_depth
kind_laws (Pipeline k) = pipeline_laws k.width k.some_width k.most_width
kind_laws (Bypass k) = bypass_laws k.width k.some_width k.most_width
