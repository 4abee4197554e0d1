-- The numbers of a kind's methods.
use Rattle.std.proofs.Common.{◌≡◌, ℕ, zero, suc, ◌-◌, ◌<◌, ◌≤◌, true, false, refl, sym, arith}
use Rattle.bsv_design.specs.declared.kind.Kind.{Kind}
use Rattle.bsv_design.specs.declared.kind.Kind.TheVariants.{Reg, RegU, Wire, DWire, RWire, Pulse, Plain, Pipeline, Bypass}
use Rattle.bsv_design.specs.parts.Kinds.{kind_table}
use Rattle.bsv_fifo.specs.Queues.{changes, queue_method}
use Rattle.bsv_prim.specs.Registers.{read_or_write}
use Rattle.bsv_prim.specs.WireTables.{write_or_read}

pub some_methods : (k : Kind) → 0 < (kind_table k).methods
some_methods (Reg k) = omega arith
some_methods (RegU k) = omega arith
some_methods (Wire k) = omega arith
some_methods (DWire k) = omega arith
some_methods (RWire k) = omega arith
some_methods (Pulse k) = omega arith
some_methods (Plain k) = omega arith
some_methods (Pipeline k) = omega arith
some_methods (Bypass k) = omega arith

register_last : (m : ℕ) → 2 ≤ m → read_or_write false true m ≡ true
register_last zero h = absurd (omega arith)
register_last (suc m) h = refl

wire_last : (m : ℕ) → 2 ≤ m → write_or_read true false m ≡ false
wire_last zero h = absurd (omega arith)
wire_last (suc m) h = refl

queue_last : (m : ℕ) → 6 ≤ m → changes (queue_method m) ≡ true
queue_last zero h = absurd (omega arith)
queue_last (suc zero) h = absurd (omega arith)
queue_last (suc (suc zero)) h = absurd (omega arith)
queue_last (suc (suc (suc zero))) h = absurd (omega arith)
queue_last (suc (suc (suc (suc zero)))) h = absurd (omega arith)
queue_last (suc (suc (suc (suc (suc m))))) h = refl

-- a number after the last method stands for the last one
pub last_stands : (k : Kind) (m : ℕ) → (kind_table k).methods ≤ m → (kind_table k).is_action ((kind_table k).methods - 1) ≡ (kind_table k).is_action m
last_stands (Reg k) m h = sym (register_last m h)
last_stands (RegU k) m h = sym (register_last m h)
last_stands (Wire k) m h = sym (wire_last m h)
last_stands (DWire k) m h = sym (wire_last m h)
last_stands (RWire k) m h = sym (wire_last m h)
last_stands (Pulse k) m h = sym (wire_last m h)
last_stands (Plain k) m h = sym (queue_last m h)
last_stands (Pipeline k) m h = sym (queue_last m h)
last_stands (Bypass k) m h = sym (queue_last m h)
