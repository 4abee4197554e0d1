-- A kind that instances of an interface have has each method of the interface.
use Rattle.std.proofs.Common.{◌≡◌, ℕ, zero, suc, ◌<◌, length, true, refl, arith}
use Rattle.std.specs.Prelude.{is_some}
use Rattle.bsv_types.specs.declared.types.PartTy.{PartTy}
use Rattle.bsv_types.specs.declared.types.PartTy.TheVariants as part_type
use Rattle.bsv_design.specs.declared.kind.Kind.{Kind}
use Rattle.bsv_design.specs.declared.kind.Kind.TheVariants as kinds
use Rattle.bsv_tree.specs.tree.Methods.{interface_names, is_kind_of, part_method}

pub meets : (p : PartTy) (k : Kind) (n : ℕ) → is_kind_of p k ≡ true → n < length (interface_names p) → is_some (part_method p k n) ≡ true
unfolding part_method
meets part_type.Reg (kinds.Reg k) zero is below = refl
meets part_type.Reg (kinds.Reg k) (suc zero) is below = refl
meets part_type.Reg (kinds.Reg k) (suc (suc n)) is below = absurd (omega arith)
meets part_type.Reg (kinds.RegU k) zero is below = refl
meets part_type.Reg (kinds.RegU k) (suc zero) is below = refl
meets part_type.Reg (kinds.RegU k) (suc (suc n)) is below = absurd (omega arith)
meets part_type.Reg (kinds.Wire k) n is below = absurd cc
meets part_type.Reg (kinds.DWire k) n is below = absurd cc
meets part_type.Reg (kinds.RWire k) n is below = absurd cc
meets part_type.Reg (kinds.Pulse k) n is below = absurd cc
meets part_type.Reg (kinds.Plain k) n is below = absurd cc
meets part_type.Reg (kinds.Pipeline k) n is below = absurd cc
meets part_type.Reg (kinds.Bypass k) n is below = absurd cc
meets part_type.Wire (kinds.Reg k) n is below = absurd cc
meets part_type.Wire (kinds.RegU k) n is below = absurd cc
meets part_type.Wire (kinds.Wire k) zero is below = refl
meets part_type.Wire (kinds.Wire k) (suc zero) is below = refl
meets part_type.Wire (kinds.Wire k) (suc (suc n)) is below = absurd (omega arith)
meets part_type.Wire (kinds.DWire k) zero is below = refl
meets part_type.Wire (kinds.DWire k) (suc zero) is below = refl
meets part_type.Wire (kinds.DWire k) (suc (suc n)) is below = absurd (omega arith)
meets part_type.Wire (kinds.RWire k) n is below = absurd cc
meets part_type.Wire (kinds.Pulse k) n is below = absurd cc
meets part_type.Wire (kinds.Plain k) n is below = absurd cc
meets part_type.Wire (kinds.Pipeline k) n is below = absurd cc
meets part_type.Wire (kinds.Bypass k) n is below = absurd cc
meets part_type.RWire (kinds.Reg k) n is below = absurd cc
meets part_type.RWire (kinds.RegU k) n is below = absurd cc
meets part_type.RWire (kinds.Wire k) n is below = absurd cc
meets part_type.RWire (kinds.DWire k) n is below = absurd cc
meets part_type.RWire (kinds.RWire k) zero is below = refl
meets part_type.RWire (kinds.RWire k) (suc zero) is below = refl
meets part_type.RWire (kinds.RWire k) (suc (suc n)) is below = absurd (omega arith)
meets part_type.RWire (kinds.Pulse k) n is below = absurd cc
meets part_type.RWire (kinds.Plain k) n is below = absurd cc
meets part_type.RWire (kinds.Pipeline k) n is below = absurd cc
meets part_type.RWire (kinds.Bypass k) n is below = absurd cc
meets part_type.PulseWire (kinds.Reg k) n is below = absurd cc
meets part_type.PulseWire (kinds.RegU k) n is below = absurd cc
meets part_type.PulseWire (kinds.Wire k) n is below = absurd cc
meets part_type.PulseWire (kinds.DWire k) n is below = absurd cc
meets part_type.PulseWire (kinds.RWire k) n is below = absurd cc
meets part_type.PulseWire (kinds.Pulse k) zero is below = refl
meets part_type.PulseWire (kinds.Pulse k) (suc zero) is below = refl
meets part_type.PulseWire (kinds.Pulse k) (suc (suc n)) is below = absurd (omega arith)
meets part_type.PulseWire (kinds.Plain k) n is below = absurd cc
meets part_type.PulseWire (kinds.Pipeline k) n is below = absurd cc
meets part_type.PulseWire (kinds.Bypass k) n is below = absurd cc
meets part_type.Fifo (kinds.Reg k) n is below = absurd cc
meets part_type.Fifo (kinds.RegU k) n is below = absurd cc
meets part_type.Fifo (kinds.Wire k) n is below = absurd cc
meets part_type.Fifo (kinds.DWire k) n is below = absurd cc
meets part_type.Fifo (kinds.RWire k) n is below = absurd cc
meets part_type.Fifo (kinds.Pulse k) n is below = absurd cc
meets part_type.Fifo (kinds.Plain k) zero is below = refl
meets part_type.Fifo (kinds.Plain k) (suc zero) is below = refl
meets part_type.Fifo (kinds.Plain k) (suc (suc zero)) is below = refl
meets part_type.Fifo (kinds.Plain k) (suc (suc (suc zero))) is below = refl
meets part_type.Fifo (kinds.Plain k) (suc (suc (suc (suc n)))) is below = absurd (omega arith)
meets part_type.Fifo (kinds.Pipeline k) zero is below = refl
meets part_type.Fifo (kinds.Pipeline k) (suc zero) is below = refl
meets part_type.Fifo (kinds.Pipeline k) (suc (suc zero)) is below = refl
meets part_type.Fifo (kinds.Pipeline k) (suc (suc (suc zero))) is below = refl
meets part_type.Fifo (kinds.Pipeline k) (suc (suc (suc (suc n)))) is below = absurd (omega arith)
meets part_type.Fifo (kinds.Bypass k) zero is below = refl
meets part_type.Fifo (kinds.Bypass k) (suc zero) is below = refl
meets part_type.Fifo (kinds.Bypass k) (suc (suc zero)) is below = refl
meets part_type.Fifo (kinds.Bypass k) (suc (suc (suc zero))) is below = refl
meets part_type.Fifo (kinds.Bypass k) (suc (suc (suc (suc n)))) is below = absurd (omega arith)
meets part_type.Fifof (kinds.Reg k) n is below = absurd cc
meets part_type.Fifof (kinds.RegU k) n is below = absurd cc
meets part_type.Fifof (kinds.Wire k) n is below = absurd cc
meets part_type.Fifof (kinds.DWire k) n is below = absurd cc
meets part_type.Fifof (kinds.RWire k) n is below = absurd cc
meets part_type.Fifof (kinds.Pulse k) n is below = absurd cc
meets part_type.Fifof (kinds.Plain k) zero is below = refl
meets part_type.Fifof (kinds.Plain k) (suc zero) is below = refl
meets part_type.Fifof (kinds.Plain k) (suc (suc zero)) is below = refl
meets part_type.Fifof (kinds.Plain k) (suc (suc (suc zero))) is below = refl
meets part_type.Fifof (kinds.Plain k) (suc (suc (suc (suc zero)))) is below = refl
meets part_type.Fifof (kinds.Plain k) (suc (suc (suc (suc (suc zero))))) is below = refl
meets part_type.Fifof (kinds.Plain k) (suc (suc (suc (suc (suc (suc n)))))) is below = absurd (omega arith)
meets part_type.Fifof (kinds.Pipeline k) zero is below = refl
meets part_type.Fifof (kinds.Pipeline k) (suc zero) is below = refl
meets part_type.Fifof (kinds.Pipeline k) (suc (suc zero)) is below = refl
meets part_type.Fifof (kinds.Pipeline k) (suc (suc (suc zero))) is below = refl
meets part_type.Fifof (kinds.Pipeline k) (suc (suc (suc (suc zero)))) is below = refl
meets part_type.Fifof (kinds.Pipeline k) (suc (suc (suc (suc (suc zero))))) is below = refl
meets part_type.Fifof (kinds.Pipeline k) (suc (suc (suc (suc (suc (suc n)))))) is below = absurd (omega arith)
meets part_type.Fifof (kinds.Bypass k) zero is below = refl
meets part_type.Fifof (kinds.Bypass k) (suc zero) is below = refl
meets part_type.Fifof (kinds.Bypass k) (suc (suc zero)) is below = refl
meets part_type.Fifof (kinds.Bypass k) (suc (suc (suc zero))) is below = refl
meets part_type.Fifof (kinds.Bypass k) (suc (suc (suc (suc zero)))) is below = refl
meets part_type.Fifof (kinds.Bypass k) (suc (suc (suc (suc (suc zero))))) is below = refl
meets part_type.Fifof (kinds.Bypass k) (suc (suc (suc (suc (suc (suc n)))))) is below = absurd (omega arith)

pub ruleset meeting = (meets)
