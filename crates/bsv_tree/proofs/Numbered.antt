-- The names of a kind's methods are as many as its methods.
use Rattle.std.proofs.Common.{◌≡◌, [], drop, refl}
use Rattle.bsv_design.specs.declared.kind.Kind.{Kind}
use Rattle.bsv_design.specs.declared.kind.Kind.TheVariants.{Reg, RegU, Wire, DWire, RWire, Pulse, Plain, Pipeline, Bypass}
use Rattle.bsv_design.specs.parts.Kinds.{kind_table}
use Rattle.bsv_design.specs.parts.MethodNames.{method_names}

pub named_all : (k : Kind) → drop (kind_table k).methods (method_names k) ≡ []
named_all (Reg k) = refl
named_all (RegU k) = refl
named_all (Wire k) = refl
named_all (DWire k) = refl
named_all (RWire k) = refl
named_all (Pulse k) = refl
named_all (Plain k) = refl
named_all (Pipeline k) = refl
named_all (Bypass k) = refl

pub ruleset numbered = (named_all)
