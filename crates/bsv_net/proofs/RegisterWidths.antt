-- That words have widths is known in one way; and the start words of registers have theirs.
use Rattle.std.proofs.Common.{ℕ, List, [], ◌∷◌, map}
use Rattle.std.proofs.Math.Bridge.{le_prop}
use Rattle.std.proofs.Math.Nat.{ℕ_set}
use Rattle.bsv_bits.specs.Words.{Bits}
use Rattle.bsv_prim.specs.declared.primitive.RegisterInfo.{RegisterInfo}
use Rattle.bsv_guard.specs.Fitting.{HaveWidths}
use Rattle.bsv_net.specs.Nets.{register_widths}

pub widths_prop : (us : List ℕ) (ws : List Bits) → IsProp (HaveWidths us ws)
widths_prop [] [] = hlevel
widths_prop [] (w ∷ ws) = hlevel
widths_prop (u ∷ us) [] = hlevel
widths_prop (u ∷ us) (w ∷ ws) = hlevel (le_prop, ℕ_set, widths_prop us ws)

pub starts_have : (rs : List RegisterInfo) → HaveWidths (register_widths rs) (map (λ (r : RegisterInfo). r.start) rs)
starts_have [] = tt
starts_have (r ∷ rs) = (r.in_range, starts_have rs)
