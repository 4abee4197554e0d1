-- The start words of registers show the opening state.
use Rattle.std.proofs.Common.{◌≡◌, ◌∙◌, List, [], ◌∷◌, map, refl, sym, ap, subst}
use Rattle.bsv_bits.specs.Words.{Bits}
use Rattle.bsv_prim.specs.declared.primitive.RegisterInfo.{RegisterInfo}
use Rattle.bsv_design.specs.declared.kind.Kind.{Kind}
use Rattle.bsv_design.specs.scheme.States.{opening}
use Rattle.bsv_clock.specs.Shows.{Cell, Shows, cell, cells_of}
use Rattle.bsv_net.proofs.Starts.{starts_show}

starts_are : (rs : List RegisterInfo) → map (λ (r : RegisterInfo). r.start) rs ≡ map (λ (c : Cell). c.start) (map cell rs)
starts_are [] = refl
starts_are (r ∷ rs) = ap (λ (ws : List Bits). r.start ∷ ws) (starts_are rs)

-- the start words of the registers of kinds show their opening state
pub shows_opening : (ks : List Kind) (rs : List RegisterInfo) → map cell rs ≡ cells_of ks → Shows ks (opening ks) (map (λ r. r.start) rs)
shows_opening ks rs e =
    subst (λ (ws : List Bits). Shows ks (opening ks) ws) (sym (starts_are rs ∙ ap (λ (cs : List Cell). map (λ c. c.start) cs) e)) (starts_show ks)
