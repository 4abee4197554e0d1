use Rattle.std.proofs.Common.{◌∙◌, List, map, sym, ap, subst}
use Rattle.bsv_bits.specs.Words.{Bits}
use Rattle.bsv_prim.specs.declared.primitive.RegisterInfo.{RegisterInfo}
use Rattle.bsv_guard.specs.Fitting.{HaveWidths}
use Rattle.bsv_net.specs.Nets.{register_widths}
use Rattle.bsv_design.specs.scheme.States.{opening}
use Rattle.bsv_clock.specs.Shows.{Shows}
use Rattle.bsv_net.proofs.RegisterWidths.{starts_have}
use Rattle.bsv_sim.proofs.Opening.{shows_opening}
use Rattle.bsv_sim.proofs.sim.Sim.make.Goals as goal

pub invariant_of-result-clause-widths : goal.invariant_of-result-clause-widths
invariant_of-result-clause-widths c =
    let start : RegisterInfo → Bits = λ r. r.start in
    ∣ subst (λ (ws : List Bits). HaveWidths (register_widths c.args.net.registers) ws)
    (sym (c.in_ok-registers.ensures ∙ ap (λ (rs : List RegisterInfo). map start rs) c.as_slice.ensures))
    (starts_have c.args.net.registers) ∣₁

pub returns-clause-opening : goal.returns-clause-opening
returns-clause-opening c =
    let start : RegisterInfo → Bits = λ r. r.start in
    λ ks e. subst (λ (ws : List Bits). Shows ks (opening ks) ws)
    (sym (c.in_ok-registers.ensures ∙ ap (λ (rs : List RegisterInfo). map start rs) c.as_slice.ensures))
    (shows_opening ks c.args.net.registers e)
