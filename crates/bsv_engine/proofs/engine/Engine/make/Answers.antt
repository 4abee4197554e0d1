use Rattle.std.proofs.Common.{◌≡◌, ◌∙◌, ap, sym, subst, length, List, [], ℕ, arith}
use Rattle.bsv_engine.specs.declared.run.Run.{Run}
use Rattle.bsv_engine.specs.Codes.{Code}
use Rattle.bsv_engine.specs.Engines.{code_of}
use Rattle.bsv_engine.specs.Runs.{AllStand, IsEngine}
use Rattle.bsv_engine.specs.Widths.{widths_of}
use Rattle.bsv_engine.proofs.InOrder.{widths_count}
use Rattle.bsv_engine.proofs.Whole.{engine_is, same_code}
use Rattle.bsv_engine.proofs.engine.Engine.make.Goals as goal

pub make_runs-requires : goal.make_runs-requires
make_runs-requires c =
    let made : c.in_ok-widths.widths ≡ widths_of c.args.inputs.now c.args.registers.now [] c.args.nodes.now = c.in_ok-widths.ensures in
    ap length (c.as_slice.ensures ∙ made) ∙ widths_count c.args.inputs.now c.args.registers.now [] c.args.nodes.now ∙ omega arith

pub invariant_of-result : goal.invariant_of-result
invariant_of-result c =
    let us : List ℕ = c.widths.inside.items.items in
    let rs : List Run = c.runs.inside.items.items in
    let inputs : c.in_ok-from_slice.field-0 ≡ c.args.inputs.now = c.in_ok-from_slice.ensures in
    let registers = c.in_ok-from_slice-2.ensures in
    let nodes : c.in_ok-from_slice-3.field-0 ≡ c.args.nodes.now = c.in_ok-from_slice-3.ensures in
    let widths : us ≡ widths_of c.args.inputs.now c.args.registers.now [] c.args.nodes.now = c.widths.view_is ∙ c.in_ok-widths.ensures in
    let sliced : c.as_slice.result.now ≡ us = c.as_slice.ensures ∙ sym c.widths.view_is in
    let stand : AllStand us c.args.nodes.now 0 (length c.args.nodes.now) rs =
    subst (λ l. AllStand us c.args.nodes.now 0 (length c.args.nodes.now) l) (sym c.runs.view_is)
    (subst (λ l. AllStand l c.args.nodes.now 0 (length c.args.nodes.now) c.in_ok-runs.runs) sliced c.in_ok-runs.ensures) in
    let same = same_code _ _ _ _ _ _ inputs registers nodes in
    record {
      right = subst (λ (x : Code). ∥ IsEngine x us rs ∥₁) (sym same) (engine_is (record { inputs = c.args.inputs.now; registers = c.args.registers.now; nodes = c.args.nodes.now }) us rs c.requires widths stand);
      all_widths = ap length widths ∙ widths_count c.args.inputs.now c.args.registers.now [] c.args.nodes.now ∙ omega (arith, ap length nodes);
      narrow_room = c.in_ok-vec.ensures.len ∙ ap length (sym nodes);
      wide_room = c.in_ok-vec-2.ensures.len ∙ ap length (sym nodes);
    }

pub returns : goal.returns
unfolding code_of
returns c = same_code _ _ _ _ _ _ c.in_ok-from_slice.ensures c.in_ok-from_slice-2.ensures c.in_ok-from_slice-3.ensures
