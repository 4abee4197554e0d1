use Rattle.std.proofs.Common.{◌∙◌, ℕ, ◌<◌, List, Option, length, sym, ap, subst}
use Rattle.std.specs.List.{AllByRecursion}
use Rattle.bsv_serial.specs.Decider.{all_stopped}
use Rattle.bsv_serial.proofs.stopping.stop_all.Goals as goal

pub loop-number-preserved : goal.loop-number-preserved
unfolding all_stopped
loop-number-preserved c =
    let by = c.args.by in
    let before = c.loop-number.stoppers in
    let first = c.in-Some.ensures.cases.0 in
    let within = subst (AllByRecursion (λ m. m < length before)) first c.loop-number.invariant.within in
    record {
      within = subst (λ (k : ℕ). AllByRecursion (λ m. m < k) c.in-Some.after.now) (sym c.stop.auto.stoppers) within.1;
      stops = ap (λ (ss : List (Option ℕ)). all_stopped ss c.in-Some.after.now by) c.stop.ensures
          ∙ sym (ap (λ (ns : List ℕ). all_stopped before ns by) first)
          ∙ c.loop-number.invariant.stops;
    }
