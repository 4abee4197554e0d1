use Rattle.std.proofs.Common.{◌∙◌, ℕ, List, length, ap, arith}
use Rattle.bsv_sim.proofs.Lists.{fired_most}
use Rattle.bsv_sim.specs.AtHand.{signals}
use Rattle.bsv_sim.proofs.signals.ElementSignals.tell.Goals as goal

pub tell_results-requires-clause-room : goal.tell_results-requires-clause-room
tell_results-requires-clause-room c =
    let told = ap (λ (ns : List ℕ). length ns) (c.as_slice-2.ensures.value ∙ c.tell_fired.ensures.list) in
    let most = fired_most (signals c.args.self) c.as_slice-execution.result.now in
    let same = ap (λ (ns : List ℕ). length ns) c.as_slice-execution.ensures in
    omega (arith, told, most, same, c.requires.room.results)
