use Rattle.std.proofs.Math.Bridge.{le_prop}
use Rattle.std.proofs.Math.Logic.{∥∥₁_elim}
use Rattle.bsv_design.specs.declared.fired.Fired.{Fired}
use Rattle.bsv_design.specs.declared.schedule.Schedule.{Schedule}
use Rattle.bsv_design.specs.scheme.Schemes.{Asking}
use Rattle.bsv_design.specs.scheme.Seen.{asking}
use Rattle.bsv_net.proofs.RegisterWidths.{widths_prop}
use Rattle.bsv_sim.specs.declared.sim.Sim.{Sim}
use Rattle.bsv_sim.specs.Simulation.{CanClock}
use Rattle.bsv_sim.specs.Steps.{CanStep}
use Rattle.bsv_sim.proofs.Happening.{asked_few, clock_happens, inputs_fit, room_for}
use Rattle.bsv_sim.proofs.NetLists.{widths_known}
use Rattle.bsv_sim.proofs.sim.Sim.clock.Goals as goal

step_prop : (sim : Sim) (made : Schedule) (q : Asking) (f : Fired) → IsProp (CanStep sim made q f)
step_prop sim made q f = hlevel (le_prop, widths_prop)

can_step : (sim : Sim) (made : Schedule) (q : Asking) (f : Fired) → CanClock sim made q f → CanStep sim made q f
can_step sim made q f can =
    let have = widths_known sim in
    record {
      fit = inputs_fit can.design made sim.net can.simulated q can.state sim.registers.items can.shown have;
      few = asked_few can.design made sim.net can.simulated q can.state sim.registers.items can.shown have;
      room = room_for can.design made sim.net can.simulated q can.state sim.registers.items can.shown have f can.room;
    }

pub step-requires : goal.step-requires
step-requires c =
    let sim = c.args.self.now in
    let made = c.args.schedule.now in
    let q = asking c.args.requests.now in
    ∥∥₁_elim c.requires (step_prop sim made q c.args.fired.now) (can_step sim made q c.args.fired.now)

pub returns-clause-happens : goal.returns-clause-happens
returns-clause-happens c =
    let sim = c.args.self.now in
    λ d s simulated shown.
    clock_happens d c.args.schedule.now sim.net simulated (asking c.args.requests.now) s sim.registers.items shown (widths_known sim)
    sim.stoppers.items sim.table c.step.new.fired c.step.new.self.registers.items c.step.ensures.step
