use Rattle.bsv_run.specs.declared.run.Run.{Run}
use Rattle.bsv_run.proofs.Clocking.{begins}
use Rattle.bsv_run.proofs.run.Run.start.Goals as goal

pub returns : goal.returns
returns c = λ made simulated.
    let room = c.in_ok-fired.ensures in
    let lines = c.in_ok-lines.ensures in
    let run : Run = record { lines = c.in_ok-lines.lines; sim = c.in_ok-sim.sim; requests = c.in_ok-requests.requests; fired = c.in_ok-fired.fired; writer = c.new-writer.result } in
    begins c.args.limit c.args.design.now made c.args.net run simulated c.in_ok-sim.ensures.net c.in_ok-sim.ensures.opening c.in_ok-requests.ensures.fit c.in_ok-requests.ensures.nothing
    (record { list = room.list_room; stopped = room.stopped_room; blocked = room.blocked_room; results = room.results_room })
    lines.limit lines.done lines.at lines.held
