use Rattle.bsv_lockstep.proofs.Simulating.{begins, simulated_by}
use Rattle.bsv_lockstep.proofs.clocks.Run.new.Goals as goal

pub returns : goal.returns
returns c =
    let shared = c.in_ok-shared.ensures in
    let room = c.in_ok-new-2.ensures in
    let told = c.in_ok-new-3.ensures in
    begins c.args.compiled.now _ c.in_ok-shared.shared
    (simulated_by c.args.compiled.now c.args.net.now c.in_ok-shared.shared c.requires.compiled c.requires.net shared.carries shared.results)
    c.in_ok-make.ensures.net c.in_ok-make.ensures.opening c.in_ok-opening.ensures c.in_ok-new.ensures.fit
    (record { list = room.list_room; stopped = room.stopped_room; blocked = room.blocked_room; results = room.results_room })
    (record { list = told.list_room; stopped = told.stopped_room; blocked = told.blocked_room; results = told.results_room })
