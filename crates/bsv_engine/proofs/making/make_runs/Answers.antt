use Rattle.std.proofs.Common.{◌+◌, ◌≤◌, arith, length, take, drop}
use Rattle.std.proofs.lemmas.List.{length-drop}
use Rattle.bsv_engine.specs.Runs.{Stands, size}
use Rattle.bsv_engine.proofs.AllStands.{stands_more, stands_within}
use Rattle.bsv_engine.proofs.making.make_runs.Goals as goal

pub loop-place-preserved : goal.loop-place-preserved
loop-place-preserved c =
    let place = c.loop-place.place in
    let nodes = c.args.nodes.now in
    let widths = c.args.widths.now in
    let run = c.in_ok-run.run' in
    let pushed = c.in_ok-push.ensures.ok in
    let stands : Stands (take place widths) (drop place widths) (drop place nodes) run =
    rw (c.split_at-in-loop-place.ensures.front, c.split_at-in-loop-place.ensures.back, c.split_at.ensures.back) at c.in_ok-run.ensures.stands in
    let size_is = c.len-place.ensures in
    let within = stands_within (take place widths) (drop place widths) (drop place nodes) run stands in
    let end : place + size run ≤ length nodes = omega (arith, length-drop place nodes, c.loop-place.invariant.place) in
    rw (pushed, size_is) (record {
      stand = stands_more widths nodes 0 place c.loop-place.runs run c.loop-place.invariant.stand stands end;
      place = end;
    })
