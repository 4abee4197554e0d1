use Rattle.std.proofs.Common.{◌∙◌, length, map, sym}
use Rattle.bsv_design.specs.scheme.Schemes.{outline}
use Rattle.bsv_design.specs.scheme.Seen.{asking}
use Rattle.bsv_trace.proofs.Turns.{turn_on}
use Rattle.bsv_trace.proofs.call.calls.Goals as goal

pub loop-turn-preserved : goal.loop-turn-preserved
loop-turn-preserved c = record {
  read = c.loop-turn.invariant.read
      ∙ turn_on (map outline c.args.methods.now) c.loop-turn.rest.now (asking c.loop-turn.requests) (asking c.call.new.requests) (length c.args.bytes.now) c.loop-turn.turn c.in-Some.next.now c.in-Some-behind.more.now c.loop-turn-test.true c.in-Some.ensures.read (sym c.in-Some-behind.ensures);
  places = c.in-Some.ensures.places;
}
