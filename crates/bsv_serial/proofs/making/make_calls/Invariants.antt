use Rattle.std.proofs.Common.{◌≡◌, IsTrue, map, length}
use Rattle.std.specs.List.{list_all}
use Rattle.bsv_design.specs.scheme.Traces.{site_at}
use Rattle.bsv_design.specs.design.Widths.{call_named}
use Rattle.bsv_serial.specs.AtHand.{kinds}
use Rattle.bsv_serial.specs.Making.{with_sites}
use Rattle.bsv_serial.proofs.making.make_calls.Given as goal

abbrev pub invariant-loop-call : goal.invariant-loop-call
invariant-loop-call l = record {
  named : IsTrue (list_all (call_named (kinds l.parts)) l.rest);
  count : length l.calls_made.items ≡ length l.parts;
  makes : with_sites (kinds l.parts) l.place l.calls_made.items (map (site_at (kinds l.parts) l.words) l.rest)
      ≡ with_sites (kinds l.parts) l.place l.initial.calls_made.items (map (site_at (kinds l.parts) l.words) l.calls);
}

abbrev pub decreases-loop-call : goal.decreases-loop-call
decreases-loop-call l = length l.rest
