use Rattle.std.proofs.Common.{◌≡◌, map, take}
use Rattle.bsv_io.specs.Writing.{appended}
use Rattle.bsv_suite.specs.Suites.{bad_traces, suite_text}
use Rattle.bsv_suite.specs.Texts.{told_of}
use Rattle.bsv_suite.proofs.suite.put_sections.Given as goal

-- the first sections were put
abbrev pub invariant-loop-section : goal.invariant-loop-section
invariant-loop-section g l =
    record {
      put : g.O.Sink.writing l.out ≡ appended (suite_text (map told_of (take l.section-index l.sections))) (g.O.Sink.writing l.fn.out);
      bad : l.bad ≡ bad_traces (map told_of (take l.section-index l.sections));
    }
