use Rattle.std.proofs.Common.{take, arith}
use Rattle.bsv_flow.proofs.Placed.{lines_more, lines_same, column_first, column_more}
use Rattle.bsv_flow.proofs.position.position.Goals as goal
use Rattle.bsv_flow.proofs.position.position.Goals.{then-byte-eq10, else-byte-eq10}

pub loop-byte-preserved : goal.loop-byte-preserved
loop-byte-preserved c =
    let before = c.loop-byte.invariant in
    let front = take c.min.result c.args.source.now in
    let i = c.loop-byte.byte-index in
    elim c.if-byte-eq10.branch [
      | then-byte-eq10 w ↦
          let more = lines_more front i c.loop-byte-test.true w.if-byte-eq10.true in
          let first = column_first front i c.loop-byte-test.true w.if-byte-eq10.true in
          record {
            lines = omega (arith, w.line-is, before.lines, more);
            columns = omega (arith, w.column-is, first);
            line = omega (arith, w.line-is, before.line);
            column = omega (arith, w.column-is);
          }
      | else-byte-eq10 w ↦
          let same = lines_same front i c.loop-byte-test.true w.if-byte-eq10.false in
          let more = column_more front i c.loop-byte-test.true w.if-byte-eq10.false in
          record {
            lines = omega (arith, w.line-is, before.lines, same);
            columns = omega (arith, w.column-is, before.columns, more);
            line = omega (arith, w.line-is, before.line);
            column = omega (arith, w.column-is, before.column);
          }
    ]
