use Rattle.std.proofs.Common.{ap, sym, take, ◌∙◌, arith}
use Rattle.bsv_flow.proofs.Folders.{folder_slash, folder_other}
use Rattle.bsv_flow.proofs.queue.folder.Goals as goal
use Rattle.bsv_flow.proofs.queue.folder.Goals.{then-byte-eq47, else-byte-eq47}

pub loop-at-preserved : goal.loop-at-preserved
loop-at-preserved c =
    elim c.if-byte-eq47.branch [
      | then-byte-eq47 w ↦ (
        omega (arith, w.end-is),
        folder_slash c.args.name.now c.loop-at.at c.loop-at-test.true w.if-byte-eq47.true ∙ sym (ap (λ n. take n c.args.name.now) w.end-is),
      )
      | else-byte-eq47 w ↦ (
        omega (arith, w.end-is, c.loop-at.invariant.0),
        folder_other c.args.name.now c.loop-at.at c.loop-at-test.true w.if-byte-eq47.false ∙ c.loop-at.invariant.1 ∙ sym (ap (λ n. take n c.args.name.now) w.end-is),
      )
    ]
