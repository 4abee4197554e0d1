use Rattle.std.proofs.Common.{ℕ, List, ◌+◌, arith}
use Rattle.std.specs.Borrow.{Bor}
use Rattle.bsv_io.proofs.Pieces.{said_more, prefix_more, prefix_whole}
use Rattle.bsv_io.proofs.put_buffer.PutBuffer.add_all.Goals as goal

abbrev bytes_of : Bor (List ℕ) → List ℕ
bytes_of piece = piece.now

pub loop-piece-preserved : goal.loop-piece-preserved
loop-piece-preserved g c =
    let before = c.loop-piece.invariant in
    let this = c.in_ok-add.ensures in
    record {
      ok = said_more bytes_of c.args.pieces.now _ _ _ c.loop-piece.piece-index _ _ _ _ c.loop-piece-test.true before.ok this.ok;
      prefix = prefix_more bytes_of c.args.pieces.now _ _ c.loop-piece.piece-index _ _ _ _ c.loop-piece-test.true before.prefix before.ok this.prefix;
      count = omega (arith, before.count, this.count);
    }

pub returns-in_err-add-clause-prefix : goal.returns-in_err-add-clause-prefix
returns-in_err-add-clause-prefix g c =
    let before = c.loop-piece.invariant in
    let this = c.add.ensures in
    let index = c.loop-piece.piece-index in
    prefix_whole bytes_of c.args.pieces.now _ (index + 1) _ _
    (prefix_more bytes_of c.args.pieces.now _ _ index _ _ _ _ c.loop-piece-test.true before.prefix before.ok this.prefix)
