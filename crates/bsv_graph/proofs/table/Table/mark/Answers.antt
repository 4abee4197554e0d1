use Rattle.std.proofs.Common.{◌≡◌, ◌*◌, length, refl, arith}
use Rattle.bsv_graph.specs.Table.{at}
use Rattle.bsv_graph.proofs.TableLemmas.{mark_same, mark_kept, mark_only}
use Rattle.bsv_graph.proofs.table.Table.mark.Goals as goal

pub returns : goal.returns
unfolding at
returns c =
    let t = c.args.self.now in
    let size : length c.args.self.now.cells.items ≡ c.args.self.now.side * c.args.self.now.side = omega (arith, c.args.self.now.cells.ok.0, c.args.self.now.square) in
    record {
      side = refl;
      kept = λ x y p q h. mark_kept t.cells.items t.side c.args.a c.args.b c.requires.row c.requires.column size _ h;
      added = λ x y p q h. rw (h.0, h.1) (mark_same t.cells.items t.side c.args.a c.args.b c.requires.row c.requires.column size);
      only = λ x y p q h. mark_only t.cells.items t.side c.args.a c.args.b c.requires.row c.requires.column size x y q h;
    }
