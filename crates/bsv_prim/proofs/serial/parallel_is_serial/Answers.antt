use Rattle.bsv_prim.proofs.Parallel.{run_in_turn, answer_in_turn, see_earlier, seen_run_in_turn, step_in_turn}
use Rattle.bsv_prim.proofs.serial.parallel_is_serial.Goals as goal

pub returns : goal.returns
returns g c =
    let t = g.K.Primitive.table in
    let laws = g.met.K.Primitive.laws in
    record {
      in_turn = λ kind. run_in_turn (t kind) (laws kind);
      answers = λ kind. answer_in_turn (t kind) (laws kind);
      earlier = λ kind. see_earlier (t kind) (laws kind);
      seen = λ kind. seen_run_in_turn (t kind) (laws kind);
      step = λ kind. step_in_turn (t kind) (laws kind);
    }
