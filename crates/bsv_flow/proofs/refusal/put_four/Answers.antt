use Rattle.std.proofs.Common.{◌≡◌, ℕ, List, ◌++◌, OnOk, subst}
use Rattle.bsv_io.specs.Writing.{appended}
use Rattle.bsv_flow.specs.Refusals.{four_text}
use Rattle.bsv_flow.proofs.refusal.put_four.Goals as goal

pub returns-clause-ok : goal.returns-clause-ok
returns-clause-ok g c =
    let writing = g.S.Sink.writing in
    subst (λ (x : List ℕ). OnOk c.put_all.result (writing c.put_all.new.sink ≡ appended (c.args.front.now ++ four_text c.args.first.now c.args.second.now c.args.third.now x) (writing c.args.sink.now))) c.bytes-4.ensures (subst (λ (x : List ℕ). OnOk c.put_all.result (writing c.put_all.new.sink ≡ appended (c.args.front.now ++ four_text c.args.first.now c.args.second.now x c.bytes-4.result.now) (writing c.args.sink.now))) c.bytes-3.ensures (subst (λ (x : List ℕ). OnOk c.put_all.result (writing c.put_all.new.sink ≡ appended (c.args.front.now ++ four_text c.args.first.now x c.bytes-3.result.now c.bytes-4.result.now) (writing c.args.sink.now))) c.bytes-2.ensures (subst (λ (x : List ℕ). OnOk c.put_all.result (writing c.put_all.new.sink ≡ appended (c.args.front.now ++ four_text x c.bytes-2.result.now c.bytes-3.result.now c.bytes-4.result.now) (writing c.args.sink.now))) c.bytes.ensures c.put_all.ensures.ok)))
