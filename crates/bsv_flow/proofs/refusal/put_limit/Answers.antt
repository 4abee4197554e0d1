use Rattle.std.proofs.Common.{◌≡◌, ℕ, List, ◌++◌, codes, OnOk, subst, ◌∙◌}
use Rattle.bsv_io.specs.Writing.{appended}
use Rattle.bsv_flow.proofs.refusal.put_limit.Goals as goal

pub returns-clause-ok : goal.returns-clause-ok
returns-clause-ok g c =
    let writing = g.S.Sink.writing in
    subst (λ (digits : List ℕ). OnOk c.put_all.result (writing c.put_all.new.sink ≡ appended (codes "refused 17 Limit " ++ (c.args.kind.now ++ (codes " " ++ (digits ++ codes "\n")))) (writing c.args.sink.now))) (c.as_bytes-digits.ensures.value ∙ c.format.ensures.text)
    (subst (λ (kind : List ℕ). OnOk c.put_all.result (writing c.put_all.new.sink ≡ appended (codes "refused 17 Limit " ++ (kind ++ (codes " " ++ (c.as_bytes-digits.result.now ++ codes "\n")))) (writing c.args.sink.now))) c.bytes.ensures c.put_all.ensures.ok)
