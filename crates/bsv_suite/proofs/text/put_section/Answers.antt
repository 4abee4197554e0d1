use Rattle.std.proofs.Common.{◌≡◌, ◌∙◌, ℕ, List, OnOk, subst}
use Rattle.bsv_io.specs.Writing.{appended, AppendsPrefix}
use Rattle.bsv_suite.proofs.Put.{cut_text, whole_text}
use Rattle.bsv_suite.proofs.text.put_section.Goals as goal

pub returns-then-section-eq0-clause-ok : goal.returns-then-section-eq0-clause-ok
returns-then-section-eq0-clause-ok g c =
    subst (λ (t : List ℕ). OnOk c.put_all.result (g.O.Sink.writing c.put_all.new.sink ≡ appended t (g.O.Sink.writing c.args.out.now)))
    (whole_text c.args.section.now c.bytes-name.result.now c.as_slice-text.result.now c.bytes-name.ensures c.as_slice-text.ensures.value c.if-section-eq0.true)
    c.put_all.ensures.ok

pub returns-then-section-eq0-clause-prefix : goal.returns-then-section-eq0-clause-prefix
returns-then-section-eq0-clause-prefix g c =
    subst (λ (t : List ℕ). AppendsPrefix t (g.O.Sink.writing c.args.out.now) (g.O.Sink.writing c.put_all.new.sink))
    (whole_text c.args.section.now c.bytes-name.result.now c.as_slice-text.result.now c.bytes-name.ensures c.as_slice-text.ensures.value c.if-section-eq0.true)
    c.put_all.ensures.prefix

pub returns-clause-ok : goal.returns-clause-ok
returns-clause-ok g c =
    subst (λ (t : List ℕ). OnOk c.put_all-2.result (g.O.Sink.writing c.put_all-2.new.sink ≡ appended t (g.O.Sink.writing c.args.out.now)))
    (cut_text c.args.section.now c.bytes-name.result.now c.as_slice-text.result.now c.bytes-name.ensures c.as_slice-text.ensures.value
    c.as_bytes-number.result.now (c.as_bytes-number.ensures.value ∙ c.format.ensures.text) c.if-section-eq0.false)
    c.put_all-2.ensures.ok

pub returns-clause-prefix : goal.returns-clause-prefix
returns-clause-prefix g c =
    subst (λ (t : List ℕ). AppendsPrefix t (g.O.Sink.writing c.args.out.now) (g.O.Sink.writing c.put_all-2.new.sink))
    (cut_text c.args.section.now c.bytes-name.result.now c.as_slice-text.result.now c.bytes-name.ensures c.as_slice-text.ensures.value
    c.as_bytes-number.result.now (c.as_bytes-number.ensures.value ∙ c.format.ensures.text) c.if-section-eq0.false)
    c.put_all-2.ensures.prefix
