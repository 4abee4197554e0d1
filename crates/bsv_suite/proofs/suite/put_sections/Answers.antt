use Rattle.std.proofs.Common.{◌≡◌, ◌∙◌, ◌+◌, [], ◌∷◌, ◌++◌, length, map, take, drop, refl, ap, sym, arith}
use Rattle.std.proofs.lemmas.List.{length-map, length-take-le, take-append-drop, take_more}
use Rattle.bsv_io.proofs.Appended.{appended-nil}
use Rattle.bsv_suite.specs.Texts.{told_of}
use Rattle.bsv_suite.specs.declared.sections.Section.{Section}
use Rattle.bsv_suite.proofs.Suited.{bad_more, few_bad, none_bad, one_bad, prefix_more, put_more}
use Rattle.bsv_suite.proofs.suite.put_sections.Goals as goal
use Rattle.bsv_suite.proofs.suite.put_sections.Goals.{then-section-ne0, else-section-ne0}

pub loop-section-init : goal.loop-section-init
loop-section-init g c = record { put = sym (appended-nil (g.O.Sink.writing c.args.out.now)); bad = refl }

pub returns-in_err-put_section-clause-prefix : goal.returns-in_err-put_section-clause-prefix
returns-in_err-put_section-clause-prefix g c =
    let xs = c.args.sections.now in
    let i = c.loop-section.section-index in
    let x = c.section-item.result in
    prefix_more (take i xs) (take (i + 1) xs) (drop (i + 1) xs) xs x (g.O.Sink.writing c.args.out.now) (g.O.Sink.writing c.loop-section.out) (g.O.Sink.writing c.put_section.new.out)
    (take_more xs i x c.loop-section-test.true ∙ ap (λ (y : Section). take i xs ++ y ∷ []) (sym c.section-item.is))
    (sym (take-append-drop (i + 1) xs)) c.loop-section.invariant.put c.in_err-put_section.ensures.prefix

pub overflow_add-bad : goal.overflow_add-bad
overflow_add-bad g c =
    let xs = c.args.sections.now in
    let i = c.loop-section.section-index in
    let few = few_bad (map told_of (take i xs)) in
    let long : length (map told_of (take i xs)) ≡ i = length-map (take i xs) told_of ∙ length-take-le i xs (omega (arith, c.loop-section-test.true)) in
    omega (arith, c.loop-section.invariant.bad, few, long, c.loop-section-test.true, c.loop-section.auto.section-index-end)

pub loop-section-preserved : goal.loop-section-preserved
loop-section-preserved g c =
    let xs = c.args.sections.now in
    let i = c.loop-section.section-index in
    let x = c.section-item.result in
    let more : take (i + 1) xs ≡ take i xs ++ x ∷ [] = take_more xs i x c.loop-section-test.true ∙ ap (λ (y : Section). take i xs ++ y ∷ []) (sym c.section-item.is) in
    record {
      put = put_more (take i xs) (take (i + 1) xs) x (g.O.Sink.writing c.args.out.now) (g.O.Sink.writing c.loop-section.out) (g.O.Sink.writing c.put_section.new.out) more
          c.loop-section.invariant.put c.in_ok-put_section.ensures.ok;
      bad = bad_more (take i xs) (take (i + 1) xs) x c.loop-section.bad c.if-section-ne0.bad more c.loop-section.invariant.bad
          (elim c.if-section-ne0.branch [
            | then-section-ne0 w ↦ omega (arith, w.bad-is, one_bad x.bad w.if-section-ne0.true)
            | else-section-ne0 w ↦ omega (arith, w.bad-is, none_bad x.bad w.if-section-ne0.false)
          ]);
    }
