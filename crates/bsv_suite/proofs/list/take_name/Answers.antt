use Rattle.std.proofs.Common.{◌≡◌, ◌∙◌, ℕ, List, vec_len, Err, sym, ap, subst, arith}
use Rattle.std.proofs.lemmas.Bool.{eqb-true}
use Rattle.std.proofs.lemmas.List.{nil_from_length}
use Rattle.std.proofs.lemmas.Result.{err_from_is_err_and}
use Rattle.bsv_lemmas.proofs.Choices.{same_err}
use Rattle.bsv_io.specs.Reading.{rest}
use Rattle.bsv_suite.specs.declared.halt.ListHalt.TheVariants as list_halt
use Rattle.bsv_suite.specs.Reading.{TakesName}
use Rattle.bsv_suite.proofs.Naming.{ends, meets, next_of, takes}
use Rattle.bsv_suite.proofs.list.take_name.Goals as goal

pub returns-then-is_empty-clause-end : goal.returns-then-is_empty-clause-end
returns-then-is_empty-clause-end g c = λ h left told.
    ends c.args.held.now.items left c.read_line.new.held.items _ (c.in_ok-read_line.ensures.filled left told) (nil_from_length c.read_line.new.held.items (omega (arith, c.read_line.new.held.ok.0, eqb-true (vec_len c.read_line.new.held) 0 (sym c.is_empty.ensures ∙ c.if-is_empty.true))))

pub returns-in_err-name-clause-bad : goal.returns-in_err-name-clause-bad
returns-in_err-name-clause-bad g c = λ number h.
    let p = err_from_is_err_and c.from_residual-in_err-name.result c.from_residual-in_err-name.ensures.1 in
    let e : c.name_of.result ≡ Err (list_halt.BadLine number) = c.in_err-name.was ∙ ap Err (sym p.2 ∙ same_err p.0 (list_halt.BadLine number) (sym p.1 ∙ h)) in
    let bad = c.name_of.ensures.bad number e in (
      bad.0,
      λ left told. let fills = c.in_ok-read_line.ensures.filled left told in
          meets c.args.before c.args.held.now.items left c.read_line.new.held.items c.next_line.result.0.now c.next_line.result.1.now _ fills
          (next_of c.args.held.now.items left c.read_line.new.held.items c.as_slice.result.now c.next_line.result.0.now c.next_line.result.1.now _ fills c.as_slice.ensures.value c.next_line.ensures)
          bad.1,
    )

pub returns-clause-name : goal.returns-clause-name
returns-clause-name g c = λ name h left told.
    let same : c.in_ok-name.name ≡ name = cc in
    let fills = c.in_ok-read_line.ensures.filled left told in
    let next = next_of c.args.held.now.items left c.read_line.new.held.items c.as_slice.result.now c.next_line.result.0.now c.next_line.result.1.now _ fills c.as_slice.ensures.value c.next_line.ensures in
    let here = takes c.args.before c.args.held.now.items left c.read_line.new.held.items c.next_line.result.0.now c.next_line.result.1.now c.in_ok-name.name _ fills next c.in_ok-name.ensures.name in
    let told_as = rest (g.F.Files.reading c.read_line.new.files) in
    subst (λ (b : List ℕ). TakesName c.args.before c.args.held.now.items left name b told_as) (sym c.in_ok-behind.ensures.items)
    (subst (λ (n : List ℕ). TakesName c.args.before c.args.held.now.items left n c.next_line.result.1.now told_as) same here)
