use Rattle.std.proofs.Common.{◌≡◌, ◌∙◌, ℕ, List, ◌++◌, length, Err, Ok, Some, sym, ap, subst, arith}
use Rattle.std.proofs.lemmas.Result.{err_from_is_err_and}
use Rattle.bsv_lemmas.proofs.Choices.{same_err}
use Rattle.bsv_suite.specs.declared.halt.ListHalt.TheVariants as list_halt
use Rattle.bsv_io.specs.Reading.{rest}
use Rattle.bsv_suite.specs.Reading.{MeetsBad, TakesName}
use Rattle.bsv_suite.proofs.Naming.{Taken, taken_more, taken_to_bad}
use Rattle.bsv_suite.proofs.list.read_names.Goals as goal

pub returns-in_err-found-clause-bad : goal.returns-in_err-found-clause-bad
returns-in_err-found-clause-bad g c = λ number h list told.
    let p = err_from_is_err_and c.from_residual.result c.from_residual.ensures.1 in
    let e : c.take_name.result ≡ Err (list_halt.BadLine number) = c.in_err-found.was ∙ ap Err (sym p.2 ∙ same_err p.0 (list_halt.BadLine number) (sym p.1 ∙ h)) in
    let bad = c.take_name.ensures.bad number e in
    let so_far = c.loop-before.invariant.taken list told in
    let long : c.loop-before.before ≡ length c.loop-before.names.items = omega (arith, c.loop-before.invariant.long, c.loop-before.names.ok.0) in
    taken_to_bad list c.loop-before.held.items so_far.0 c.loop-before.names.items number so_far.2 (omega (arith, bad.0, long))
    (subst (λ (n : ℕ). MeetsBad n (c.loop-before.held.items ++ so_far.0)) long (bad.1 so_far.0 so_far.1))

pub loop-before-preserved : goal.loop-before-preserved
loop-before-preserved g c =
    let before = c.loop-before.invariant in
    let this = c.take_name.ensures in
    let found : c.take_name.result ≡ Ok (Some c.in-Some.name) = c.in_ok-found.was ∙ ap Ok c.in-Some.is in
    let long : c.loop-before.before ≡ length c.loop-before.names.items = omega (arith, before.long, c.loop-before.names.ok.0) in
    record {
      taken = λ list told.
          let so_far = before.taken list told in
          let told_as = rest (g.F.Files.reading c.take_name.new.files) in
          let t = subst (λ (n : ℕ). TakesName n c.loop-before.held.items so_far.0 c.in-Some.name c.take_name.new.held.items told_as) long (this.name c.in-Some.name found so_far.0 so_far.1) in (
            t.after,
            t.told_after,
            subst (λ (ns : List (List ℕ)). Taken list c.take_name.new.held.items t.after ns) (sym c.in_ok-push.ensures.items)
                (taken_more list c.loop-before.held.items so_far.0 c.take_name.new.held.items c.in-Some.name c.loop-before.names.items told_as so_far.2 t),
          );
      long = omega (arith, before.long, c.in_ok-push.ensures.len);
      few = omega (arith, this.few c.in-Some.name found);
      given = omega (arith, before.given, this.within, before.room, c.requires.short);
      room = this.room ∙ before.room;
      contents = this.contents ∙ before.contents;
      faults = this.kept (λ e. let no_value : ⊥ = cc in no_value) ∙ before.faults;
      name = c.in_ok-found.ensures.file.name ∙ before.name;
      current = c.in_ok-found.ensures.file.current;
    }
