use Rattle.std.proofs.Common.{◌∙◌, ◌+◌, ℕ, List, [], ◌∷◌, ◌++◌, take, ap, sym, arith}
use Rattle.std.proofs.lemmas.List.{take_more}
use Rattle.bsv_suite.proofs.Suited.{one_read, still_near}
use Rattle.bsv_suite.proofs.suite.read_group.Goals as goal

pub loop-name-preserved : goal.loop-name-preserved
loop-name-preserved g c =
    let before = c.loop-name.invariant in
    let this = c.in_ok-read_trace.ensures in
    let names = c.args.names.now in
    let i = c.loop-name.name-index in
    let reading = g.F.Files.reading in
    record {
      read = λ contents told.
          one_read contents (take i names) (take (i + 1) names) c.name-item.result c.loop-name.traces.items c.push.new.self.items c.in_ok-read_trace.field-0
          (take_more names i c.name-item.result c.loop-name-test.true ∙ ap (λ (n : List ℕ). take i names ++ n ∷ []) (sym c.name-item.is)) c.in_ok-push.ensures.items
          (before.read contents told) (this.trace contents (before.contents ∙ told));
      long = omega (arith, before.long, c.in_ok-push.ensures.len);
      within = still_near (reading c.args.files.now) (reading c.loop-name.files) (reading c.read_trace.new.files) before.within this.within;
      contents = this.contents ∙ before.contents;
      faults = this.kept (λ blamed e. let no_value : ⊥ = cc in no_value) ∙ before.faults;
    }
