use Rattle.std.proofs.Common.{rules, Bor, Result, ◌≡◌, ℕ, List, Err, length, refl, subst, ap, sym, ◌∙◌, map, take, ◌+◌, ◌<◌, [], ◌∷◌, ◌++◌, Ok, length-append, arith}
use Rattle.bsv_ast.specs.declared.package.Package.{Package}
use Rattle.bsv_flow.specs.declared.refusal.CompileFault.{CompileFault}
use Rattle.bsv_flow.specs.declared.refusal.CompileFault.TheVariants as fault
use Rattle.bsv_flow.specs.Loads.{Loads, Refuses}
use Rattle.std.proofs.lemmas.Option.{slice_get_within}
use Rattle.bsv_ast.specs.Packages.{items_of}
use Rattle.bsv_flow.specs.Sources.{read_limit}
use Rattle.bsv_flow.specs.Yields.{Yields}
use Rattle.bsv_flow.proofs.Decided.{next_sources}
use Rattle.bsv_flow.proofs.Queued.{with_items_extends}
use Rattle.bsv_flow.proofs.Sourced.{still_within}
use Rattle.bsv_flow.proofs.Steps.{yields_whole, read_whole_tree, none_left, refused_here, refused_after, loads_more, loads_first, one_long, all_loaded}
use Rattle.bsv_flow.proofs.loading.load.Goals as goal
use Rattle.bsv_flow.proofs.loading.load.Goals.{else-loop-turn-test, then-loop-turn-test+in_default}

pub loop-turn-init : goal.loop-turn-init
loop-turn-init g c =
    let one : length c.push.new.self ≡ 1 = one_long c.as_bytes-first.result.now c.push.new.self c.new-queue.result c.in_ok-new.field-0 c.in_ok-push.ensures.ok c.new-queue.ensures c.in_ok-new.ensures in
    record {
      loads = λ contents told. loads_first c.as_bytes-first.result.now contents c.push.new.self c.new-queue.result c.in_ok-new.field-0 c.new-packages.result c.in_ok-push.ensures.ok c.new-queue.ensures c.in_ok-new.ensures c.new-packages.ensures;
      sources = λ contents told. c.new-sources.ensures;
      count = ap length c.new-packages.ensures;
      within = omega arith;
      few = omega (arith, one);
      contents = refl;
      faults = refl;
      read = λ _. refl;
    }

pub returns-in_err-package-clause-refused : goal.returns-in_err-package-clause-refused
returns-in_err-package-clause-refused g c =
    λ r e contents told.
    let before = c.loop-turn.invariant in
    let gave : ◌≡◌ {A = Result Package CompileFault} (Err c.in_err-package.field-0.0) (Err (fault.Refused r)) = search rules in
    subst (λ n. Refuses n contents r) c.as_bytes-first.ensures.value
    (refused_here c.as_bytes-first.result.now contents c.loop-turn.queue c.loop-turn.packages c.loop-turn.turn c.in-Some.file.now (before.loads contents told) before.count (sym c.in-Some.ensures.value) r
    (yields_whole contents c.in-Some.file.now c.bytes-in-loop-turn.result.now c.bytes.result.now c.in_ok-source.source c.bytes-in-loop-turn-2.result.now (Err r) c.bytes-in-loop-turn.ensures c.bytes.ensures c.bytes-in-loop-turn-2.ensures (c.in_ok-source.ensures.source contents (before.contents ∙ told)) (c.in_err-package.ensures.refused r gave)))

pub returns-in_err-queue-clause-refused : goal.returns-in_err-queue-clause-refused
returns-in_err-queue-clause-refused g c =
    λ r e contents told.
    let before = c.loop-turn.invariant in
    let gave : ◌≡◌ {A = Result (List (List ℕ)) CompileFault} (Err c.in_err-queue.field-0.0) (Err (fault.Refused r)) = search rules in
    let refused = c.in_err-queue.ensures.refused r gave in
    subst (λ n. Refuses n contents r) c.as_bytes-first.ensures.value
    (refused_after c.as_bytes-first.result.now contents c.loop-turn.queue c.loop-turn.packages c.loop-turn.turn c.in-Some.file.now (before.loads contents told) before.count (sym c.in-Some.ensures.value) c.in_ok-package.package r
    (yields_whole contents c.in-Some.file.now c.bytes-in-loop-turn.result.now c.bytes.result.now c.in_ok-source.source c.bytes-in-loop-turn-2.result.now _ c.bytes-in-loop-turn.ensures c.bytes.ensures c.bytes-in-loop-turn-2.ensures (c.in_ok-source.ensures.source contents (before.contents ∙ told)) c.in_ok-package.ensures.found)
    refused.0 refused.1)

pub loop-turn-preserved : goal.loop-turn-preserved
loop-turn-preserved g c =
    let before = c.loop-turn.invariant in
    let first = c.as_bytes-first.result.now in
    let found = c.in_ok-queue.ensures.found in
    let more = with_items_extends first c.loop-turn.queue (items_of c.in_ok-package.package) in
    let longer : length c.in_ok-queue.queue ≡ length c.loop-turn.queue + length more.0 = ap length (found ∙ more.1) ∙ length-append c.loop-turn.queue more.0 in
    let within : c.loop-turn.turn < length c.loop-turn.queue = slice_get_within c.loop-turn.queue c.loop-turn.turn c.in-Some.file.now (sym c.in-Some.ensures.value) in
    let one : length c.push-in-loop-turn-2.new.self ≡ length c.loop-turn.packages + 1 = ap length c.in_ok-push-3.ensures.ok ∙ length-append c.loop-turn.packages (c.in_ok-package.package ∷ []) in
    record {
      loads = λ contents told.
          let yields = yields_whole contents c.in-Some.file.now c.bytes-in-loop-turn.result.now c.bytes.result.now c.in_ok-source.source c.bytes-in-loop-turn-2.result.now (Ok c.in_ok-package.package) c.bytes-in-loop-turn.ensures c.bytes.ensures c.bytes-in-loop-turn-2.ensures (c.in_ok-source.ensures.source contents (before.contents ∙ told)) c.in_ok-package.ensures.found in
          subst (λ ps. Loads first contents c.in_ok-queue.queue ps) (sym c.in_ok-push-3.ensures.ok)
          (loads_more first contents c.loop-turn.queue c.loop-turn.packages c.loop-turn.turn c.in-Some.file.now (before.loads contents told) before.count (sym c.in-Some.ensures.value) c.in_ok-package.package c.in_ok-queue.queue yields found c.in_ok-queue.ensures.few);
      sources = λ contents told.
          let text = contents c.in-Some.file.now in
          let taken : c.in_ok-source.source ≡ take read_limit text = c.in_ok-source.ensures.source contents (before.contents ∙ told) ∙ ap (λ n. take read_limit (contents n)) c.bytes.ensures in
          let yields = subst (λ bytes. Yields c.bytes-in-loop-turn.result.now bytes (Ok c.in_ok-package.package)) c.bytes-in-loop-turn-2.ensures c.in_ok-package.ensures.found in
          let whole : c.in_ok-source.source ≡ text = read_whole_tree c.bytes-in-loop-turn.result.now text c.in_ok-source.source c.in_ok-package.package taken yields in
          c.in_ok-push-2.ensures.ok ∙ ap (λ (bytes : List ℕ). c.loop-turn.sources ++ bytes ∷ []) whole
          ∙ next_sources contents c.loop-turn.queue more.0 c.loop-turn.turn c.in-Some.file.now c.loop-turn.sources (before.sources contents told) (sym c.in-Some.ensures.value)
          ∙ ap (λ (files : List (List ℕ)). map contents (take (c.loop-turn.turn + 1) files)) (sym (found ∙ more.1));
      count = omega (arith, one, before.count);
      within = omega (arith, longer, within);
      few = c.in_ok-queue.ensures.few;
      contents = c.in_ok-source.ensures.contents ∙ before.contents;
      faults = c.in_ok-source.ensures.kept (λ blamed e. let no_value : ⊥ = cc in no_value) ∙ before.faults;
      read = still_within read_limit (g.F.Files.reading c.args.files.now) (g.F.Files.reading c.loop-turn.files) (g.F.Files.reading c.read_source.new.files) before.read c.in_ok-source.ensures.within;
    }

pub returns-clause-loaded : goal.returns-clause-loaded
returns-clause-loaded g c =
    λ contents told.
    elim c.loop-turn-test.branch [
      | else-loop-turn-test w ↦
          let before = c.loop-turn.invariant in
          all_loaded c.as_bytes-first.result.now c.args.name.now contents c.loop-turn.queue c.loop-turn.sources c.loop-turn.packages c.loop-turn.turn c.as_bytes-first.ensures.value (before.loads contents told) before.count
          (omega (arith, w.loop-turn-test.false, before.within, before.few)) (before.sources contents told)
      | then-loop-turn-test+in_default w ↦
          let before = c.loop-turn.invariant in
          let none = none_left (λ (name : Bor (List ℕ)). name.now) w.get.result c.loop-turn.queue c.loop-turn.turn w.get.ensures.value w.in_default.not-Some in
          all_loaded c.as_bytes-first.result.now c.args.name.now contents c.loop-turn.queue c.loop-turn.sources c.loop-turn.packages c.loop-turn.turn c.as_bytes-first.ensures.value (before.loads contents told) before.count
          (omega (arith, none, before.within)) (before.sources contents told)
    ]
