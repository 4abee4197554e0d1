use Rattle.std.proofs.Common.{◌≡◌, ◌∙◌, ap₂, refl, arith}
use Rattle.std.proofs.lemmas.List.{with_items_is}
use Rattle.std.specs.Vec.{with_items}
use Rattle.bsv_engine.specs.Codes.{all_kept}
use Rattle.bsv_engine.specs.Engines.{code_of, words_of}
use Rattle.bsv_engine.proofs.Whole.{runs_within, words_are}
use Rattle.bsv_engine.proofs.engine.Engine.run.Goals as goal

pub run_all-requires-clause-within : goal.run_all-requires-clause-within
unfolding code_of
run_all-requires-clause-within c =
    let own = c.args.self.now in
    rw (c.as_slice.ensures, c.as_slice-3.ensures)
    (runs_within (code_of own) own.widths own.runs own.right own.all_widths)

pub returns-clause-words : goal.returns-clause-words
unfolding words_of code_of
returns-clause-words c =
    let own = c.args.self.now in
    let narrow : (with_items own.narrow c.run_all.new.narrow).items ≡ c.run_all.new.narrow = with_items_is own.narrow c.run_all.new.narrow (omega arith) in
    let wide : (with_items own.wide c.run_all.new.wide).items ≡ c.run_all.new.wide = with_items_is own.wide c.run_all.new.wide (omega arith) in
    let keeps = rw (c.as_slice.ensures, c.as_slice-2.ensures, c.as_slice-3.ensures) at c.run_all.ensures in
    ap₂ (all_kept own.widths) narrow wide
    ∙ words_are (code_of own) own.widths own.runs own.right own.all_widths c.args.inputs.now c.args.registers.now c.run_all.new.narrow c.run_all.new.wide c.requires.inputs c.requires.registers (omega arith) (omega arith)
    (λ stand ws solved. keeps stand ws solved (λ k l. absurd (omega arith)))

pub returns-clause-code : goal.returns-clause-code
unfolding code_of
returns-clause-code c = refl
