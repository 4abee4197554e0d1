use Rattle.std.proofs.Common.{◌∙◌, ◌+◌, sym, arith, drop}
use Rattle.bsv_engine.specs.Runs.{size}
use Rattle.bsv_engine.proofs.StepsKeep.{run_keeps}
use Rattle.bsv_engine.proofs.running.advance.Goals as goal

pub returns-else-is_single : goal.returns-else-is_single
returns-else-is_single c = λ stands ws solved before.
    let given = c.args.given in
    let r = c.args.run.now in
    let several = sym c.is_single.ensures ∙ c.if-is_single.false in
    rw (c.several.ensures several)
    (run_keeps given.inputs.now given.registers.now given.nodes.now given.widths.now c.args.narrow.now c.args.wide.now ws c.args.place solved before c.requires.room.widths c.requires.room.narrow (omega arith) r several stands c.requires.there (drop (c.args.place + size r) c.args.narrow.now))
