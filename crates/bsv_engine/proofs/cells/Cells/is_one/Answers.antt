use Rattle.std.proofs.Common.{◌∙◌, ap, get_or}
use Rattle.bsv_design.specs.design.Words as words
use Rattle.bsv_engine.proofs.Keeping.{bit_is_one, kept_at}
use Rattle.bsv_engine.proofs.cells.Cells.is_one.Goals as goal

pub returns-then-self-place-eq1 : goal.returns-then-self-place-eq1
returns-then-self-place-eq1 c =
    let own = c.args.self in
    let k = c.args.node in
    bit_is_one (get_or own.widths.now k 0) (get_or own.narrow.now k 0) (get_or own.wide.now k 0) c.if-self-place-eq1.true
    ∙ ap (λ w. words.is_one w) (kept_at own.widths.now own.narrow.now own.wide.now k c.requires.narrow_room c.requires.wide_room c.if-place-self.true)
