use Rattle.std.proofs.Common.{◌∙◌, get_or}
use Rattle.bsv_engine.proofs.Keeping.{kept_at, kept_narrow, kept_past, kept_wide}
use Rattle.bsv_engine.proofs.cells.Cells.at.Goals as goal

pub returns-then-place-self : goal.returns-then-place-self
returns-then-place-self c =
    let own = c.args.self in
    c.bit.ensures ∙ kept_past own.widths.now own.narrow.now own.wide.now c.args.node c.if-place-self.true

pub returns-then-width-le64 : goal.returns-then-width-le64
returns-then-width-le64 c =
    let own = c.args.self in
    let k = c.args.node in
    c.word.ensures
    ∙ kept_narrow (get_or own.widths.now k 0) (get_or own.narrow.now k 0) (get_or own.wide.now k 0) c.if-width-le64.true
    ∙ kept_at own.widths.now own.narrow.now own.wide.now k c.requires.narrow_room c.requires.wide_room c.if-place-self.false

pub returns : goal.returns
returns c =
    let own = c.args.self in
    let k = c.args.node in
    c.word-2.ensures
    ∙ kept_wide (get_or own.widths.now k 0) (get_or own.narrow.now k 0) (get_or own.wide.now k 0) c.if-width-le64.false
    ∙ kept_at own.widths.now own.narrow.now own.wide.now k c.requires.narrow_room c.requires.wide_room c.if-place-self.false
