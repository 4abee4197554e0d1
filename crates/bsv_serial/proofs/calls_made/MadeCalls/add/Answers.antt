use Rattle.std.proofs.Common.{◌∙◌, not, ap, ℕ}
use Rattle.std.specs.Prelude.{insert}
use Rattle.std.specs.List.{prefix_len}
use Rattle.bsv_serial.specs.CallsMade.{is_later, added}
use Rattle.bsv_serial.proofs.Adding.{added_at}
use Rattle.bsv_serial.proofs.calls_made.MadeCalls.add.Goals as goal

pub returns : goal.returns
returns c =
    let call = c.args.call in
    let before = c.self.inside.calls.items in
    c.in_ok-insert.ensures.items
    ∙ ap (λ (i : ℕ). insert before i call) (c.place_among-at.ensures.value ∙ ap (prefix_len (λ d. not (is_later d call))) c.as_slice.ensures.value)
    ∙ added_at call before
    ∙ ap (added call) c.self.view_is
