use Rattle.std.proofs.Common.{ap, ◌∙◌}
use Rattle.std.proofs.lemmas.Result.{IfOk-weaker}
use Rattle.bsv_top.specs.Made.{made_text, text_with}
use Rattle.bsv_top.proofs.made.made_source.Goals as goal

pub returns : goal.returns
unfolding made_text text_with
returns c = IfOk-weaker c.join.result _ _ (λ source h. h ∙ ap text_with (c.as_bytes-size.ensures.value ∙ c.format.ensures.text)) c.join.ensures
