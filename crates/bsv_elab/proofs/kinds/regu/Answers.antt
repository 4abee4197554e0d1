use Rattle.std.proofs.Common.{◌∙◌, sym, arith}
use Rattle.bsv_elab.proofs.MadeKinds.{regu_in, regu_out}
use Rattle.bsv_elab.proofs.kinds.regu.Goals as goal
use Rattle.bsv_elab.proofs.kinds.regu.Goals.{then-width-lt1-via-then-width-lt1, then-width-lt1-via-else-width-lt1+then-width-gt128}

pub returns-then-width-lt1 : goal.returns-then-width-lt1
returns-then-width-lt1 c =
    c.pulse.ensures ∙ sym (regu_out c.args.width (λ a b. elim c.then-width-lt1.branch [ then-width-lt1-via-then-width-lt1 w ↦ omega (arith, w.if-width-lt1.true, a) | then-width-lt1-via-else-width-lt1+then-width-gt128 w ↦ omega (arith, w.if-width-gt128.true, b) ]))

pub returns : goal.returns
returns c = sym (regu_in c.args.width _ _)
