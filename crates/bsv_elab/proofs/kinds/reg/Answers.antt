use Rattle.std.proofs.Common.{◌∙◌, sym, arith}
use Rattle.bsv_elab.proofs.MadeKinds.{reg_in, reg_out}
use Rattle.bsv_elab.proofs.kinds.reg.Goals as goal
use Rattle.bsv_elab.proofs.kinds.reg.Goals.{then-width-lt1-via-then-width-lt1, then-width-lt1-via-else-width-lt1+then-width-gt128}

pub returns-then-width-lt1 : goal.returns-then-width-lt1
returns-then-width-lt1 c =
    c.pulse.ensures ∙ sym (reg_out c.args.width (λ a b. elim c.then-width-lt1.branch [ then-width-lt1-via-then-width-lt1 w ↦ omega (arith, w.if-width-lt1.true, a) | then-width-lt1-via-else-width-lt1+then-width-gt128 w ↦ omega (arith, w.if-width-gt128.true, b) ]) c.args.start)

pub returns : goal.returns
returns c = reg_in c.args.width c.args.start _ _ c.or_zero-start.ensures (omega (arith, c.if-width-lt1.false)) (omega (arith, c.if-width-gt128.false))
