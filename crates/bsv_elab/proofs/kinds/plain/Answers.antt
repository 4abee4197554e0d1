use Rattle.std.proofs.Common.{◌∙◌, sym, arith}
use Rattle.bsv_elab.proofs.MadeKinds.{plain_in, plain_out}
use Rattle.bsv_elab.proofs.kinds.plain.Goals as goal
use Rattle.bsv_elab.proofs.kinds.plain.Goals.{then-width-lt1-via-then-width-lt1, then-width-lt1-via-else-width-lt1+then-width-gt128, then-width-lt1-via-else-width-lt1+else-width-gt128+then-depth-lt1, then-width-lt1-via-else-width-lt1+else-width-gt128+else-depth-lt1+then-depth-gt64}

pub returns-then-width-lt1 : goal.returns-then-width-lt1
returns-then-width-lt1 c =
    c.pulse.ensures ∙ sym (plain_out c.args.width c.args.depth (λ a b d e. elim c.then-width-lt1.branch [
      | then-width-lt1-via-then-width-lt1 w ↦ omega (arith, w.if-width-lt1.true, a)
      | then-width-lt1-via-else-width-lt1+then-width-gt128 w ↦ omega (arith, w.if-width-gt128.true, b)
      | then-width-lt1-via-else-width-lt1+else-width-gt128+then-depth-lt1 w ↦ omega (arith, w.if-depth-lt1.true, d)
      | then-width-lt1-via-else-width-lt1+else-width-gt128+else-depth-lt1+then-depth-gt64 w ↦ omega (arith, w.if-depth-gt64.true, e)
    ]))

pub returns : goal.returns
returns c = sym (plain_in c.args.width c.args.depth _ _ _ _)
