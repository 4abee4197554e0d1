use Rattle.std.proofs.Common.{ap, ◌≤◌, ◌≡◌, arith}
use Rattle.bsv_bits.specs.Words.{Bits}
use Rattle.bsv_bits.proofs.Modulo.{IsWord-extend}
use Rattle.bsv_bits.proofs.word.Word.extend.Goals as goal

pub invariant_of-result : goal.invariant_of-result
invariant_of-result c =
    let e : c.self.inside.width ≡ c.args.self.width = ap (λ (b : Bits). b.width) c.self.view_is in
    let h : c.self.inside.width ≤ c.args.width = omega (arith, c.requires.wider) in
    IsWord-extend _ _ _ c.self.invariant h c.requires.most
