use Rattle.std.proofs.Common.{◌≡◌, ◌∙◌, ap, sym}
use Rattle.std.proofs.lemmas.Nat.{or_lt}
use Rattle.bsv_bits.specs.Words.{Bits}
use Rattle.bsv_bits.proofs.word.Word.or.Goals as goal

pub invariant_of-result : goal.invariant_of-result
invariant_of-result c =
    let same : c.other.inside.width ≡ c.self.inside.width = ap (λ (b : Bits). b.width) c.other.view_is ∙ sym c.requires ∙ sym (ap (λ (b : Bits). b.width) c.self.view_is) in
    record {
      some = c.self.invariant.some;
      most = c.self.invariant.most;
      below = or_lt c.self.inside.width c.self.inside.value c.other.inside.value c.self.invariant.below (rw same at c.other.invariant.below);
    }
