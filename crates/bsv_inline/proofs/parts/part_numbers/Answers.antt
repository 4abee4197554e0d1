use Rattle.std.proofs.Common.{rules, ◌≡◌, ◌∷◌, ◌++◌, []}
use Rattle.bsv_inline.proofs.PartNumbers.{numbered}
use Rattle.bsv_inline.proofs.parts.part_numbers.Goals as goal

pub returns : goal.returns
returns c =
    let a : c.push-2.new.self ≡ c.loop-instance.numbers ++ c.loop-instance.count ∷ [] = search rules in
    numbered _ _ _ _ _ c.loop-instance.invariant c.in_default.ensures.cases a
