use Rattle.std.proofs.Common.{◌∙◌, Some, ap, sym}
use Rattle.bsv_inline.proofs.Designed.{designed, is_alike}
use Rattle.bsv_inline.proofs.designs.design_of.Goals as goal

pub new-requires : goal.new-requires
new-requires c =
    designed c.args.tree.now c.in_ok-name.name c.args.elements c.args.parts c.in_ok-pairs.pairs c.in_ok-asserts.asserts
    c.requires.laid c.requires.count c.requires.elements c.requires.few c.in_ok-name.ensures c.requires.parts
    (c.in_ok-pairs.ensures ∙ c.as_slice.ensures) (c.in_ok-asserts.ensures ∙ c.as_slice-2.ensures)

pub returns-clause-alike : goal.returns-clause-alike
returns-clause-alike c =
    is_alike c.args.tree.now c.new.result c.args.elements c.args.parts c.in_ok-pairs.pairs c.in_ok-asserts.asserts
    c.requires.laid c.requires.count c.requires.parts (c.in_ok-pairs.ensures ∙ c.as_slice.ensures) (c.in_ok-asserts.ensures ∙ c.as_slice-2.ensures)
    c.new.ensures.elements c.new.ensures.parts c.new.ensures.pairs c.new.ensures.asserts

pub returns-clause-name : goal.returns-clause-name
returns-clause-name c = c.in_ok-name.ensures ∙ ap Some (sym c.new.ensures.name)

pub returns-clause-parts : goal.returns-clause-parts
returns-clause-parts c = c.new.ensures.parts ∙ c.requires.parts
