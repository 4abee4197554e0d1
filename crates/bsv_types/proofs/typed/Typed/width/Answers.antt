use Rattle.std.proofs.Common.{◌∙◌, sym}
use Rattle.bsv_types.specs.Kinds.{kind}
use Rattle.bsv_types.proofs.Carried.{program_carries, is_told, is_carried, not_both}
use Rattle.bsv_types.proofs.typed.Typed.width.Goals as goal

pub unreachable-requires : goal.unreachable-requires
unreachable-requires c =
    let p = c.args.self.now in
    let carries = program_carries p.enums p.structs p.interfaces p.functions p.modules p.right in
    not_both c.counted_width.result c.requires.0 c.in-None.is (c.counted_width.ensures ∙ is_told p.enums p.structs carries (kind c.args.ty.now) c.requires)

pub returns : goal.returns
returns c =
    let p = c.args.self.now in
    let carries = program_carries p.enums p.structs p.interfaces p.functions p.modules p.right in
    is_carried p.enums p.structs c.in-Some.width carries (kind c.args.ty.now) c.requires (sym c.counted_width.ensures ∙ c.in-Some.is)
