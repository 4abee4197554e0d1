use Rattle.std.proofs.Common.{map, string_bytes, ap, sym, ◌∙◌, arith}
use Rattle.bsv_top.proofs.Items.{same_three, three_items}
use Rattle.bsv_top.proofs.form.planning_of.Goals as goal

pub returns-clause-form : goal.returns-clause-form
returns-clause-form c =
    let same = three_items c.args.words.now c.command-item.result c.file-item.result c.top-item.result (omega (arith, c.in-len3.len_at_least, c.in-len3.len_below)) c.command-item.is c.file-item.is c.top-item.is in
    ap (map string_bytes) same
    ∙ same_three _ _ _ _ _ _ (sym c.as_str.ensures.value ∙ c.in_ok-product.ensures.product) (sym c.as_str-2.ensures.value) (sym c.as_str-3.ensures.value)
