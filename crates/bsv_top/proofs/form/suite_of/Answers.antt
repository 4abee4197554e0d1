use Rattle.std.proofs.Common.{◌≡◌, map, string_bytes, codes, ap, ◌∙◌, arith}
use Rattle.bsv_top.proofs.Items.{four_items, text_is}
use Rattle.bsv_top.proofs.form.suite_of.Goals as goal

pub returns-clause-form : goal.returns-clause-form
returns-clause-form c =
    let same = four_items c.args.words.now c.command-item.result c.file-item.result c.top-item.result c.list-item.result (omega (arith, c.in-len4.len_at_least, c.in-len4.len_below)) c.command-item.is c.file-item.is c.top-item.is c.list-item.is in
    let command : c.as_str.result.now ≡ codes "suite" = text_is c.as_str.result.now (codes "suite") c.if-ne.ensures in
    ap (map string_bytes) same ∙ cc
