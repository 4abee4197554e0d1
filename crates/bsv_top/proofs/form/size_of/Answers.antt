use Rattle.std.proofs.Common.{◌≡◌, ℕ, Option, None, Some, IfSome, map, string_bytes, codes, sym, ap, ◌∙◌, arith}
use Rattle.bsv_top.proofs.Items.{same_two, two_items, text_is}
use Rattle.bsv_top.proofs.form.size_of.Goals as goal

weaker : (o : Option ℕ) (P Q : ℕ → Type 0) → ((n : ℕ) → P n → Q n) → IfSome o P → IfSome o Q
weaker None P Q f h = tt
weaker (Some n) P Q f h = f n h

pub returns-clause-size : goal.returns-clause-size
returns-clause-size c =
    let same = two_items c.args.words.now c.command-item.result c.size-item.result (omega (arith, c.in-len2.len_at_least, c.in-len2.len_below)) c.command-item.is c.size-item.is in
    let command : c.as_str.result.now ≡ codes "made" = text_is c.as_str.result.now (codes "made") c.if-ne.ensures in
    weaker c.size_said.result _ _
    (λ n h. (ap (map string_bytes) same ∙ same_two _ _ _ _ (sym c.as_str.ensures.value ∙ command) (sym c.as_str-2.ensures.value ∙ h.0), h.1, h.2)) c.size_said.ensures.size
