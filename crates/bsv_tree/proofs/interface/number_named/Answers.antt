use Rattle.std.proofs.Common.{◌≡◌, ◌∙◌, ◌+◌, drop, ap, sym, cond, Some, false}
use Rattle.std.specs.Str.{bytes_eq}
use Rattle.bsv_lemmas.proofs.Places.{drop_one}
use Rattle.bsv_tree.specs.tree.Methods.{number_from}
use Rattle.bsv_design.specs.parts.MethodNames.{method_names}
use Rattle.bsv_tree.proofs.interface.number_named.Goals as goal

pub loop-number-preserved : goal.loop-number-preserved
loop-number-preserved c =
    let differs : bytes_eq c.method_name.result.now c.args.name.now ≡ false =
    ap (λ n. bytes_eq n c.args.name.now) (sym c.as_bytes.ensures.value)
    ∙ ap (λ n. bytes_eq c.as_bytes.result.now n) (sym c.as_bytes-in-loop-number.ensures.value)
    ∙ sym c.eq.ensures ∙ c.if-eq.false in
    c.loop-number.invariant
    ∙ ap (number_from c.loop-number.number c.args.name.now) (drop_one (method_names c.args.kind) c.loop-number.number c.method_name.result.now c.method_name.ensures)
    ∙ ap (λ b. cond b (Some c.loop-number.number) (number_from (c.loop-number.number + 1) c.args.name.now (drop (c.loop-number.number + 1) (method_names c.args.kind)))) differs
