use Rattle.std.proofs.Common.{◌∙◌, ◌++◌, ◌∷◌, [], ap}
use Rattle.bsv_tests.proofs.SampleDesign.{sample}
use Rattle.bsv_tests.proofs.states.design.Goals as goal

pub new-design-requires : goal.new-design-requires
new-design-requires c =
    let rule = c.in_ok-reading.field-0 in
    let part = c.in_ok-wire.field-0 in
    ∣ sample c.in_ok-name.name part c.push.new.self c.push-2.new.self _ _ c.in_ok-name.ensures
    c.in_ok-wire.ensures.path c.in_ok-wire.ensures.methods c.in_ok-wire.ensures.arity
    (c.in_ok-push.ensures.ok ∙ (ap (λ xs. xs ++ rule ∷ []) c.new-elements.ensures ∙ ap (λ e. e ∷ []) c.in_ok-reading.ensures))
    (c.in_ok-push-2.ensures.ok ∙ ap (λ xs. xs ++ part ∷ []) c.new-parts.ensures) c.new-2.ensures c.new-3.ensures ∣₁
