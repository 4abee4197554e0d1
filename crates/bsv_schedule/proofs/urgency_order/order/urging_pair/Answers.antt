use Rattle.std.proofs.Common.{◌≡◌, rules, tests, Option, Some, None, refl, ◌∙◌, sym}
use Rattle.std.proofs.lemmas.Iterator.{YieldsList-from_slice}
use Rattle.std.proofs.lemmas.Iterator.Consumers.{YieldsList-at, nth_from_yields_List, YieldsList-from_copied, YieldsList-from_filter}
use Rattle.std.specs.Option.{option_map}
use Rattle.bsv_design.specs.declared.attributes.Pair.{Pair}
use Rattle.bsv_schedule.proofs.urgency_order.order.urging_pair.Goals as goal

map_same : (p : Option Pair) → option_map (λ x. x) p ≡ p
map_same None = refl
map_same (Some p) = refl

pub returns : goal.returns
returns c =
    sym (map_same c.nth.result)
    ∙ nth_from_yields_List c.nth.result _ c.args.place c.nth.ensures.ran
    (YieldsList-from_copied (YieldsList-at c.copied.ensures.source (YieldsList-from_filter _ _ (YieldsList-from_slice c.args.pairs.now cc) c.filter.ensures.closure (λ x r q k. search (rules, tests)))))
