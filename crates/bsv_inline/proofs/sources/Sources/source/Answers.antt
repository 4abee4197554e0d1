use Rattle.std.proofs.Common.{◌≡◌, ◌∙◌, ℕ, ◌≤◌, sym, ap, subst, length, Option, Some}
use Rattle.std.specs.Prelude.{if◌then◌else◌, slice_get}
use Rattle.std.proofs.lemmas.Bool.{le-ltb}
use Rattle.std.proofs.lemmas.Result.{IfOk-weaker}
use Rattle.bsv_tree.specs.declared.source.Source.{Source}
use Rattle.bsv_tree.specs.tree.Contexts.{made_of}
use Rattle.bsv_tree.specs.tree.Elements.{PlacedRule, top_methods, rule_at}
use Rattle.bsv_tree.specs.carrying.Sources.{top_source, rule_source, source_at}
use Rattle.bsv_tree.specs.tree.Trees.{TreeData}
use Rattle.bsv_inline.specs.SourcesAtHand as at_hand
use Rattle.bsv_inline.proofs.sources.Sources.source.Goals as goal

-- after the methods of the top stand the rules
behind : (h : TreeData) (n : ℕ) (r : PlacedRule) (source : Option Source) → length (top_methods h) ≤ n → rule_at h.instances n ≡ Some r
    → rule_source h (Some r) ≡ source → source_at h n ≡ source
unfolding source_at
behind h n r source past at is =
    ap (λ b. if b then top_source h n (made_of (slice_get h.instances 0)) else rule_source h (rule_at h.instances n)) (le-ltb n (length (top_methods h)) past)
    ∙ ap (rule_source h) at
    ∙ is

pub returns-in-Some : goal.returns-in-Some
returns-in-Some c =
    let h = at_hand.tree c.args.self in
    let n = c.args.position in
    let r = at_hand.standing c.in-Some.placed in
    let past = subst (λ ms. length ms ≤ n) c.top_methods.ensures c.if-position-top_methods.false in
    let at = subst (λ is. rule_at is n ≡ Some r) c.as_slice.ensures (sym c.in-Some.ensures) in
    IfOk-weaker c.rule_source.result _ _ (λ source is. behind h n r (Some source) past at is) c.rule_source.ensures
