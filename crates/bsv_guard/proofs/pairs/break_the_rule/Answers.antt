use Rattle.std.proofs.Common.{◌≡◌, ◌∙◌, sym, ap, refl, Bool, not, ◌&&◌, false, List, Some}
use Rattle.std.specs.Prelude.{slice_get}
use Rattle.std.proofs.lemmas.Bool.{eq-eqb}
use Rattle.std.proofs.lemmas.Option.{slice_get_read}
use Rattle.bsv_design.specs.declared.element.Call.{Call}
use Rattle.bsv_design.specs.declared.kind.Kind.{Kind}
use Rattle.bsv_design.specs.design.Branches.{apart}
use Rattle.bsv_design.specs.scheme.Relations.{may_stand}
use Rattle.bsv_guard.specs.Pairs.{breaks}
use Rattle.bsv_guard.proofs.pairs.break_the_rule.Goals as goal

-- two calls on one part that no choice sets apart break the rule where the table says so
by_table : (ks : List Kind) (c d : Call) (k : Kind) (b : Bool) → c.part ≡ d.part → apart c.branches d.branches ≡ false → slice_get ks c.part ≡ Some k
    → b ≡ may_stand (Some k) c.method d.method → not b ≡ breaks ks c d
by_table ks c d k b same apart_not at is =
    ap not is
    ∙ sym (ap (λ o. not (may_stand o c.method d.method)) at)
    ∙ sym (ap (λ b. b && not (may_stand (slice_get ks c.part) c.method d.method))
    (ap (λ e. e && not (apart c.branches d.branches)) (eq-eqb c.part d.part same) ∙ ap not apart_not))

pub returns-in-Some : goal.returns-in-Some
returns-in-Some c =
    let one = c.args.one.now in
    let other = c.args.other.now in
    let l = c.in-Some.ensures.lookup in
    let kind = slice_get_read c.args.kinds.now _ one.part c.in-Some.kind.now refl l.3.0 l.1 in
    let same = ap (λ bs. apart bs c.as_slice-else-one-other.result.now) c.as_slice.ensures ∙ ap (apart one.branches) c.as_slice-else-one-other.ensures in
    by_table c.args.kinds.now one other c.in-Some.kind.now c.may_stand.result c.if-one-other.false (sym same ∙ sym c.apart.ensures ∙ c.if-apart.false) kind c.may_stand.ensures
