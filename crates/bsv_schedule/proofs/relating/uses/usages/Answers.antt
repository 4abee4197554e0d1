use Rattle.std.proofs.Common.{◌≡◌, ◌++◌, ◌∷◌, [], length, map, refl, ap, subst, arith, length-append}
use Rattle.std.proofs.lemmas.Option.{slice_get_read}
use Rattle.bsv_design.specs.design.Bodies.{target}
use Rattle.bsv_schedule.specs.relating.Uses.{UseSame, used}
use Rattle.bsv_schedule.proofs.UsersLemmas.{next_new, users_more, same_more, usages_named}
use Rattle.bsv_schedule.proofs.relating.uses.usages.Goals as goal

pub uses_of-requires-clause-fresh : goal.uses_of-requires-clause-fresh
uses_of-requires-clause-fresh c =
    let long : length c.loop-element.by_element.items ≡ c.len-number.result = omega (arith, c.loop-element.by_element.ok.0) in
    next_new c.loop-element.by_element.items c.loop-element.by_part.items c.len-number.result long c.loop-element.invariant.users

pub loop-element-preserved : goal.loop-element-preserved
loop-element-preserved c =
    let uses = c.loop-element.by_element.items in
    let own = c.in_ok-uses_of.field-0 in
    let long : length uses ≡ c.len-number.result = omega (arith, c.loop-element.by_element.ok.0) in
    let more : c.push.new.self.items ≡ uses ++ own ∷ [] = c.in_ok-push.ensures.items in
    let at = slice_get_read c.args.elements.now _ c.loop-element.element-index c.element-item.result refl c.loop-element-test.true c.element-item.is in
    let same = subst (λ cs. UseSame (used own) (map target cs)) c.as_slice-calls.ensures c.in_ok-uses_of.ensures.same in
    record {
      parts = c.in_ok-uses_of.ensures.count;
      count = omega (arith, ap length more, length-append uses (own ∷ []));
      same = rw more (same_more c.args.elements.now uses c.loop-element.element-index c.element-item.result own c.loop-element.invariant.count at same c.loop-element.invariant.same);
      users = rw more (users_more uses c.loop-element.by_part.items c.uses_of.new.users.items c.len-number.result own long
          c.loop-element.invariant.users c.in_ok-uses_of.ensures.agree c.in_ok-uses_of.ensures.others);
    }

pub returns-clause-uses : goal.returns-clause-uses
returns-clause-uses c =
    let count : length c.loop-element.by_element.items ≡ length c.args.elements.now = omega arith in
    record {
      count = count;
      named = usages_named (map (λ p. p.kind) c.args.parts.now) c.args.elements.now c.loop-element.by_element.items count c.requires.named c.loop-element.invariant.same;
      same = c.loop-element.invariant.same;
    }
