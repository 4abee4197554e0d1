use Rattle.std.proofs.Common.{◌≡◌, ◌∙◌, ◌+◌, ◌++◌, ◌∷◌, [], take, map, length, sym, ap, subst, arith}
use Rattle.std.proofs.lemmas.List.{take_more, length-map}
use Rattle.bsv_design.specs.design.Bodies.{target}
use Rattle.bsv_design.specs.design.Widths.{call_named}
use Rattle.bsv_schedule.specs.relating.Users.{AreUsesOf}
use Rattle.bsv_schedule.specs.relating.Uses.{UseSame, used}
use Rattle.bsv_schedule.proofs.UsersLemmas.{others_then, none_of_new, others_same}
use Rattle.bsv_schedule.proofs.UsesLemmas.{noted_same, named_part, all_has, among_at}
use Rattle.bsv_schedule.proofs.relating.uses.uses_of.Goals as goal

pub note-requires-clause-part : goal.note-requires-clause-part
note-requires-clause-part c =
    let ks = map (λ p. p.kind) c.args.parts.now in
    let h = all_has (call_named ks) c.args.calls.now c.call-item.result c.requires.named
    (among_at c.args.calls.now c.loop-call.call-index c.call-item.result c.loop-call-test.true c.call-item.is) in
    let l = named_part ks c.call-item.result.part c.call-item.result.method h in
    let e : length ks ≡ length c.args.parts.now = length-map _ _ in
    omega (arith, l, e, c.loop-call.invariant.count)

pub loop-call-init : goal.loop-call-init
loop-call-init c = record {
  count = c.requires.count;
  same = rw c.new-uses.ensures (λ t. (λ h. h, λ h. h));
  agree = subst (AreUsesOf c.args.users.now.items c.args.element) (sym c.new-uses.ensures) (none_of_new c.args.users.now.items c.args.element c.requires.fresh);
  others = others_same c.args.element c.args.users.now.items;
}

pub loop-call-preserved : goal.loop-call-preserved
loop-call-preserved c =
    let i = c.loop-call.call-index in
    let t : take (i + 1) c.args.calls.now ≡ take i c.args.calls.now ++ c.call-item.result ∷ [] =
    take_more c.args.calls.now i c.call-item.result c.loop-call-test.true ∙ ap (λ x. take i c.args.calls.now ++ x ∷ []) (sym c.call-item.is) in
    record {
      count = c.in_ok-note.ensures.count ∙ c.loop-call.invariant.count;
      same = subst (λ cs. UseSame (used c.note.new.uses) (map target cs)) (sym t)
          (noted_same c.loop-call.uses c.note.new.uses (take i c.args.calls.now) c.call-item.result c.loop-call.invariant.same c.in_ok-note.ensures.noted);
      agree = c.in_ok-note.ensures.agree;
      others = others_then c.args.element c.args.users.now.items c.loop-call.users.items c.note.new.users.items c.loop-call.invariant.others c.in_ok-note.ensures.others;
    }
