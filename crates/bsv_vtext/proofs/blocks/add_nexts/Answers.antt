use Rattle.std.proofs.Common.{◌∙◌, ◌∷◌, List, ap}
use Rattle.bsv_io.proofs.Adding.{going_on, going_failed, going_text}
use Rattle.bsv_vtext.specs.declared.tree.VRegister.{VRegister}
use Rattle.bsv_vtext.specs.declared.tree.Atom.{Atom}
use Rattle.bsv_vtext.specs.VText as spec
use Rattle.bsv_vtext.specs.AtHand as hand
use Rattle.bsv_vtext.proofs.blocks.add_nexts.Goals as goal

pub returns-in_err-add_next : goal.returns-in_err-add_next
returns-in_err-add_next g c =
    let all = hand.scope c.args.scope in
    let both = ap (λ (l : List VRegister). spec.next_lines all l c.loop-register.held.now) c.in-Some.ensures.cases.0
    ∙ ap (λ (l : List Atom). spec.next_lines all (c.in-Some.register.now ∷ c.in-Some.others.now) l) c.in-Some-split_first.ensures.cases.0 in
    going_failed (spec.next_lines all c.in-Some.others.now c.in-Some-split_first.more.now) c.from_residual.result c.from_residual.ensures.0
    (going_text both c.loop-register.invariant) c.in_err-add_next.ensures

pub loop-register-preserved : goal.loop-register-preserved
loop-register-preserved g c =
    let all = hand.scope c.args.scope in
    let both = ap (λ (l : List VRegister). spec.next_lines all l c.loop-register.held.now) c.in-Some.ensures.cases.0
    ∙ ap (λ (l : List Atom). spec.next_lines all (c.in-Some.register.now ∷ c.in-Some.others.now) l) c.in-Some-split_first.ensures.cases.0 in
    going_on (spec.next_lines all c.in-Some.others.now c.in-Some-split_first.more.now)
    (going_text both c.loop-register.invariant) c.in_ok-add_next.ensures
