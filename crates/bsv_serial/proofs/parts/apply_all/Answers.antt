use Rattle.std.proofs.Common.{◌≡◌, ◌∙◌, ◌<◌, ◌≤◌, length, get_or, refl, sym, ap, ap₂, subst, arith}
use Rattle.std.proofs.lemmas.Option.{slice_get_read}
use Rattle.bsv_prim.specs.declared.part.Part.{Part}
use Rattle.bsv_design.specs.declared.design.NamedPart.{NamedPart}
use Rattle.bsv_serial.specs.Applying.{CanTake, behind}
use Rattle.bsv_serial.specs.AtHand.{kinds}
use Rattle.bsv_serial.proofs.Applied.{kind_at_part, calls_within, can_here, can_more, ends_more, ends_all}
use Rattle.bsv_serial.proofs.parts.apply_all.Goals as goal

pub bounds-calls_made-at : goal.bounds-calls_made-at
bounds-calls_made-at c =
    let l = c.loop-at in
    calls_within (kinds c.args.parts.now) l.state c.args.calls_made.now l.at l.invariant.can (omega arith)

pub apply-requires : goal.apply-requires
apply-requires c =
    let l = c.loop-at in
    let ks = kinds c.args.parts.now in
    let named = c.index-parts-at.result in
    let part = c.index-state-at.result in
    let calls = c.index-calls_made-at.result in
    let within : l.at < length l.state = omega arith in
    let at_k = kind_at_part c.args.parts.now l.state c.args.calls_made.now l.at l.invariant.can within named c.index-parts-at.is in
    let at_p = slice_get_read l.state _ l.at part refl within c.index-state-at.is in
    let at_cs = slice_get_read c.args.calls_made.now _ l.at calls refl (calls_within ks l.state c.args.calls_made.now l.at l.invariant.can within) c.index-calls_made-at.is in
    let can = can_here ks l.state c.args.calls_made.now l.at l.invariant.can within named.kind part calls at_k at_p at_cs in
    subst (λ (n : NamedPart). CanTake n.kind (get_or l.state l.at part) c.as_slice.result.now) c.index-parts-at.is
    (subst (λ (p : Part). CanTake named.kind p c.as_slice.result.now) c.index-state-at.is
    (subst (CanTake named.kind part) (sym c.as_slice.ensures) can))

pub loop-at-preserved : goal.loop-at-preserved
loop-at-preserved c =
    let l = c.loop-at in
    let ks = kinds c.args.parts.now in
    let named = c.index-parts-at.result in
    let part = c.index-state-at.result in
    let calls = c.index-calls_made-at.result in
    let within : l.at < length l.state = omega arith in
    let at_k = kind_at_part c.args.parts.now l.state c.args.calls_made.now l.at l.invariant.can within named c.index-parts-at.is in
    let at_p = slice_get_read l.state _ l.at part refl within c.index-state-at.is in
    let at_cs = slice_get_read c.args.calls_made.now _ l.at calls refl (calls_within ks l.state c.args.calls_made.now l.at l.invariant.can within) c.index-calls_made-at.is in
    let gives : c.apply.new.part ≡ behind named.kind part calls =
    c.apply.ensures
    ∙ ap (λ (n : NamedPart). behind n.kind (get_or l.state l.at part) c.as_slice.result.now) (sym c.index-parts-at.is)
    ∙ ap₂ (behind named.kind) (sym c.index-state-at.is) c.as_slice.ensures in
    record {
      can = can_more ks l.state c.args.calls_made.now l.at l.invariant.can within named.kind part calls at_k at_p at_cs c.apply.new.part;
      ends = ends_more ks l.state c.args.calls_made.now l.at l.invariant.can within named.kind part calls at_k at_p at_cs c.apply.new.part gives ∙ l.invariant.ends;
    }

pub returns : goal.returns
returns c =
    let l = c.loop-at in
    let past : length l.state ≤ l.at = omega arith in
    ends_all (kinds c.args.parts.now) l.state c.args.calls_made.now l.at past ∙ l.invariant.ends
