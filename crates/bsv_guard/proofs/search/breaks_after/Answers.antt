use Rattle.std.proofs.Common.{◌≡◌, ◌∙◌, sym, ◌+◌, ◌≤◌, ℕ, refl, subst, arith}
use Rattle.std.proofs.lemmas.Option.{slice_get_read}
use Rattle.bsv_guard.specs.Pairs.{NoneAmong}
use Rattle.bsv_guard.proofs.Searching.{named_at, method_within, not_among}
use Rattle.bsv_guard.proofs.Spreading.{free_of}
use Rattle.bsv_guard.proofs.search.breaks_after.Goals as goal
use Rattle.bsv_guard.proofs.search.breaks_after.Goals.{else-not-is_free-via-then-not-is_free+else-breaks_among, else-not-is_free-via-else-not-is_free}

more : (m n : ℕ) → m ≤ n → (n ≡ m → ⊥) → m + 1 ≤ n
more m n le ne = omega arith

pub loop-method-preserved : goal.loop-method-preserved
loop-method-preserved c =
    let ks = c.args.kinds.now in
    let one = c.args.one.now in
    let l = c.in-Some.ensures.lookup in
    let kind = slice_get_read ks _ one.part c.in-Some.kind.now refl l.3.0 l.1 in
    λ j d at behind broken. more c.loop-method.method d.method (c.loop-method.invariant j d at behind broken)
    (elim c.else-not-is_free.branch [
      | else-not-is_free-via-then-not-is_free+else-breaks_among w ↦
          not_among ks c.args.calls.now c.args.groups.now c.args.earlier j one d c.loop-method.method c.requires.grouped
          (subst (NoneAmong ks c.args.calls.now c.args.earlier one) w.group_of.ensures (w.breaks_among.ensures w.if-breaks_among.false))
          at behind broken
      | else-not-is_free-via-else-not-is_free w ↦
          free_of ks c.args.calls.now c.args.groups.now c.args.spread.now c.args.earlier j one d c.in-Some.kind.now c.loop-method.method
          c.requires.grouped c.requires.spread c.requires.some c.requires.at at behind kind broken (sym c.is_free.ensures ∙ w.if-not-is_free.false)
    ])

pub returns : goal.returns
returns c =
    let ks = c.args.kinds.now in
    let one = c.args.one.now in
    let l = c.in-Some.ensures.lookup in
    let kind = slice_get_read ks _ one.part c.in-Some.kind.now refl l.3.0 l.1 in
    λ same j d at behind broken.
    let inside = method_within ks one d c.in-Some.kind.now kind broken (named_at ks c.args.calls.now j d c.requires.named at) in
    let least : c.loop-method.method ≤ d.method = c.loop-method.invariant j d at behind broken in
    omega (arith, c.methods-method-end.ensures, c.loop-method-test.false, inside)
