use Rattle.std.proofs.Common.{◌≡◌, ◌∙◌, IfOk, OnOk, sym, ap₂, subst, arith}
use Rattle.bsv_lemmas.proofs.Places.{mapped_at}
use Rattle.bsv_prim.specs.Shape.{Shape}
use Rattle.bsv_design.specs.declared.design.NamedPart.{NamedPart}
use Rattle.bsv_net.specs.Placing.{Placed, Wires, piece}
use Rattle.bsv_fire.specs.AtHand as hand
use Rattle.bsv_fire.proofs.Pieces.{guard_there}
use Rattle.bsv_fire.proofs.body.Pieces.guard.Goals as goal

pub returns-clause-nodes : goal.returns-clause-nodes
returns-clause-nodes c =
    let s = c.args.self in
    let k = c.in-Some.named.now.kind in
    let there = mapped_at (λ (p : NamedPart). p.kind) s.parts.now c.args.part c.in-Some.named.now (sym c.in-Some.ensures) in
    subst (λ (p : Placed). OnOk c.place.result (c.place.new.nodes ≡ p.nodes))
    (ap₂ (λ (w : Wires) (x : Shape). piece w c.args.nodes.now x) c.wires.ensures c.in_ok-piece.ensures
    ∙ sym (guard_there (hand.base s) s.ports.now c.args.part c.args.method c.args.nodes.now k there (omega (arith, c.methods.ensures))))
    c.place.ensures.nodes

pub returns-clause-place : goal.returns-clause-place
returns-clause-place c =
    let s = c.args.self in
    let k = c.in-Some.named.now.kind in
    let there = mapped_at (λ (p : NamedPart). p.kind) s.parts.now c.args.part c.in-Some.named.now (sym c.in-Some.ensures) in
    subst (λ (p : Placed). IfOk c.place.result (λ n. n ≡ p.place))
    (ap₂ (λ (w : Wires) (x : Shape). piece w c.args.nodes.now x) c.wires.ensures c.in_ok-piece.ensures
    ∙ sym (guard_there (hand.base s) s.ports.now c.args.part c.args.method c.args.nodes.now k there (omega (arith, c.methods.ensures))))
    c.place.ensures.place
