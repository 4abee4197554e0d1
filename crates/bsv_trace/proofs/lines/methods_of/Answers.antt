use Rattle.std.proofs.Common.{◌∙◌, ◌≤◌, ℕ, List, map, length, take, sym, ap, subst, arith}
use Rattle.std.proofs.Math.Seq.{length-take-le}
use Rattle.bsv_design.specs.declared.element.Element.{Element}
use Rattle.bsv_design.specs.scheme.Schemes.{outline}
use Rattle.bsv_design.specs.scheme.Seen.{asking}
use Rattle.bsv_trace.specs.Reading as spec
use Rattle.bsv_trace.proofs.Methods.{asking_places, asked_fewer, asked_front}
use Rattle.bsv_trace.proofs.lines.methods_of.Goals as goal

pub slice_bounds-result-end : goal.slice_bounds-result-end
slice_bounds-result-end c =
    let below : c.len.result ≤ length c.args.elements.now = omega (arith, c.len.ensures, asked_fewer c.args.elements.now (asking c.args.requests.now) c.requires) in
    sym (length-take-le c.len.result c.args.elements.now below)

pub returns-clause-methods : goal.returns-clause-methods
returns-clause-methods c =
    ap (λ (n : ℕ). take n c.args.elements.now) c.len.ensures ∙ asked_front c.args.elements.now (asking c.args.requests.now) c.requires

pub returns-clause-places : goal.returns-clause-places
returns-clause-places c =
    let q = asking c.args.requests.now in
    subst (λ (ms : List Element). spec.HasPlaces (map outline ms) q)
    (sym (ap (λ (n : ℕ). take n c.args.elements.now) c.len.ensures ∙ asked_front c.args.elements.now q c.requires))
    (asking_places c.args.elements.now q c.requires)
