use Rattle.std.proofs.Common.{◌≡◌, length, map, ap, arith}
use Rattle.bsv_design.proofs.Named.{calls_named}
use Rattle.bsv_schedule.proofs.DesignLemmas.{few_elements}
use Rattle.bsv_schedule.proofs.RelationsLemmas.{between_rows}
use Rattle.bsv_schedule.proofs.relating.rows.rows.Goals as goal

pub usages-requires-clause-named : goal.usages-requires-clause-named
usages-requires-clause-named c =
    rw c.as_slice-parts.ensures (rw c.as_slice-elements.ensures (calls_named c.args.design.now))

pub usages-requires-clause-few : goal.usages-requires-clause-few
usages-requires-clause-few c = rw c.as_slice-elements.ensures (few_elements c.args.design.now)

pub returns : goal.returns
returns c =
    let us = c.in_ok-usages.usages.by_element.items in
    let long : c.len.result ≡ length us = omega (arith, c.len.ensures, c.in_ok-usages.usages.by_element.ok.0) in
    between_rows c.args.design.now (λ w. w.items) c.rows_between.result _ _ us c.len.result
    (ap (map (λ p. p.kind)) c.as_slice-parts.ensures) c.as_slice-elements.ensures c.in_ok-usages.ensures.uses long c.rows_between.ensures
