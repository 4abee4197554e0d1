use Rattle.std.proofs.Common.{rules, ◌≡◌, ◌∙◌, ℕ, ◌<◌, length, map, ap, arith, IfOk}
use Rattle.std.specs.Global.{Vec}
use Rattle.std.specs.Prelude.{Result, slice_index_or}
use Rattle.std.specs.declared.alloc.AllocError.{AllocError}
use Rattle.bsv_design.proofs.Named.{calls_named}
use Rattle.bsv_schedule.specs.declared.relating.rows.Row.{Row}
use Rattle.bsv_schedule.specs.relating.Blocks.{block_count, AreRowsOfBlock}
use Rattle.bsv_schedule.proofs.DesignLemmas.{few_elements}
use Rattle.bsv_schedule.proofs.RelationsLemmas.{block_rows}
use Rattle.bsv_schedule.proofs.relating.rows.rows_in_parallel.Goals as goal

pub usages-requires-clause-named : goal.usages-requires-clause-named
usages-requires-clause-named g c =
    rw c.as_slice-parts.ensures (rw c.as_slice-elements.ensures (calls_named c.args.design.now))

pub usages-requires-clause-few : goal.usages-requires-clause-few
usages-requires-clause-few g c = rw c.as_slice-elements.ensures (few_elements c.args.design.now)

pub returns : goal.returns
returns g c =
    let given : (k : ℕ) (r : Result (Vec Row) AllocError) → k < c.block_count-count.result
    → IfOk (slice_index_or c.in_ok-made.made.items k r) (λ v. AreRowsOfBlock (map (λ p. p.kind) c.as_slice-parts.result.now) c.in_ok-usages.usages.by_element.items k v.items)
    = λ k r h. let met = (c.in_ok-made.ensures.each k r h).1.met in search rules in
    let ks = map (λ p. p.kind) c.as_slice-parts.result.now in
    let us = c.in_ok-usages.usages.by_element.items in
    let made = c.in_ok-made.made.items in
    let as_many : length made ≡ c.block_count-count.result = omega (arith, c.in_ok-made.ensures.len, c.in_ok-made.made.ok.0) in
    let count : c.len.result ≡ length us = omega (arith, c.len.ensures, c.in_ok-usages.usages.by_element.ok.0) in
    let long : length made ≡ block_count (length us) = as_many ∙ c.block_count-count.ensures ∙ ap block_count count in
    let each : (k : ℕ) (r : Result (Vec Row) AllocError) → k < length made → IfOk (slice_index_or made k r) (λ v. AreRowsOfBlock ks us k v.items)
    = λ k r h. given k r (omega (arith, h, as_many)) in
    block_rows c.args.design.now (λ v. v.items) (λ w. w.items) c.joined.result ks c.as_slice-elements.result.now us made c.in_ok-all_made.field-0.items
    (ap (map (λ p. p.kind)) c.as_slice-parts.ensures) c.as_slice-elements.ensures c.in_ok-usages.ensures.uses long each c.in_ok-all_made.ensures c.joined.ensures
