use Rattle.std.proofs.Common.{◌≡◌, ◌+◌, ◌≤◌, length, map, subst, sym, arith}
use Rattle.bsv_schedule.specs.relating.Blocks.{block_count, block_start}
use Rattle.bsv_schedule.proofs.BlockLemmas.{block_between, starts_within}
use Rattle.bsv_schedule.proofs.relating.rows.rows_of_block.Goals as goal

pub rows_between-requires-clause-within : goal.rows_between-requires-clause-within
rows_between-requires-clause-within g c =
    let us = c.args.usages.now.by_element.items in
    let count = c.len-count.result in
    let next = c.args.block + 1 in
    let long : count ≡ length us = omega (arith, c.len-count.ensures, c.args.usages.now.by_element.ok.0) in
    let below : next ≤ block_count count = omega (arith, c.requires.block, long) in
    subst (λ start. start ≤ length us) (sym c.block_start-to.ensures)
    (subst (λ n. block_start count next ≤ n) long (starts_within count next below))

pub returns : goal.returns
returns g c =
    let us = c.args.usages.now.by_element.items in
    let long : c.len-count.result ≡ length us = omega (arith, c.len-count.ensures, c.args.usages.now.by_element.ok.0) in
    block_between (map (λ p. p.kind) c.args.parts.now) us (λ rows. rows.items) c.rows_between.result c.len-count.result c.args.block c.block_start-from.result c.block_start-to.result
    long c.block_start-from.ensures c.block_start-to.ensures c.rows_between.ensures
