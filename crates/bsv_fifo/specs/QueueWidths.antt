-- The pieces that several queues have are well formed.
-- Proof alone: it is in specs/ since the `laws` of an impl may cite nothing of proofs/.
use Rattle.std.proofs.Common.{◌≡◌, ℕ, zero, suc, ◌+◌, ◌<◌, ◌≤◌, refl, arith}
use Rattle.bsv_prim.specs.Registers.{always}
use Rattle.bsv_prim.specs.Widths.{HasWidth}
use Rattle.bsv_fifo.specs.Queues.{count_width, queue_register_width}
use Rattle.bsv_fifo.specs.QueueTable.{QueueRow, queue_table, count, number, has_room, has_item, newest_item}
use Rattle.bsv_fifo.specs.CountWidth.{depth_fits, some_count_width, few_count_width}

module _ (row : QueueRow) (some : 1 ≤ row.depth) (most : row.depth ≤ 64) where
  pub always_has : HasWidth (queue_table row) always 1
  always_has = (record { some = omega arith; most = omega arith; below = omega arith }, refl)

  pub number_has : (n : ℕ) → n ≤ row.depth → HasWidth (queue_table row) (number row.depth n) (count_width row.depth)
  number_has n h =
      let fits = depth_fits row.depth most in
      let few = few_count_width row.depth most in
      (record { some = some_count_width row.depth; most = omega arith; below = omega arith }, refl)

  pub count_has : HasWidth (queue_table row) count (count_width row.depth)
  count_has = (omega arith, refl)

  pub room_has : HasWidth (queue_table row) (has_room row.depth) 1
  room_has = (count_width row.depth, count_width row.depth, count_has, number_has row.depth (omega arith), refl, refl)

  pub item_has : HasWidth (queue_table row) (has_item row.depth) 1
  item_has = (count_width row.depth, count_width row.depth, number_has 0 (omega arith), count_has, refl, refl)

  -- the register of a place
  pub place_has : (r : ℕ) → 0 < r → r < row.depth + 1 → (r < row.depth + 1) × (row.width ≡ queue_register_width row.width row.depth r)
  place_has zero h l = absurd (omega arith)
  place_has (suc i) h l = (l, refl)

  pub newest_has : HasWidth (queue_table row) newest_item row.width
  newest_has = ((omega arith, refl), (omega arith, omega arith, refl), (omega arith, refl))
