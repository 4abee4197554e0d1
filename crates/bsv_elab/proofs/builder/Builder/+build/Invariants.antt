use Rattle.std.proofs.Common.{◌≡◌, ◌≤◌, ◌+◌, ◌-◌, ◌*◌, length}
use Rattle.bsv_elab.specs.AtHand as spec
use Rattle.bsv_elab.proofs.Sizes.{left, stmt_size, stmts_size, branches_size, last_size, module_size, modules_size}
use Rattle.bsv_elab.proofs.builder.Builder.+build.Given as goal

-- ---- the modules in modules that are left, then the size of what is carried out, then the rank of the function

abbrev pub decreases-own_body : goal.decreases-own_body
decreases-own_body l = left l.self + 16 * module_size l.«module».now + 6

abbrev pub decreases-body_of : goal.decreases-body_of
decreases-body_of l = left l.self + 16 * module_size l.«module».now + 7

abbrev pub decreases-body : goal.decreases-body
decreases-body l = left l.self + 16 * modules_size l.self.typed.now.modules + 8

abbrev pub decreases-inner_body : goal.decreases-inner_body
decreases-inner_body l = left l.self

abbrev pub decreases-child : goal.decreases-child
decreases-child l = left l.self + 3

abbrev pub decreases-named_child : goal.decreases-named_child
decreases-named_child l = left l.self + 2

abbrev pub decreases-numbered_child : goal.decreases-numbered_child
decreases-numbered_child l = left l.self + 1

abbrev pub decreases-made_by : goal.decreases-made_by
decreases-made_by l = left l.self + 4

abbrev pub decreases-make : goal.decreases-make
decreases-make l = left l.self + 5

abbrev pub decreases-one_instance : goal.decreases-one_instance
decreases-one_instance l = left l.self + 6

abbrev pub decreases-place_from : goal.decreases-place_from
decreases-place_from l = left l.self + 7

abbrev pub decreases-placed_from : goal.decreases-placed_from
decreases-placed_from l = left l.self + 6

abbrev pub decreases-one_place : goal.decreases-one_place
decreases-one_place l = left l.self + 8

abbrev pub decreases-run : goal.decreases-run
decreases-run l = left l.self + 16 * stmts_size l.stmts.now + 5

abbrev pub decreases-block : goal.decreases-block
decreases-block l = left l.self + 16 * stmts_size l.stmts.now + 6

abbrev pub decreases-stmt : goal.decreases-stmt
decreases-stmt l = left l.self + 16 * stmt_size l.stmt.now + 4

abbrev pub decreases-arm : goal.decreases-arm
decreases-arm l = left l.self + 16 * stmt_size l.stmt.now + 5

abbrev pub decreases-otherwise : goal.decreases-otherwise
decreases-otherwise l = left l.self + 16 * last_size l.last.now + 6

abbrev pub decreases-chain : goal.decreases-chain
decreases-chain l = left l.self + 16 * (branches_size l.branches.now + last_size l.last.now) + 8

abbrev pub decreases-turn : goal.decreases-turn
decreases-turn l = left l.self + 16 * stmt_size l.stmt.now + 6

abbrev pub decreases-turns : goal.decreases-turns
decreases-turns l = left l.self + 16 * stmt_size l.stmt.now + 7

abbrev pub decreases-first_and_turns : goal.decreases-first_and_turns
decreases-first_and_turns l = left l.self + 16 * stmt_size l.stmt.now + 8

abbrev pub decreases-looped : goal.decreases-looped
decreases-looped l = left l.self + 16 * stmt_size l.stmt.now + 9

-- ---- loops

abbrev pub decreases-run-loop-stmt : goal.decreases-run-loop-stmt
decreases-run-loop-stmt l = length l.rest

abbrev pub invariant-run-loop-stmt : goal.invariant-run-loop-stmt
invariant-run-loop-stmt l = record {
  same : spec.run l.self l.stmts l.fn.state ≡ spec.run l.self l.rest l.state;
  within : stmts_size l.rest ≤ stmts_size l.stmts;
}

abbrev pub decreases-chain-loop-branch : goal.decreases-chain-loop-branch
decreases-chain-loop-branch l = length l.rest

abbrev pub invariant-chain-loop-branch : goal.invariant-chain-loop-branch
invariant-chain-loop-branch l = record {
  same : spec.chain l.self l.last l.branches l.fn.state ≡ spec.chain l.self l.last l.rest l.state;
  within : branches_size l.rest ≤ branches_size l.branches;
}

abbrev pub invariant-turns-loop-turn : goal.invariant-turns-loop-turn
invariant-turns-loop-turn l = spec.turns l.self 4096 l.head l.stmt l.fn.state ≡ spec.turns l.self (4096 - l._turn) l.head l.stmt l.state
