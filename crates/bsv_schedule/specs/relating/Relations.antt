-- What relations say of the elements of a design.
use Rattle.std.specs.Prelude.{ℕ, nat_lt, Bool, not, ◌&&◌, length, slice_get}
use Rattle.bsv_design.specs.design.Roles.{is_rule, is_value}
use Rattle.bsv_schedule.specs.declared.relating.relations.Relations.{Relations}
use Rattle.bsv_graph.specs.declared.table.Table.{Table}
use Rattle.bsv_schedule.specs.relating.Elements.{has_role}
use Rattle.bsv_schedule.specs.relating.Relating.{Relating}
use Rattle.bsv_graph.specs.Table.{side_of, at}

-- the pair is in the square, and marked
abbrev pub marked : Table → ℕ → ℕ → Bool
marked t a b = (nat_lt a (side_of t) && nat_lt b (side_of t)) && at t a b

unfoldable pub relating_of : Relations → Relating
relating_of r = record {
  count = length r.roles;
  goes = λ a b. not (marked r.clashes a b);
  feeds = marked r.feeds;
  value = λ a. has_role is_value (slice_get r.roles a);
  rule = λ a. has_role is_rule (slice_get r.roles a);
  ordering = r.ordering;
  urging = r.urging;
  preempts = marked r.preempts;
}

-- how many elements there are
abbrev pub count_of : Relations → ℕ
count_of r = (relating_of r).count
