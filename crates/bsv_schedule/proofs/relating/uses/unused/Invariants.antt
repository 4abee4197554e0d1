use Rattle.std.proofs.Common.{◌≡◌, ℕ, [], vec_len}
use Rattle.bsv_schedule.specs.relating.Users.{users_at}
use Rattle.bsv_schedule.proofs.relating.uses.unused.Given as goal

abbrev pub invariant-loop : goal.invariant-loop
invariant-loop l = record { count : vec_len l.users ≡ l.counter; none : (part : ℕ) → users_at l.users.items part ≡ [] }
