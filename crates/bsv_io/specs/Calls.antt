-- Calls that are numbered from 0, some of which are to fail.
use Rattle.std.specs.Prelude.{ℕ, ◌+◌, ◌^◌, Bool, List, if◌then◌else◌, nat_lt, nat_eq}
use Rattle.std.specs.List.{list_any}

-- the numbers of the calls that are to fail; how many calls were made
pub record CallPlan : Type 0 where
  pub failing : List ℕ
  pub made : ℕ

-- the next call is to fail
abbrev pub is_listed : CallPlan → Bool
is_listed p = list_any (λ number. nat_eq number p.made) p.failing

-- one call more was made; the count stops at 2^64, which is the number of no call that can be listed
abbrev pub called : CallPlan → CallPlan
called p = record p { made = if nat_lt p.made (2 ^ 64) then p.made + 1 else p.made }
