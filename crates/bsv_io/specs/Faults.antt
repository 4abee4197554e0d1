-- Counts of faults. A count never falls, and a call that succeeds leaves it as it was.
use Rattle.std.specs.Prelude.{◌≡◌, ℕ, ◌<◌, ◌-◌, ◌^◌, ◌⊎◌}

-- the last value of a count, at which it can rise no more
abbrev pub last_count : ℕ
last_count = 2 ^ 64 - 1

-- a call that found the one count and left the other may have failed: the count rose, or it can rise no more
abbrev pub MayFault : ℕ → ℕ → Type 0
MayFault old new = (old < new) ⊎ (new ≡ last_count)
