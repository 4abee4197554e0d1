-- Which methods a piece speaks of.
use Rattle.std.specs.Prelude.{ℕ}
use Rattle.bsv_prim.specs.Shape.{Shape, Given, IsCalled, ArgumentOf, Fixed, Inverted, Both, Chosen, Cut, Joined, Extended}

-- a piece says of these methods alone whether they are called, and takes the arguments of those alone
abbrev pub SpeaksOf : (ℕ → Type 0) → (ℕ → Type 0) → Shape → Type 0
SpeaksOf Calls Arguments (Given n) = Unit {0}
SpeaksOf Calls Arguments (IsCalled m) = Calls m
SpeaksOf Calls Arguments (ArgumentOf m k) = Arguments m
SpeaksOf Calls Arguments (Fixed w) = Unit {0}
SpeaksOf Calls Arguments (Inverted a) = SpeaksOf Calls Arguments a
SpeaksOf Calls Arguments (Both o a b) = SpeaksOf Calls Arguments a × SpeaksOf Calls Arguments b
SpeaksOf Calls Arguments (Chosen c a b) = SpeaksOf Calls Arguments c × SpeaksOf Calls Arguments a × SpeaksOf Calls Arguments b
SpeaksOf Calls Arguments (Cut a high low) = SpeaksOf Calls Arguments a
SpeaksOf Calls Arguments (Joined a b) = SpeaksOf Calls Arguments a × SpeaksOf Calls Arguments b
SpeaksOf Calls Arguments (Extended a width) = SpeaksOf Calls Arguments a
