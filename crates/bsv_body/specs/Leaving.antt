-- What a call gives that adds to the nodes so far.
use Rattle.std.specs.Prelude.{◌≡◌, Result, Ok, Err}
use Rattle.bsv_bits.specs.declared.memory.OutOfMemory.{OutOfMemory}

-- the answer and what stands then, unless memory ran out
abbrev pub Leaves : {X Y : Type 0} → Result X OutOfMemory → Y → X × Y → Type 0
Leaves (Ok x) after given = given ≡ (x, after)
Leaves (Err e) after given = Unit {0}
