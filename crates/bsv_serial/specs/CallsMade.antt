-- The calls that are made on one part, in the order in which they take effect.
use Rattle.std.specs.Prelude.{◌==◌, nat_lt, Bool, ◌&&◌, ◌||◌, List, [], ◌∷◌, map, if◌then◌else◌}
use Rattle.bsv_prim.specs.Table.{Call}
use Rattle.bsv_serial.specs.declared.calls_made.MadeCall.{MadeCall}

-- the first call takes effect after the second one: its element does, or its rank in the same element is higher
abbrev pub is_later : MadeCall → MadeCall → Bool
is_later d c = nat_lt c.place d.place || ((c.place == d.place) && nat_lt c.rank d.rank)

-- in front of the first that takes effect after it
unfoldable pub added : MadeCall → List MadeCall → List MadeCall
added c [] = c ∷ []
added c (d ∷ ds) = if is_later d c then c ∷ d ∷ ds else d ∷ added c ds

-- the call as its part knows it
abbrev pub as_call : MadeCall → Call
as_call c = record { method = c.method; args = c.args }

abbrev pub as_calls : List MadeCall → List Call
as_calls cs = map as_call cs
