use Rattle.std.proofs.Common.{ℕ, ◌≡◌, List, length}
use Rattle.std.specs.Option.{option_or}
use Rattle.bsv_types.specs.Named.{place_of}
use Rattle.bsv_types.proofs.FirstPlaces.{finds}
use Rattle.bsv_types.proofs.methods.first_places.Given as goal

abbrev pub decreases-loop-last : goal.decreases-loop-last
decreases-loop-last l = length l.rest

abbrev pub invariant-loop-last : goal.invariant-loop-last
invariant-loop-last l = (name : List ℕ) → option_or (place_of name l.rest) (finds (λ key. key.items) name l.places.entries) ≡ place_of name l.headers
