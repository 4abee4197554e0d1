-- Fronts of a piece that a sink keeps.
use Rattle.std.proofs.Common.{◌≡◌, ℕ, List, take, drop, sym}
use Rattle.std.proofs.lemmas.List.{take-append-drop}
use Rattle.bsv_io.specs.Writing.{Writing, AppendsPrefix, appended}

-- a sink that kept the first bytes of a piece has appended a prefix of it
pub AppendsPrefix-take : (n : ℕ) (bytes : List ℕ) (old new : Writing) → new.bytes ≡ (appended (take n bytes) old).bytes → AppendsPrefix bytes old new
AppendsPrefix-take n bytes old new put =
    record { front = take n bytes; prefix = record { rest = drop n bytes; joined = sym (take-append-drop n bytes) }; put = put }
