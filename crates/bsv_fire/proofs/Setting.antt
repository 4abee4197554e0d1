-- Lists in which one item is set.
use Rattle.std.proofs.Common.{◌≡◌, ◌≢◌, ◌<◌, ℕ, zero, suc, List, Some, sym, ap, length}
use Rattle.std.specs.Prelude.{slice_get, slice_set, replicate}
use Rattle.bsv_lemmas.proofs.Places.{set_there, set_elsewhere}
use Rattle.bsv_net.specs.Placing.{node_at, or_first}

pub node_there : (xs : List ℕ) (i x : ℕ) → i < length xs → node_at (slice_set xs i x) i ≡ x
node_there xs i x l = ap or_first (set_there xs i x l)

pub node_elsewhere : (xs : List ℕ) (j i x : ℕ) → j ≢ i → node_at (slice_set xs j x) i ≡ node_at xs i
node_elsewhere xs j i x o = ap or_first (set_elsewhere xs j i x o)

-- what is in a list that repeats one item is that item
pub in_replicate : {X : Type 0} (k n : ℕ) (x y : X) → slice_get (replicate k x) n ≡ Some y → y ≡ x
in_replicate zero n x y e = absurd (let f : ⊥ = cc in f)
in_replicate (suc k) zero x y e = let same : x ≡ y = cc in sym same
in_replicate (suc k) (suc n) x y e = in_replicate k n x y e
