-- A net without repeats names a node for each result where the net before does.
use Rattle.std.proofs.Common.{◌≡◌, ◌<◌, ℕ, length, Option, None, Some, refl}
use Rattle.std.specs.Prelude.{slice_get}
use Rattle.bsv_design.specs.scheme.Schemes.{Scheme}
use Rattle.bsv_net.specs.declared.net_data.NetData.{NetData}
use Rattle.bsv_net.specs.ShowsByNet.{NamesResults}
use Rattle.bsv_share.specs.Sharing.{NamesSame, StaysNamed}

named : (c d : NetData) (n k : ℕ) (x : Option ℕ) → slice_get d.results n ≡ x → StaysNamed c d k x → k < length c.nodes → (j : ℕ) × (slice_get d.results n ≡ Some j) × (j < length d.nodes)
named c d n k None at stays below = absurd stays
named c d n k (Some j) at stays below = (j, at, stays.0 below)

pub names_shared : (S : Scheme) (c d : NetData) → NamesSame c d → NamesResults S c → NamesResults S d
names_shared S c d same names n o at_o gives =
    let found = names n o at_o gives in
    named c d n found.0 (slice_get d.results n) refl (same n found.0 found.1) found.2
