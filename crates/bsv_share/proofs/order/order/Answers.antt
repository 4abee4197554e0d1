use Rattle.std.proofs.Common.{◌≡◌, ◌∙◌, ℕ, Bool, List, All, map, true, ap, subst}
use Rattle.bsv_net.specs.AtHand.{net_data}
use Rattle.bsv_share.specs.declared.order.Rank.{Rank}
use Rattle.bsv_share.specs.Ordering.{PlacesReached, is_marked}
use Rattle.bsv_share.proofs.Marks.{places_reached}
use Rattle.bsv_share.proofs.Shared.{where_ok}
use Rattle.bsv_share.proofs.order.order.Goals as goal

pub returns : goal.returns
returns c =
    let marks : List Bool = c.in_ok-marks.marks in
    let ranks : List Rank = c.in_ok-found.found.items in
    let sorted : List Rank = c.sort.new.self.items in
    let all : All (λ (r : Rank). is_marked marks r.place ≡ true) ranks =
    subst (λ (bs : List Bool). All (λ (r : Rank). is_marked bs r.place ≡ true) ranks) c.as_slice-2.ensures c.in_ok-found.ensures in
    where_ok c.places.result (λ (ns : List ℕ). ns ≡ map (λ (r : Rank). r.place) c.deref.result.now) (λ (ns : List ℕ). PlacesReached (net_data c.args.net.now) ns)
    (λ (ns : List ℕ) e.
    places_reached (net_data c.args.net.now) marks ranks sorted ns c.in_ok-marks.ensures all c.in_ok-sort.ensures.permutation
    (e ∙ ap (map (λ (r : Rank). r.place)) c.deref.ensures.value))
    c.places.ensures
