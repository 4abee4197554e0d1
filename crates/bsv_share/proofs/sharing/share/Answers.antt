use Rattle.std.proofs.Common.{ℕ, List, subst, sym}
use Rattle.bsv_net.specs.declared.net.Net.{Net}
use Rattle.bsv_net.specs.AtHand.{net_data}
use Rattle.bsv_share.specs.Moving.{IsMoveOf}
use Rattle.bsv_share.specs.Ordering.{PlacesReached}
use Rattle.bsv_share.specs.Sharing as spec
use Rattle.bsv_share.proofs.Alike.{carries_same}
use Rattle.bsv_share.proofs.Needed.{needed_net}
use Rattle.bsv_share.proofs.Shared.{shared, where_ok}
use Rattle.bsv_share.proofs.sharing.share.Goals as goal

pub returns-clause-gives : goal.returns-clause-gives
returns-clause-gives c =
    let from : List ℕ = c.as_slice.result.now in
    let m : Net = c.args.net.now in
    let f : Net = c.in_ok-folded.folded in
    where_ok c.moved.result (λ (n : Net). IsMoveOf from (net_data f) (net_data n)) (λ (n : Net). spec.GivesSame (net_data m) (net_data n))
    (λ (n : Net) h. (shared m f n from c.in_ok-folded.ensures h).alike.gives_same) c.moved.ensures

pub returns-clause-results : goal.returns-clause-results
returns-clause-results c =
    let from : List ℕ = c.as_slice.result.now in
    let m : Net = c.args.net.now in
    let f : Net = c.in_ok-folded.folded in
    where_ok c.moved.result (λ (n : Net). IsMoveOf from (net_data f) (net_data n)) (λ (n : Net). spec.NamesSame (net_data m) (net_data n))
    (λ (n : Net) h. (shared m f n from c.in_ok-folded.ensures h).alike.names_same) c.moved.ensures

pub returns-clause-carries : goal.returns-clause-carries
returns-clause-carries c =
    let from : List ℕ = c.as_slice.result.now in
    let m : Net = c.args.net.now in
    let f : Net = c.in_ok-folded.folded in
    where_ok c.moved.result (λ (n : Net). IsMoveOf from (net_data f) (net_data n)) (λ (n : Net). spec.CarriesSame m n)
    (λ (n : Net) h. carries_same m n (shared m f n from c.in_ok-folded.ensures h).alike) c.moved.ensures

pub returns-clause-folded : goal.returns-clause-folded
returns-clause-folded c =
    let from : List ℕ = c.as_slice.result.now in
    let m : Net = c.args.net.now in
    let f : Net = c.in_ok-folded.folded in
    where_ok c.moved.result (λ (n : Net). IsMoveOf from (net_data f) (net_data n)) (λ (n : Net). spec.IsFolded n.nodes)
    (λ (n : Net) h. (shared m f n from c.in_ok-folded.ensures h).folded) c.moved.ensures

pub returns-clause-distinct : goal.returns-clause-distinct
returns-clause-distinct c =
    let from : List ℕ = c.as_slice.result.now in
    let m : Net = c.args.net.now in
    let f : Net = c.in_ok-folded.folded in
    where_ok c.moved.result (λ (n : Net). IsMoveOf from (net_data f) (net_data n)) (λ (n : Net). spec.IsDistinct n.nodes)
    (λ (n : Net) h. (shared m f n from c.in_ok-folded.ensures h).distinct) c.moved.ensures

pub returns-clause-needed : goal.returns-clause-needed
returns-clause-needed c =
    let from : List ℕ = c.as_slice.result.now in
    let f : Net = c.in_ok-folded.folded in
    let reached : PlacesReached (net_data f) from = subst (PlacesReached (net_data f)) (sym c.as_slice.ensures) c.in_ok-places.ensures in
    where_ok c.moved.result (λ (n : Net). IsMoveOf from (net_data f) (net_data n)) (λ (n : Net). spec.IsNeeded (net_data n))
    (λ (n : Net) h. needed_net from (net_data f) (net_data n) h reached) c.moved.ensures
