-- The promise of the net of a design up to its firing.
use Rattle.std.proofs.Common.{◌≡◌, false, List, [], length, refl, sym, subst}
use Rattle.bsv_design.specs.declared.design.Design.{Design}
use Rattle.bsv_design.specs.declared.schedule.Need.{Need}
use Rattle.bsv_design.specs.declared.schedule.Schedule.{Schedule}
use Rattle.bsv_design.specs.design.Guards.{needs_of}
use Rattle.bsv_design.specs.scheme.Schemes.{design_scheme, kinds_of}
use Rattle.bsv_design.specs.scheme.Seen.{design_data}
use Rattle.bsv_clock.specs.Grounds.{IsScheduleOf, KeepsRules}
use Rattle.bsv_net.specs.declared.net_data.NetData.{NetData}
use Rattle.bsv_net.specs.declared.node.NetNode.{NetNode}
use Rattle.bsv_net.specs.Nets.{IsNet}
use Rattle.bsv_net.proofs.Grows.{Grows, grows_refl}
use Rattle.bsv_fire.specs.Nets.{IsFiringNet, ground, net, inputs, count}
use Rattle.bsv_fire.specs.Firing.{Fires}
use Rattle.bsv_ports.specs.Starts.{first_nodes}
use Rattle.bsv_fire.specs.FireBuilder.{none_placed}
use Rattle.bsv_fire.proofs.AllTold.{net_told}
use Rattle.bsv_fire.proofs.Firings.{scene}
use Rattle.bsv_fire.proofs.GroundTold.{ground_told}
use Rattle.bsv_fire.proofs.Promise.{fires, lawful_too, scheduled_too}
use Rattle.bsv_fire.proofs.Steps.{grown_grows}
use Rattle.bsv_fire.proofs.Structure.{Holds, grown_holds, none_holds}

module _ (d : Design) (needs : List (List Need)) (made : Schedule) where
  abbrev first : List NetNode
  first = first_nodes (length (inputs (design_data d) needs made)) (count (design_data d) needs made)

  holds : Holds d.elements (net (design_data d) needs made) made.urgency
  unfolding net design_scheme
  holds =
      grown_holds (ground (design_data d) needs made) (none_placed (kinds_of (design_data d)) (length d.elements) first) [] made.urgency
      (none_holds (kinds_of (design_data d)) d.elements first)

  grows : Grows first (net (design_data d) needs made).nodes
  unfolding net design_scheme
  grows = grown_grows (ground (design_data d) needs made) (none_placed (kinds_of (design_data d)) (length d.elements) first) made.urgency

  pub kept : KeepsRules (design_scheme (design_data d)) → IsScheduleOf (design_scheme (design_data d)) made → needs ≡ needs_of (kinds_of (design_data d)) d.elements
      → (c : NetData) → IsFiringNet (design_data d) needs made c → ∥ IsNet c ∥₁ → Fires false (design_scheme (design_data d)) made c
  unfolding net design_scheme
  kept rules scheduled are c is ordered =
      fires d needs made rules scheduled are c is ordered holds here
      (λ right in_order xs stands q s ws fit have shows.
      let lawful = lawful_too d needs made rules scheduled are c is ordered holds here xs stands in
      let scheduled_with = scheduled_too d needs made rules scheduled are c is ordered holds here xs stands in
      let z = scene (design_data d) right needs made xs stands lawful scheduled_with are c is in_order q s ws fit have in
      net_told z (ground (design_data d) needs made) (ground_told z needs are refl shows here) first (subst (λ (ns : List NetNode). Grows ns c.nodes) is.nodes (grows_refl c.nodes)))
    where
      here : Grows first c.nodes
      here = subst (λ (ns : List NetNode). Grows first ns) (sym is.nodes) grows
