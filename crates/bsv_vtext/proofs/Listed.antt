-- Ports that are listed one after the other.
use Rattle.std.proofs.Common.{◌≡◌, ◌∙◌, ℕ, Bool, Option, List, ◌∷◌, ◌++◌, ap, sym}
use Rattle.std.proofs.lemmas.Grind.{flat_map-append}
use Rattle.bsv_vtext.specs.declared.tree.VWire.{VWire}
use Rattle.bsv_vtext.specs.declared.ports.Listing.{Listing}
use Rattle.bsv_vtext.specs.Signals.{argument_ports, enable_ports, ready_port, result_ports, ports_of}
use Rattle.bsv_vtext.specs.AtHand.{listed, port_text}

pub listed-ports_of : (l : Listing) (m : List ℕ) (args : List VWire) (action : Bool) (result : Option ℕ)
    → listed l (argument_ports m args) ++ (listed l (enable_ports m action) ++ (port_text l (ready_port m) ++ listed l (result_ports m result)))
    ≡ listed l (ports_of m args action result)
listed-ports_of l m args action result =
    ap (λ (t : List ℕ). listed l (argument_ports m args) ++ t) (sym (flat_map-append (port_text l) (enable_ports m action) (ready_port m ∷ result_ports m result)))
    ∙ sym (flat_map-append (port_text l) (argument_ports m args) (enable_ports m action ++ (ready_port m ∷ result_ports m result)))
