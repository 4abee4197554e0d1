-- What the definitions see of what the code has at hand.
use Rattle.bsv_mux.specs.declared.parts.Muxing.{Muxing}
use Rattle.bsv_mux.specs.Nexts.{Told}

abbrev pub told : Muxing → Told
told m = record { fires = m.firing.fires.now; sites = m.firing.sites.now; none = m.none }
