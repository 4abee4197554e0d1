-- What the definitions see of a design, and of requests.
use Rattle.bsv_design.specs.declared.design.Design.{Design}
use Rattle.bsv_design.specs.declared.requests.Requests.{Requests}
use Rattle.bsv_design.specs.design.Designs.{DesignData}
use Rattle.bsv_design.specs.scheme.Schemes.{Asking}

abbrev pub design_data : Design → DesignData
design_data d = record { name = d.name; elements = d.elements; parts = d.parts; pairs = d.pairs; asserts = d.asserts }

abbrev pub asking : Requests → Asking
asking q = record { asked = q.asked; args = q.args.items }
