-- What is beside nodes of given widths, as one test.
use Rattle.std.specs.Prelude.{ℕ, Bool, ◌&&◌, List}
use Rattle.std.specs.List.{list_all}
use Rattle.bsv_design.specs.declared.element.Element.{Element}
use Rattle.bsv_design.specs.declared.kind.Kind.{Kind}
use Rattle.bsv_design.specs.design.Roles.{gives_value}
use Rattle.bsv_design.specs.design.Widths.{call_fits, condition_fits, port_fits, result_fits}

-- calls, conditions, the result and the arguments have the widths that they need
abbrev pub fits : List Kind → Element → List ℕ → Bool
fits ks e ws =
    list_all (call_fits ks ws) e.calls && list_all (condition_fits ws) e.conditions && result_fits ws (gives_value e.role) e.result
    && list_all port_fits e.arguments
