-- What elements are (Bluespec reference guide, "Rules", "Method declarations").
use Rattle.std.specs.Prelude.{Bool, true, false}
use Rattle.bsv_design.specs.declared.element.Role.{Role}
use Rattle.bsv_design.specs.declared.element.Role.TheVariants as role

abbrev pub is_rule : Role → Bool
is_rule role.Rule = true
is_rule _ = false

-- a method that gives a value and does not act
abbrev pub is_value : Role → Bool
is_value role.Value = true
is_value _ = false

abbrev pub gives_value : Role → Bool
gives_value role.Value = true
gives_value role.ActionValue = true
gives_value _ = false
