-- A rule and a method where they are in the body of a module (Bluespec reference guide, "Rules", "Methods").
use Rattle.std.specs.Prelude.{ℕ, ◌+◌, nat_lt, List, [], ◌∷◌, ◌++◌, length, slice_get, Option, Some, None, Result, Ok, Err, if◌then◌else◌}
use Rattle.bsv_fail.specs.Given.{◌>>=◌}
use Rattle.bsv_types.specs.declared.modules.Method.{Method}
use Rattle.bsv_types.specs.declared.modules.Module.{Module}
use Rattle.bsv_types.specs.declared.modules.Rule.{Rule}
use Rattle.bsv_tree.specs.declared.tree.BuiltRule.{BuiltRule}
use Rattle.bsv_tree.specs.carrying.Working.{no_steps}
use Rattle.bsv_tree.specs.carrying.Carrying as carrying
use Rattle.bsv_elab.specs.declared.refused.LimitKind.TheVariants as limit
use Rattle.bsv_elab.specs.declared.refused.Refused.{Refused}
use Rattle.bsv_elab.specs.declared.refused.Refused.TheVariants as refused
use Rattle.bsv_elab.specs.declared.state.State.{State}
use Rattle.bsv_elab.specs.Names.{Named, new_name, take_name}
use Rattle.bsv_elab.specs.Statics.{Here, Builds, static_fault, site, count, carried, countable, put_at}

unfoldable pub most_elements : ℕ
most_elements = 512

abbrev pub rules_of : Option Module → List Rule
rules_of None = []
rules_of (Some m) = m.rules

abbrev pub methods_of : Option Module → List Method
methods_of None = []
methods_of (Some m) = m.methods

abbrev pub here_module : Here → Option Module
here_module here = slice_get here.modules here.within

abbrev pub built_rule : List ℕ → ℕ → ℕ → State → BuiltRule
built_rule name number position s = record { name = name; rule = number; position = position; bindings = s.scope.bindings }

abbrev pub with_rule : List ℕ → ℕ → ℕ → ℕ → State → State
with_rule name number position weight s = record {
  grown = record s.grown { rules = s.grown.rules + 1; weight = weight };
  scope = record s.scope { rules = s.scope.rules ++ built_rule name number position s ∷ [] };
}

abbrev pub with_elements : Named → State → State
with_elements names s = record { grown = s.grown; scope = record s.scope { elements = names } }

-- the name of the next rule of the name
unfoldable pub named_rule : Here → List ℕ → State → Result (List ℕ × State) Refused
named_rule here name s = new_name here.path name s.scope.elements >>= λ n. Ok (n.0, with_elements n.1 s)

abbrev pub weight_of : Here → Rule → State → Result ℕ Refused
weight_of here r s =
    carried (carrying.rule (site here s) r.condition r.body (no_steps (count s))) >>= λ w. Ok w.count.weight

-- it is carried out for its static part and its weight
abbrev pub rule_in : Here → ℕ → List ℕ → Rule → Builds
rule_in here number name r s =
    weight_of here r s >>= λ weight. Ok (with_rule name number (here.first + s.grown.rules) weight s)

-- first it is named
abbrev pub rule_from : Here → ℕ → Option Rule → Builds
rule_from here number None s = Err (static_fault here)
rule_from here number (Some r) s =
    named_rule here r.name s >>= λ n.
    if nat_lt n.1.grown.rules most_elements then rule_in here number n.0 r n.1
    else Err (refused.Limit limit.Elements most_elements)

unfoldable pub rule : Here → ℕ → Builds
rule here number s = rule_from here number (slice_get (rules_of (here_module here)) number) s

abbrev pub with_level : ℕ → ℕ → State → State
with_level number level s = record {
  grown = s.grown;
  scope = record s.scope { levels = put_at number level s.scope.levels };
}

-- it sees the variables that are defined before it
abbrev pub method_from : Here → ℕ → Option Method → Builds
method_from here number None s = Err (static_fault here)
method_from here number (Some m) s =
    take_name here.path m.name s.scope.elements >>= λ names. countable (length s.scope.bindings) >>= λ level.
    Ok (with_level number level (with_elements names s))

unfoldable pub method : Here → ℕ → Builds
method here number s = method_from here number (slice_get (methods_of (here_module here)) number) s
